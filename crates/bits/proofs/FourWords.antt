-- How many values four words have. Assumes nothing.
use Rattle.std.proofs.Common.{◌≡◌, ℕ, ◌+◌, ◌-◌, ◌*◌, ◌/◌, ◌%◌, ◌<◌, ◌≤◌, true, false, ◌&&◌, List, [], ◌∷◌, length, map, sum, get_or, ap, ◌∙◌, ap₂, arith, lit<, ⊎_elim, refl, Option, Some, None}
use Rattle.std.proofs.lemmas.Nat.{div-mul-add, mod-mul-add}
use Rattle.std.proofs.lemmas.Bool.{lt-ltb, le-ltb, cases_lt}
use Rattle.rows.specs.Values.{Values, how_many, Empty, GreatestOf, Greatest}
use Rattle.rows.specs.Words.{bit}
use Rattle.rows.proofs.Counts.{how_many_add, how_many_same, how_many_none}
use Rattle.bits.specs.declared.record.Bits.{Bits}
use Rattle.bits.specs.Reads.{bits_have}

-- the numbers in word i
abbrev in_word : Bits → ℕ → ℕ
in_word r i = how_many 64 (bit (get_or r.words i 0))

-- the values of 64 i and up are those of word i
part : (r : Bits) (i : ℕ) → i < 4 → how_many 64 (λ k. bits_have r (i * 64 + k)) ≡ in_word r i
part r i h =
    how_many_same 64 (λ k. bits_have r (i * 64 + k)) (bit (get_or r.words i 0))
    (λ k l.
    ap (λ b. b && bit (get_or r.words ((i * 64 + k) / 64) 0) ((i * 64 + k) % 64)) (lt-ltb (i * 64 + k) 256 (omega arith))
    ∙ ap₂ (λ w d. bit (get_or r.words w 0) d) (div-mul-add i 64 k l) (mod-mul-add i 64 k l))

-- the values of a row are counted word by word
pub sum_of_words : (r : Bits) → in_word r 0 + in_word r 1 + in_word r 2 + in_word r 3 ≡ how_many 256 (bits_have r)
sum_of_words r =
    let p = bits_have r in
    let from : ℕ → ℕ = λ n. how_many 64 (λ k. p (n + k)) in
    let a3 : how_many 256 p ≡ from 192 + how_many 192 p = how_many_add 64 192 p in
    let a2 : how_many 192 p ≡ from 128 + how_many 128 p = how_many_add 64 128 p in
    let a1 : how_many 128 p ≡ from 64 + how_many 64 p = how_many_add 64 64 p in
    let a0 : how_many 64 p ≡ from 0 + how_many 0 p = how_many_add 64 0 p in
    let none : how_many 0 p ≡ 0 = how_many_none 0 p (λ v l. absurd (omega arith)) in
    let w0 : from 0 ≡ in_word r 0 = part r 0 (lit< tt) in
    let w1 : from 64 ≡ in_word r 1 = part r 1 (lit< tt) in
    let w2 : from 128 ≡ in_word r 2 = part r 2 (lit< tt) in
    let w3 : from 192 ≡ in_word r 3 = part r 3 (lit< tt) in
    omega arith

-- a sum over four words
four : (h : ℕ → ℕ) (ws : List ℕ) → length ws ≡ 4 → sum (map h ws) ≡ h (get_or ws 0 0) + h (get_or ws 1 0) + h (get_or ws 2 0) + h (get_or ws 3 0)
four h (a ∷ b ∷ c ∷ d ∷ []) l = omega arith
four h ws l = absurd (omega arith)

-- the numbers in the words together are the values of the row
pub sum_of_list : (r : Bits) → length r.words ≡ 4 → sum (map (λ w. how_many 64 (bit w)) r.words) ≡ how_many 256 (bits_have r)
sum_of_list r l = four (λ w. how_many 64 (bit w)) r.words l ∙ sum_of_words r

-- a value is the greatest where its place is the greatest of its word, and the words after it are empty
pub greatest_at : (r : Bits) (i v : ℕ) → i < 4 → 64 * i ≤ v → v < 64 * i + 64 → GreatestOf (bit (get_or r.words i 0)) (v - 64 * i)
    → ((j : ℕ) → i < j → j < 4 → Empty (bit (get_or r.words j 0))) → GreatestOf (bits_have r) v
greatest_at r i v h low high top none = record { member = there; bound = above }
  where
    there : bits_have r v ≡ true
    there =
        let word : v / 64 ≡ i = omega arith in
        let bit_of : v % 64 ≡ v - 64 * i = omega arith in
        ap₂ ◌&&◌ (lt-ltb v 256 (omega arith)) (ap₂ (λ w k. bit (get_or r.words w 0) k) word bit_of ∙ top.member)

    above : (w : ℕ) → v < w → bits_have r w ≡ false
    above w l =
        ⊎_elim
        (λ within. ap₂ ◌&&◌ (lt-ltb w 256 within) (in_its_word within))
        (λ out. ap (λ b. b && bit (get_or r.words (w / 64) 0) (w % 64)) (le-ltb w 256 out))
        (cases_lt w 256)
      where
        in_its_word : w < 256 → bit (get_or r.words (w / 64) 0) (w % 64) ≡ false
        in_its_word within =
            ⊎_elim
            (λ later. none (w / 64) later (omega arith) (w % 64))
            (λ not_later.
            let same : w / 64 ≡ i = omega arith in
            ap (λ j. bit (get_or r.words j 0) (w % 64)) same ∙ top.bound (w % 64) (omega arith))
            (cases_lt i (w / 64))

-- no word has a number
pub none_at : (r : Bits) → ((j : ℕ) → j < 4 → Empty (bit (get_or r.words j 0))) → Empty (bits_have r)
none_at r none v =
    ⊎_elim
    (λ within. ap₂ ◌&&◌ (lt-ltb v 256 within) (none (v / 64) (omega arith) (v % 64)))
    (λ out. ap (λ b. b && bit (get_or r.words (v / 64) 0) (v % 64)) (le-ltb v 256 out))
    (cases_lt v 256)

-- a greatest value, or that there is none
pub greatest_of : (p : Values) (r : Option ℕ) → (r ≡ None → Empty p) → ((v : ℕ) → r ≡ Some v → GreatestOf p v) → Greatest p r
greatest_of p None none some = none refl
greatest_of p (Some v) none some = some v refl
