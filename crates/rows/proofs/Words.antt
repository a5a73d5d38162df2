-- What the operations on words do to their binary digits. Assumes nothing.
use Rattle.std.proofs.Common.{◌≡◌, ℕ, zero, suc, ◌+◌, ◌-◌, ◌*◌, ◌/◌, ◌%◌, ◌^◌, ◌<◌, ◌≤◌, Bool, true, false, not, ◌&&◌, ◌||◌, eqb, ltb, sym, refl, ap, ◌∙◌, subst, ap₂, ⊎_elim, lt_of_lt_of_le, mod-lt, mod-eq_of_lt, eq-zero-or-pos, one-mul, div-one, add-one, one-add, arith, lit<, pow_pos, pow_mono, pow-add, shr-shr}
use native.Mathlib.Nat.{div-eq_of_lt, mul-mod_left}
use lib.Arith.{lt-one}
use lib.Bits.{bit_and, bit_or, bit_xor, and_mask, xor_add_and, and_shr, or_shr, xor_shr, and_mod, or_mod, xor_mod}
use lib.Count.{ones, ones_cat, count_leading_zeros, leading_top, count_trailing_zeros, under}
use lib.Pow.{ones_split, ones_lt, high, low, split, shl-shr, field, mod-mod-pow}
use Rattle.std.proofs.lemmas.Nat.{one_shl, pow_below, div_below, le-div, shr_below}
use Rattle.std.proofs.lemmas.Bool.{cases_lt, cases_order, lt-ltb, le-ltb, eq-eqb, ne_eqb, both_ways}
use Rattle.rows.specs.Values.{how_many}
use Rattle.rows.specs.Words.{bit}
use Rattle.rows.proofs.Counts.{how_many_same, one_if}

two_pos : zero < 2
two_pos = omega arith

-- ---- the operations, digit by digit

-- one digit against one digit
abbrev exclusive : Bool → Bool → Bool
exclusive true b = not b
exclusive false b = b

digit_and : (x y : ℕ) → x < 2 → y < 2 → eqb (bit_and x y) 1 ≡ (eqb x 1 && eqb y 1)
digit_and zero y hx hy = refl
digit_and (suc zero) zero hx hy = refl
digit_and (suc zero) (suc zero) hx hy = refl
digit_and (suc zero) (suc (suc y)) hx hy = absurd (omega arith)
digit_and (suc (suc x)) y hx hy = absurd (omega arith)

digit_or : (x y : ℕ) → x < 2 → y < 2 → eqb (bit_or x y) 1 ≡ (eqb x 1 || eqb y 1)
digit_or zero y hx hy = refl
digit_or (suc zero) zero hx hy = refl
digit_or (suc zero) (suc zero) hx hy = refl
digit_or (suc zero) (suc (suc y)) hx hy = absurd (omega arith)
digit_or (suc (suc x)) y hx hy = absurd (omega arith)

digit_xor : (x y : ℕ) → x < 2 → y < 2 → eqb (bit_xor x y) 1 ≡ exclusive (eqb x 1) (eqb y 1)
digit_xor zero y hx hy = refl
digit_xor (suc zero) zero hx hy = refl
digit_xor (suc zero) (suc zero) hx hy = refl
digit_xor (suc zero) (suc (suc y)) hx hy = absurd (omega arith)
digit_xor (suc (suc x)) y hx hy = absurd (omega arith)

-- an operation that works on each digit apart
module _ (op : ℕ → ℕ → ℕ) (on : Bool → Bool → Bool)
    (shr : (a b k : ℕ) → op a b / 2 ^ k ≡ op (a / 2 ^ k) (b / 2 ^ k))
    (low-digits : (a b k : ℕ) → op a b % 2 ^ k ≡ op (a % 2 ^ k) (b % 2 ^ k))
    (digit : (x y : ℕ) → x < 2 → y < 2 → eqb (op x y) 1 ≡ on (eqb x 1) (eqb y 1)) where
  bit_by : (a b k : ℕ) → bit (op a b) k ≡ on (bit a k) (bit b k)
  unfolding bit
  bit_by a b k =
      ap (λ n. eqb (n % 2) 1) (shr a b k) ∙ ap (λ n. eqb n 1) (low-digits (a / 2 ^ k) (b / 2 ^ k) 1)
      ∙ digit (a / 2 ^ k % 2) (b / 2 ^ k % 2) (mod-lt (a / 2 ^ k) two_pos) (mod-lt (b / 2 ^ k) two_pos)

pub bit_of_and : (a b k : ℕ) → bit (bit_and a b) k ≡ (bit a k && bit b k)
bit_of_and = bit_by bit_and ◌&&◌ and_shr and_mod digit_and

pub bit_of_or : (a b k : ℕ) → bit (bit_or a b) k ≡ (bit a k || bit b k)
bit_of_or = bit_by bit_or ◌||◌ or_shr or_mod digit_or

bit_of_xor : (a b k : ℕ) → bit (bit_xor a b) k ≡ exclusive (bit a k) (bit b k)
bit_of_xor = bit_by bit_xor exclusive xor_shr xor_mod digit_xor

-- `(a >> k) & 1`
pub bit_read : (a k : ℕ) → eqb (bit_and (a / 2 ^ k) 1) 1 ≡ bit a k
unfolding bit
bit_read a k = ap (λ n. eqb n 1) (and_mask (a / 2 ^ k) 1)

-- ---- words that are written out

pub bit_zero : (k : ℕ) → bit 0 k ≡ false
unfolding bit
bit_zero k = ap (λ n. eqb (n % 2) 1) (div-eq_of_lt (pow_pos k))

-- a word below 2 ^ w has no digit from w on
pub bit_above : (n w k : ℕ) → n < 2 ^ w → w ≤ k → bit n k ≡ false
unfolding bit
bit_above n w k l h = ap (λ m. eqb (m % 2) 1) (div-eq_of_lt (lt_of_lt_of_le l (pow_mono h)))

-- cutting a word at w keeps the digits below w
pub bit_below : (n w k : ℕ) → k < w → bit (n % 2 ^ w) k ≡ bit n k
unfolding bit
bit_below n w k l =
    let d = w - (k + 1) in
    let at : w ≡ (d + 1) + k = omega arith in
    ap (λ m. eqb (n % 2 ^ m / 2 ^ k % 2) 1) at ∙ ap (λ m. eqb (m % 2) 1) (field n (d + 1) k)
    ∙ ap (λ m. eqb m 1) (mod-mod-pow (n / 2 ^ k) d 1)

-- the j low digits are set, and no other
pub bit_ones : (j k : ℕ) → bit (2 ^ j - 1) k ≡ ltb k j
unfolding bit
bit_ones j k =
    ⊎_elim
    (λ l.
    let d = j - (k + 1) in
    let at : j ≡ (d + 1) + k = omega arith in
    let whole : (2 ^ j - 1) / 2 ^ k ≡ 2 ^ (d + 1) - 1 = ap (λ m. (2 ^ m - 1) / 2 ^ k) at ∙ ap (λ m. m / 2 ^ k) (ones_split (d + 1) k) ∙ high (2 ^ (d + 1) - 1) k (ones_lt k) in
    let odd : (2 ^ (d + 1) - 1) % 2 ≡ 1 = ap (λ m. m % 2) (ones_split d 1) ∙ low (2 ^ d - 1) 1 (lit< tt) in
    ap (λ m. eqb (m % 2) 1) whole ∙ ap (λ m. eqb m 1) odd ∙ sym (lt-ltb k j l))
    (λ h. bit_above (2 ^ j - 1) j k (ones_lt j) h ∙ sym (le-ltb k j h))
    (cases_lt k j)

-- `(1 << n) - 1` at w digits
pub bit_low_ones : (w n k : ℕ) → n < w → bit ((1 * 2 ^ n) % 2 ^ w - 1) k ≡ ltb k n
bit_low_ones w n k l = ap (λ m. bit (m - 1) k) (one_shl n w l) ∙ bit_ones n k

exclusive_true : (x : Bool) → exclusive x true ≡ not x
exclusive_true true = refl
exclusive_true false = refl

-- `!a` at w digits: each of them is turned
pub bit_not : (w a k : ℕ) → a < 2 ^ w → k < w → bit (2 ^ w - 1 - a) k ≡ not (bit a k)
bit_not w a k l h =
    let mask = 2 ^ w - 1 in
    let kept : bit_and a mask ≡ a = and_mask a w ∙ mod-eq_of_lt l in
    let turned : bit_xor a mask ≡ mask - a = omega (arith, xor_add_and a mask) in
    ap (λ n. bit n k) (sym turned) ∙ bit_of_xor a mask k ∙ ap (exclusive (bit a k)) (bit_ones w k ∙ lt-ltb k w h) ∙ exclusive_true (bit a k)

-- digit j is set, and no other
pub bit_single : (j k : ℕ) → bit (2 ^ j) k ≡ eqb k j
unfolding bit
bit_single j k =
    ⊎_elim
    (λ e.
    let one : 2 ^ j / 2 ^ k ≡ 1 = ap (λ m. 2 ^ j / 2 ^ m) e ∙ ap (λ m. m / 2 ^ j) (sym (one-mul (2 ^ j))) ∙ shl-shr 1 j in
    ap (λ m. eqb (m % 2) 1) one ∙ sym (eq-eqb k j e))
    (⊎_elim
    (λ l.
    let d = j - (k + 1) in
    let at : j ≡ (d + 1) + k = omega arith in
    let whole : 2 ^ j / 2 ^ k ≡ 2 ^ (d + 1) = ap (λ m. 2 ^ m / 2 ^ k) at ∙ ap (λ m. m / 2 ^ k) (pow-add 2 (d + 1) k) ∙ shl-shr (2 ^ (d + 1)) k in
    let even : 2 ^ (d + 1) % 2 ≡ 0 = ap (λ m. m % 2) (pow-add 2 d 1) ∙ mul-mod_left (2 ^ d) 2 in
    ap (λ m. eqb (m % 2) 1) whole ∙ ap (λ m. eqb m 1) even ∙ sym (ne_eqb k j (λ e. omega arith)))
    (λ h. bit_above (2 ^ j) (suc j) k (pow_below j (suc j) (omega arith)) h ∙ sym (ne_eqb k j (λ e. omega arith))))
    (cases_order k j)

-- ---- the highest and the lowest digit that is set

half_below : (n w : ℕ) → n < 2 ^ suc w → n / 2 < 2 ^ w
half_below n w l = shr_below n w 1 (subst (λ m. n < 2 ^ m) (sym (add-one w)) l)

-- the highest digit of n that is set, told by the zeros above it among w digits
pub record Top (w n : ℕ) : Type 0 where
  pub place : ℕ
  pub told : count_leading_zeros w n + (place + 1) ≡ w
  pub is_set : bit n place ≡ true
  pub bound : (k : ℕ) → place < k → bit n k ≡ false

pub top : (w n : ℕ) → 0 < n → n < 2 ^ w → Top w n
unfolding bit
top w n p l =
    let t = leading_top w n p l in
    let j = t.0 in
    let most : n / 2 ^ j < 2 = div_below n (2 ^ j) 2 (pow_pos j) (subst (λ m. n < m) (pow-add 2 1 j ∙ refl) (subst (λ m. n < 2 ^ m) (sym (one-add j)) t.3)) in
    let least : 1 ≤ n / 2 ^ j = le-div 1 n (2 ^ j) (pow_pos j) (subst (λ m. m ≤ n) (sym (one-mul (2 ^ j))) t.2) in
    let one : n / 2 ^ j ≡ 1 = omega arith in
    record {
      place = j;
      told = ap (λ m. count_leading_zeros w n + m) (add-one j) ∙ t.1;
      is_set = ap (λ m. eqb (m % 2) 1) one;
      bound = λ k h. bit_above n (suc j) k t.3 h;
    }

-- a word with no digit set is 0
pub none_set : (w n : ℕ) → n < 2 ^ w → ((k : ℕ) → k < w → bit n k ≡ false) → n ≡ 0
none_set w n l none =
    ⊎_elim
    (λ e. e)
    (λ p. let t = top w n p l in absurd (both_ways (bit n t.place) (none t.place (omega (arith, t.told))) t.is_set))
    (eq-zero-or-pos n)

bit_first : (n : ℕ) → bit n 0 ≡ eqb (n % 2) 1
unfolding bit
bit_first n = ap (λ m. eqb (m % 2) 1) (div-one n)

bit_next : (n k : ℕ) → bit n (suc k) ≡ bit (n / 2) k
unfolding bit
bit_next n k = ap (λ m. eqb (n / 2 ^ m % 2) 1) (sym (one-add k)) ∙ ap (λ m. eqb (m % 2) 1) (sym (shr-shr n 1 k))

-- digit t is the lowest of the w digits of n that is set
pub record Low (w n t : ℕ) : Type 0 where
  pub within : t < w
  pub is_set : bit n t ≡ true
  pub bound : (k : ℕ) → k < t → bit n k ≡ false

pub lowest : (w n : ℕ) → 0 < n → n < 2 ^ w → Low w n (count_trailing_zeros w n)
unfolding count_trailing_zeros
lowest zero n p l = absurd (omega arith)
lowest (suc w) n p l = go (n % 2) refl (mod-lt n two_pos) (λ q. lowest w (n / 2) q (half_below n w l))
  where
    later : (t : ℕ) → n % 2 ≡ 0 → Low w (n / 2) t → (k : ℕ) → k < suc t → bit n k ≡ false
    later t e r zero h = bit_first n ∙ ap (λ m. eqb m 1) e
    later t e r (suc k) h = bit_next n k ∙ r.bound k (omega arith)

    go : (d : ℕ) → n % 2 ≡ d → d < 2 → (0 < n / 2 → Low w (n / 2) (count_trailing_zeros w (n / 2))) → Low (suc w) n (under d (count_trailing_zeros w (n / 2)))
    go zero e h rest =
        let r = rest (omega arith) in
        record {
          within = omega (arith, r.within);
          is_set = bit_next n (count_trailing_zeros w (n / 2)) ∙ r.is_set;
          bound = later (count_trailing_zeros w (n / 2)) e r;
        }
    go (suc zero) e h rest = record { within = omega arith; is_set = bit_first n ∙ ap (λ m. eqb m 1) e; bound = λ k b. absurd (omega arith) }
    go (suc (suc d)) e h rest = absurd (omega arith)

-- ---- how many digits are set

ones_digit : (x : ℕ) → x < 2 → ones x ≡ one_if (eqb (x % 2) 1)
unfolding ones
ones_digit zero h = refl
ones_digit (suc zero) h = refl
ones_digit (suc (suc x)) h = absurd (omega arith)

pub ones_are : (w n : ℕ) → n < 2 ^ w → ones n ≡ how_many w (bit n)
unfolding bit how_many
ones_are zero n l = ap ones (lt-one l) ∙ ones_digit 0 (lit< tt)
ones_are (suc w) n l =
    let most : n / 2 ^ w < 2 = shr_below n 1 w (subst (λ m. n < 2 ^ m) (sym (one-add w)) l) in
    ap ones (sym (split n w)) ∙ ones_cat w (n / 2 ^ w) (n % 2 ^ w) (mod-lt n (pow_pos w))
    ∙ ap₂ ◌+◌ (ones_digit (n / 2 ^ w) most)
    (ones_are w (n % 2 ^ w) (mod-lt n (pow_pos w)) ∙ how_many_same w (bit (n % 2 ^ w)) (bit n) (λ k h. bit_below n w k h))
