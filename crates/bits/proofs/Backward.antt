-- A run from the end of a range. Assumes nothing.
use Rattle.std.proofs.Common.{◌≡◌, ℕ, zero, suc, ◌+◌, ◌-◌, ◌<◌, ◌≤◌, true, List, [], ◌∷◌, length, take, Option, None, Some, slice_get, add-one, sym, refl, ap, ap₂, ◌∙◌, arith}
use Rattle.std.proofs.lemmas.Grind.{common_steps}
use Rattle.std.specs.declared.iter.Rev.{Rev}
use Rattle.std.specs.declared.ops.Range.{Range}
use Rattle.std.specs.Range.{range_steps_back}
use Rattle.std.specs.Iterator.Runs.{Run, YieldsRun}
use Rattle.std.proofs.lemmas.List.{map-id}
use Rattle.std.proofs.lemmas.Iterator.{YieldsList, items_from_drains}
use Rattle.std.proofs.lemmas.Iterator.Consumers.{YieldsList-from_shown, YieldsList-so_far}

-- a call from the end of a range of numbers
abbrev pub back : Rev (Range ℕ) → Option ℕ → Rev (Range ℕ) → Type 0
back s r t = range_steps_back (λ a b. b - a) (λ a b. b ≡ a + 1) s.iter r t.iter

-- the numbers from a below a + n, greatest first
abbrev down : ℕ → ℕ → List ℕ
down a zero = []
down a (suc n) = (a + n) ∷ down a n

-- what is left of a range
abbrev shown : Rev (Range ℕ) → List ℕ
shown s = down s.iter.start (s.iter.end - s.iter.start)

-- at the end nothing is left
nothing : (s t : Rev (Range ℕ)) → back s None t → length (shown s) ≡ 0
nothing s t e = ap (λ n. length (down s.iter.start n)) e.1.0

-- a number more before those below it
one_less : (a n m : ℕ) → n ≡ m + 1 → down a n ≡ (a + m) ∷ down a m
one_less a n m e = ap (down a) (e ∙ add-one m)

-- a call gives the greatest of what is left
next : (s : Rev (Range ℕ)) (x : ℕ) (t : Rev (Range ℕ)) → back s (Some x) t → shown s ≡ x ∷ shown t
next s x t e =
    let a = s.iter.start in
    let m = t.iter.end - a in
    one_less a (s.iter.end - a) m (omega (arith, e.1.0, e.1.2))
    ∙ ap₂ (λ v vs. v ∷ vs) (omega (arith, e.1.0, e.1.1, e.1.2)) (ap (λ b. down b (t.iter.end - b)) (sym e.0))

-- the calls from the end give what is left, greatest first
yields : (s : Rev (Range ℕ)) → YieldsList back (λ x. x) s (shown s)
yields = YieldsList-from_shown back (λ x. x) shown nothing next

-- the numbers below 4, greatest first
abbrev four : List ℕ
four = 3 ∷ 2 ∷ 1 ∷ 0 ∷ []

-- number 3 - k stands at place k
place : (n k : ℕ) → k < n → n ≤ 4 → slice_get (take n four) k ≡ Some (3 - k)
place (suc n) zero l h = refl
place (suc (suc n)) (suc zero) l h = refl
place (suc (suc (suc n))) (suc (suc zero)) l h = refl
place (suc (suc (suc (suc n)))) (suc (suc (suc zero))) l h = refl
place n k l h = absurd (omega arith)

-- what a front of that list has
front : (xs : List ℕ) → xs ≡ take (length xs) four → (length xs ≤ 4) × ((j : ℕ) → j < 4 → 3 - j < length xs → slice_get xs (3 - j) ≡ Some j)
front xs e =
    let few : length xs ≤ 4 = grind (arith, common_steps, e) in
    (few, λ j h l. ap (λ ys. slice_get ys (3 - j)) e ∙ place (length xs) (3 - j) l few ∙ ap Some (omega arith))

-- calls from the end of the numbers below four give the greatest first: j stands behind those above it
pub four_back : (p : Run back) → p.from.iter ≡ record { start = 0; end = 4 } → (p.len ≤ 4) × (p.whole ≡ true → p.len ≡ 4) × ((j : ℕ) → j < 4 → 3 - j < p.len → p.at (3 - j) ≡ Some j)
unfolding YieldsRun
four_back p from =
    let all : shown p.from ≡ four = ap (λ r. down r.start (r.end - r.start)) from in
    let run = p.gave.0 in
    let so_far = sym (map-id p.items) ∙ YieldsList-so_far (yields p.from) p.items run.0 run.1 ∙ ap (take (length p.items)) all in
    let f = front p.items so_far in (
      omega (arith, p.long, f.0),
      λ w. p.long ∙ ap length (sym (map-id p.items) ∙ items_from_drains p.items (run.0, run.1, λ _. run.2 w) (yields p.from) ∙ all),
      λ j h l. p.gave.1 (3 - j) ∙ f.1 j h (omega (arith, p.long)),
    )
