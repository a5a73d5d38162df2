-- Sums over the fields of a scope. Assumes nothing.
use Rattle.std.proofs.Common.{◌≡◌, ℕ, ◌+◌, ◌<◌, ◌≤◌, cond, eqb, List, [], ◌∷◌, map, length, get_or, take, sum_by, sum, sym, refl, ap, ◌∙◌, subst, inl, inr, arith}
use Rattle.std.proofs.lemmas.List.Sums.{sum_by-cons, sum_by_more, sum-map}
use Rattle.std.proofs.lemmas.Bool.{eq-eqb, ne_eqb, cond-true, cond-false}
use Rattle.rules.specs.Rules.{Sets, In, Distinct}
use Rattle.frames.specs.Parts.{low, fields, least_total}
use Rattle.frames.specs.declared.record.Part.{Part}

-- one number more in front
sum_cons : (x : ℕ) (xs : List ℕ) → sum (x ∷ xs) ≡ x + sum xs
sum_cons x xs = sum_by-cons (λ y. y) x xs

-- a line that is nowhere below another has no smaller sum
pub sum_up : (a b : ℕ → ℕ) (xs : List ℕ) → ((g : ℕ) → In g xs → a g ≤ b g) → sum (map a xs) ≤ sum (map b xs)
sum_up a b [] h = omega arith
sum_up a b (x ∷ xs) h =
    omega (arith, sum_cons (a x) (map a xs), sum_cons (b x) (map b xs), h x (inl refl), sum_up a b xs (λ g k. h g (inr k)))

-- and by as much larger a sum as it is above at one field
pub sum_above : (a b : ℕ → ℕ) (xs : List ℕ) (f : ℕ) → In f xs → ((g : ℕ) → In g xs → a g ≤ b g) → sum (map a xs) + b f ≤ sum (map b xs) + a f
sum_above a b [] f k h = absurd k
sum_above a b (x ∷ xs) f (inl e) h =
    omega (arith, sum_cons (a x) (map a xs), sum_cons (b x) (map b xs), ap a e, ap b e, sum_up a b xs (λ g k. h g (inr k)))
sum_above a b (x ∷ xs) f (inr k) h =
    omega (arith, sum_cons (a x) (map a xs), sum_cons (b x) (map b xs), h x (inl refl), sum_above a b xs f k (λ g j. h g (inr j)))

-- a with the value v at field f
abbrev pub put : (ℕ → ℕ) → ℕ → ℕ → ℕ → ℕ
put a f v g = cond (eqb g f) v (a g)

pub put_same : (a : ℕ → ℕ) (f v : ℕ) → put a f v f ≡ v
put_same a f v = cond-true (eqb f f) v (a f) (eq-eqb f f refl)

pub put_other : (a : ℕ → ℕ) (f v g : ℕ) → (g ≡ f → ⊥) → put a f v g ≡ a g
put_other a f v g ne = cond-false (eqb g f) v (a g) (ne_eqb g f ne)

-- away from f nothing changes
put_away : (a : ℕ → ℕ) (f v : ℕ) (xs : List ℕ) → (In f xs → ⊥) → sum (map (put a f v) xs) ≡ sum (map a xs)
put_away a f v [] h = refl
put_away a f v (x ∷ xs) h =
    omega (arith, sum_cons (put a f v x) (map (put a f v) xs), sum_cons (a x) (map a xs), put_other a f v x (λ e. h (inl (sym e))), put_away a f v xs (λ k. h (inr k)))

-- where no field stands twice, the sum changes by the one value
pub sum_put : (a : ℕ → ℕ) (f v : ℕ) (xs : List ℕ) → In f xs → Distinct xs → sum (map (put a f v) xs) + a f ≡ sum (map a xs) + v
sum_put a f v [] k apart = absurd k
sum_put a f v (x ∷ xs) (inl e) apart =
    omega (arith, sum_cons (put a f v x) (map (put a f v) xs), sum_cons (a x) (map a xs), ap (put a f v) e, put_same a f v, ap a e, put_away a f v xs (λ k. apart.0 (subst (λ y. In y xs) e k)))
sum_put a f v (x ∷ xs) (inr k) apart =
    omega (arith, sum_cons (put a f v x) (map (put a f v) xs), sum_cons (a x) (map a xs), put_other a f v x (λ e. apart.0 (subst (λ y. In y xs) (sym e) k)), sum_put a f v xs k apart.1)

-- the least values by parts
low_sum : (S : Sets) (ps : List Part) → sum (map (low S) (fields ps)) ≡ sum_by (λ p. low S p.field) ps
low_sum S [] = refl
low_sum S (p ∷ ps) =
    sum_cons (low S p.field) (map (low S) (fields ps)) ∙ ap (λ n. low S p.field + n) (low_sum S ps) ∙ sym (sum_by-cons (λ q. low S q.field) p ps)

-- one part more
pub more_total : (S : Sets) (ps : List Part) (i : ℕ) (d : Part) → i < length ps
    → least_total S (take (i + 1) ps) ≡ least_total S (take i ps) + ((get_or ps i d).load + low S (get_or ps i d).field)
more_total S ps i d h =
    omega (
      arith,
      low_sum S (take (i + 1) ps),
      low_sum S (take i ps),
      sum-map (λ p. p.load) (take (i + 1) ps),
      sum-map (λ p. p.load) (take i ps),
      sum_by_more (λ p. low S p.field) ps i d h,
      sum_by_more (λ p. p.load) ps i d h,
    )
