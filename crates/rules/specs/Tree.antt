-- Components of fields that grow rule by rule, from the last rule to the first: how rings are found.
-- Assumes nothing.
use Rattle.std.specs.Prelude.{ℕ, Bool, true, false, cond, List, [], ◌∷◌, map, ◌==◌}
use Rattle.rules.specs.Rules.{Rule, Distinct}

-- whether x stands in the list
abbrev pub member : ℕ → List ℕ → Bool
member x [] = false
member x (y ∷ ys) = cond (x == y) true (member x ys)

-- the fields of the scope's components come under one label
abbrev pub merge : (ℕ → ℕ) → List ℕ → ℕ → ℕ
merge L [] f = L f
merge L (g ∷ gs) f = cond (member (L f) (map L gs)) (L g) (L f)

-- the labels after all rules, the last rule first
abbrev pub labels : List Rule → ℕ → ℕ
labels [] = λ f. f
labels (r ∷ rs) = merge (labels rs) r.scope

-- no rule joins two fields that the rules behind it already join
abbrev pub Tree : List Rule → Type 0
Tree [] = Unit {0}
Tree (r ∷ rs) = Distinct (map (labels rs) r.scope) × Tree rs
