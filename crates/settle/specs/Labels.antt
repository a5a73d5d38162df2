-- The labels of fields, as they are kept while rings are looked for.
-- Assumes nothing.
use Rattle.std.specs.Prelude.{◌≡◌, ℕ, ◌<◌, Bool, cond, List, map, Option, MatchOption, MatchBool, slice_index}
use Rattle.rules.specs.Rules.{Distinct}
use Rattle.rules.specs.Seen.{was_seen}
use Rattle.rules.specs.Tree.{member, merge}
use Rattle.rules.specs.declared.marks.Seen.{Seen}
use Rattle.settle.specs.declared.labels.Labels.{Labels}

-- the label of a field
abbrev pub label_of : Labels → ℕ → ℕ
label_of kept f = slice_index kept.of f

-- the fields below 256 have the labels that L gives them
abbrev pub Labelled : Labels → (ℕ → ℕ) → Type 0
Labelled kept L = (f : ℕ) → f < 256 → label_of kept f ≡ L f

-- every label that was met becomes `one`
abbrev pub replaced : Seen → ℕ → (ℕ → ℕ) → ℕ → ℕ
replaced met one L f = cond (was_seen met (L f)) one (L f)

-- the labels of a scope's fields, all of them met and no other; none, if two of the fields are under one
abbrev pub MeetsLabels : (ℕ → ℕ) → List ℕ → Option Seen → Type 0
MeetsLabels L scope r = MatchOption r (Distinct (map L scope) → ⊥) (λ met. Distinct (map L scope) × ((c : ℕ) → was_seen met c ≡ member c (map L scope)))

-- the fields of a scope are brought under one label, if theirs are all different
abbrev pub Joins : (ℕ → ℕ) → List ℕ → Labels → Bool → Type 0
Joins L scope after joined = MatchBool joined (Distinct (map L scope) × Labelled after (merge L scope)) (Distinct (map L scope) → ⊥)
