-- What follows from the meanings, for every list of rules.
-- Assumes nothing.
use Rattle.std.specs.Prelude.{◌≡◌, ℕ, ◌<◌, true, List}
use Rattle.rules.specs.Rings.{Ring}
use Rattle.rules.specs.Rules.{Sets, Rule, Lawful, LawfulRule, StandsBy, Narrowed, Setting, Inside, Standing, Within}
use Rattle.rules.specs.Tree.{Tree}

-- narrowing by a rule never takes a value from sets that stand by it
abbrev pub NarrowingKeeps : Type 0
NarrowingKeeps = (n : ℕ) (r : Rule) (C S S' : Sets) → LawfulRule n r → StandsBy C r → Within n C S → Narrowed r S S' → Within n C S'

-- lawful rules have a ring exactly when they are no tree
abbrev pub RingsDecided : Type 0
RingsDecided = (n : ℕ) (rules : List Rule) → Lawful n rules → (Tree rules → Ring rules → ⊥) × ((Tree rules → ⊥) → Ring rules)

-- without a ring, every value of a standing choice stands in a full setting inside that choice
abbrev pub RinglessExtends : Type 0
RinglessExtends = (n : ℕ) (rules : List Rule) (C : Sets) → Lawful n rules → (Ring rules → ⊥) → Standing n rules C
    → (f v : ℕ) → f < n → C f v ≡ true → (a : ℕ → ℕ) × (a f ≡ v) × Setting rules a × Inside n C a
