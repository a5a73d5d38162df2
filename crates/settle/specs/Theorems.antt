-- Settling has one answer.
-- Assumes nothing.
use Rattle.std.specs.Prelude.{◌≡◌, ℕ, List}
use Rattle.rules.specs.Rules.{Sets, Rule, Lawful}
use Rattle.settle.specs.Rounds.{SameSets, Settling}
use Rattle.settle.specs.declared.outcome.Grade.{Grade}

-- two settlings of the same sets by the same lawful rules agree in grade, rounds and the sets left
abbrev pub OneSettling : Type 0
OneSettling = (n : ℕ) (rules : List Rule) (S T S' T' : Sets) (g h : Grade) (r q : ℕ) → Lawful n rules → SameSets n S T
    → Settling n rules S g r S' → Settling n rules T h q T' → (g ≡ h) × (r ≡ q) × SameSets n S' T'
