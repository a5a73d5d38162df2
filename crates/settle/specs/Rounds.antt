-- Rounds over a list of rules, and what settling makes of sets.
-- Assumes nothing.
use Rattle.std.specs.Prelude.{◌≡◌, ℕ, zero, suc, ◌+◌, ◌-◌, ◌<◌, false, ◌⊎◌, List, [], ◌∷◌}
use Rattle.rows.specs.Values.{Empty, how_many}
use Rattle.rules.specs.Rings.{Ring}
use Rattle.rules.specs.Rules.{Sets, Rule, Narrowed}
use Rattle.settle.specs.declared.outcome.Grade.{Grade}
use Rattle.settle.specs.declared.outcome.Grade.TheVariants.{Exact, Local, Nothing}

-- S'' is S narrowed by each rule in order, each time from what the rule before left
abbrev pub Round : List Rule → Sets → Sets → Type 0
Round [] S S'' = (f v : ℕ) → S'' f v ≡ S f v
Round (r ∷ rs) S S'' = (S' : Sets) × Narrowed r S S' × Round rs S' S''

-- one of the n fields has no value
abbrev pub SomeEmpty : ℕ → Sets → Type 0
SomeEmpty n S = (f : ℕ) × (f < n) × Empty (S f)

-- none of the n fields has a value
abbrev pub AllEmpty : ℕ → Sets → Type 0
AllEmpty n S = (f v : ℕ) → f < n → S f v ≡ false

-- the n fields have the same values in both
abbrev pub SameSets : ℕ → Sets → Sets → Type 0
SameSets n S S' = (f v : ℕ) → f < n → S' f v ≡ S f v

-- rounds until one leaves some field without a value, or changes no set: how many, and what is left
pub data Rounds (n : ℕ) (rules : List Rule) : Sets → ℕ → Sets → Type 0 where
  last : {S S' : Sets} → Round rules S S' → SomeEmpty n S' ⊎ SameSets n S S' → Rounds n rules S 1 S'
  more : {S S' S'' : Sets} {r : ℕ} → Round rules S S' → (SomeEmpty n S' → ⊥) → (SameSets n S S' → ⊥) → Rounds n rules S' r S'' → Rounds n rules S (suc r) S''

-- what settling makes of S: the grade, the rounds made, and the sets left
--   at_once: a field without a value at the start, so no round is made
--   emptied: a field without a value after the rounds
--   ringed, ringless: every field has a value after the rounds
pub data Settling (n : ℕ) (rules : List Rule) (S : Sets) : Grade → ℕ → Sets → Type 0 where
  at_once : {S'' : Sets} → SomeEmpty n S → AllEmpty n S'' → Settling n rules S Nothing 0 S''
  emptied : {r : ℕ} {S' S'' : Sets} → (SomeEmpty n S → ⊥) → Rounds n rules S r S' → SomeEmpty n S' → AllEmpty n S'' → Settling n rules S Nothing r S''
  ringed : {r : ℕ} {S' : Sets} → (SomeEmpty n S → ⊥) → Rounds n rules S r S' → (SomeEmpty n S' → ⊥) → Ring rules → Settling n rules S Local r S'
  ringless : {r : ℕ} {S' : Sets} → (SomeEmpty n S → ⊥) → Rounds n rules S r S' → (SomeEmpty n S' → ⊥) → (Ring rules → ⊥) → Settling n rules S Exact r S'

-- how many values below the span the n fields have in all
abbrev pub total : ℕ → ℕ → Sets → ℕ
total span zero S = 0
total span (suc f) S = how_many span (S f) + total span f S

-- how many values were struck between S and S'
abbrev pub struck : ℕ → ℕ → Sets → Sets → ℕ
struck span n S S' = total span n S - total span n S'
