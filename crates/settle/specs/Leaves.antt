-- What a settle leaves is worth: the largest standing choice, and without a ring the values of full settings.
-- Assumes nothing.
use Rattle.std.specs.Prelude.{◌≡◌, ℕ, ◌<◌, true, List, ◌≢◌}
use Rattle.rules.specs.Rules.{Sets, Rule, Setting, Inside, Standing, Within}
use Rattle.settle.specs.Rounds.{AllEmpty}
use Rattle.settle.specs.declared.outcome.Grade.{Grade}
use Rattle.settle.specs.declared.outcome.Grade.TheVariants.{Exact, Nothing}

infixl 3 ◌iff◌
-- one holds exactly when the other does
abbrev pub ◌iff◌ : Type 0 → Type 0 → Type 0
◌iff◌ A B = (A → B) × (B → A)

-- some standing choice lies inside T
abbrev pub ChoiceIn : ℕ → List Rule → Sets → Type 0
ChoiceIn n rules T = (C : Sets) × Standing n rules C × Within n C T

-- some full setting lies inside T
abbrev pub SettingIn : ℕ → List Rule → Sets → Type 0
SettingIn n rules T = (a : ℕ → ℕ) × Setting rules a × Inside n T a

-- some full setting inside T gives field f the value v
abbrev pub SettingWith : ℕ → List Rule → Sets → ℕ → ℕ → Type 0
SettingWith n rules T f v = (a : ℕ → ℕ) × Setting rules a × Inside n T a × (a f ≡ v)

-- S is the largest standing choice inside T; the grade is none, and no field has a value, exactly when there is no such choice
pub record Largest (n : ℕ) (rules : List Rule) (T S : Sets) (g : Grade) : Type 0 where
  pub contains : (C : Sets) → Standing n rules C → Within n C T → Within n C S
  pub stands : ChoiceIn n rules T → Standing n rules S × Within n S T
  pub none : (g ≡ Nothing) iff (ChoiceIn n rules T → ⊥)
  pub empty : g ≡ Nothing → AllEmpty n S

-- S has exactly the values of full settings inside T; the grade is none exactly when there is no such setting, and exact otherwise
pub record Exactly (n : ℕ) (rules : List Rule) (T S : Sets) (g : Grade) : Type 0 where
  pub values : (f v : ℕ) → f < n → (S f v ≡ true) iff SettingWith n rules T f v
  pub none : (g ≡ Nothing) iff (SettingIn n rules T → ⊥)
  pub otherwise : (g ≢ Nothing) → g ≡ Exact
