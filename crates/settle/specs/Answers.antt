-- What a settle answers and leaves in rows.
-- Assumes nothing.
use Rattle.std.specs.Prelude.{◌≡◌, ℕ, ◌+◌, ◌≤◌, Bool, List, length, Err, Decides, Result, MatchResult}
use Rattle.rows.specs.Values.{Values}
use Rattle.rules.specs.Books.{sets}
use Rattle.rules.specs.Rings.{Ring}
use Rattle.rules.specs.Rules.{Rule, Lawful}
use Rattle.rules.specs.declared.fault.NarrowFault.{NarrowFault}
use Rattle.rules.specs.declared.fault.NarrowFault.TheVariants.{Unfit}
use Rattle.settle.specs.Leaves.{Largest, Exactly}
use Rattle.settle.specs.Passes.{Beyond}
use Rattle.settle.specs.Rounds.{Settling, struck}
use Rattle.settle.specs.declared.outcome.Outcome.{Outcome}

-- rules can be settled for n fields over so many rows: they are lawful, and there is a row for each field; of more than 254 fields no book is known to be lawful
pub record FitsBook (rules : List Rule) (n rows : ℕ) : Type 0 where
  pub known : n ≤ 254
  pub enough : n ≤ rows
  pub lawful : Lawful n rules

-- rows that are settled, and what that is worth; rows beyond the n fields keep their records
pub record Settled {R : Type 0} (values : R → Values) (span : ℕ) (rules : List Rule) (n : ℕ) (before after : List R) (outcome : Outcome) : Type 0 where
  pub settling : Settling n rules (sets values before) outcome.grade outcome.rounds (sets values after)
  pub beyond : Beyond n before after
  pub largest : Largest n rules (sets values before) (sets values after) outcome.grade
  pub exactly : (Ring rules → ⊥) → Exactly n rules (sets values before) (sets values after) outcome.grade
  pub few_rounds : outcome.rounds ≤ struck span n (sets values before) (sets values after) + 1

-- what settling answers and leaves: where the rules do not fit, it is refused and nothing changes
pub record Settles {R : Type 0} (values : R → Values) (span : ℕ) (rules : List Rule) (n : ℕ) (before after : List R) (answer : Result Outcome NarrowFault) : Type 0 where
  pub accepted : FitsBook rules n (length before) → MatchResult answer (Settled values span rules n before after) (λ _. ⊥)
  pub refused : (FitsBook rules n (length before) → ⊥) → (answer ≡ Err Unfit) × (after ≡ before)

-- what the ring test answers: where the rules are not known to be lawful, it is refused
pub record TellsRing (rules : List Rule) (answer : Result Bool NarrowFault) : Type 0 where
  pub accepted : Lawful 254 rules → MatchResult answer (λ r. Decides r (Ring rules)) (λ _. ⊥)
  pub refused : (Lawful 254 rules → ⊥) → answer ≡ Err Unfit
