-- What rounds do to rows.
-- Assumes nothing.
use Rattle.std.specs.Prelude.{◌≡◌, ℕ, ◌≤◌, Bool, true, false, ◌⊎◌, List, slice_index_or}
use Rattle.rows.specs.Values.{Values}
use Rattle.rules.specs.Books.{sets}
use Rattle.rules.specs.Rules.{Rule}
use Rattle.settle.specs.Rounds.{Round, Rounds, SomeEmpty, AllEmpty, SameSets}

-- the rows beyond the n fields keep their records
abbrev pub Beyond : {R : Type 0} → ℕ → List R → List R → Type 0
Beyond {R} n before after = (f : ℕ) (d : R) → n ≤ f → slice_index_or after f d ≡ slice_index_or before f d

-- one round over rows; `changed` says whether some set changed
pub record Passed {R : Type 0} (values : R → Values) (rules : List Rule) (n : ℕ) (before after : List R) (changed : Bool) : Type 0 where
  pub round : Round rules (sets values before) (sets values after)
  pub moved : changed ≡ true → SameSets n (sets values before) (sets values after) → ⊥
  pub still : changed ≡ false → SameSets n (sets values before) (sets values after)
  pub beyond : Beyond n before after

-- the rounds over rows, and how many were made: none where a row is empty from the start
pub record Rounded {R : Type 0} (values : R → Values) (rules : List Rule) (n : ℕ) (before after : List R) (rounds : ℕ) : Type 0 where
  pub made : (SomeEmpty n (sets values before) × (rounds ≡ 0)) ⊎ ((SomeEmpty n (sets values before) → ⊥) × Rounds n rules (sets values before) rounds (sets values after))
  pub stays : SomeEmpty n (sets values before) → SomeEmpty n (sets values after)
  pub beyond : Beyond n before after

-- the n rows are emptied
pub record Emptied {R : Type 0} (values : R → Values) (n : ℕ) (before after : List R) : Type 0 where
  pub all : AllEmpty n (sets values after)
  pub beyond : Beyond n before after
