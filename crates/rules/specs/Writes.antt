-- Rows that are written back field by field.
-- Assumes nothing.
use Rattle.std.specs.Prelude.{◌≡◌, ℕ, ◌<◌, Bool, false, List, length, take, Decides, slice_index_or}
use Rattle.rows.specs.Values.{Values}
use Rattle.rules.specs.Books.{sets, Loses}
use Rattle.rules.specs.Rules.{Sets, In, Distinct}

-- the first i fields of the scope have their new sets, every other field has its record, and `changed` says whether one of those i lost a value
pub record Written {R : Type 0} (values : R → Values) (new : Sets) (scope : List ℕ) (i : ℕ) (before after : List R) (changed : Bool) : Type 0 where
  pub long : length after ≡ length before
  pub done : (f v : ℕ) → In f (take i scope) → sets values after f v ≡ new f v
  pub others : (f : ℕ) (d : R) → (In f (take i scope) → ⊥) → slice_index_or after f d ≡ slice_index_or before f d
  pub answer : Decides changed ((f : ℕ) × In f (take i scope) × Loses values before f (new f))

-- no value for any field
abbrev pub none_left : Sets
none_left f v = false

-- each field has a row, and none stands twice
pub record OwnRows (fields : List ℕ) (rows : ℕ) : Type 0 where
  pub below : (f : ℕ) → In f fields → f < rows
  pub distinct : Distinct fields
