-- What a book of rules tells and does.
-- Assumes nothing.
use Rattle.std.specs.Prelude.{◌≡◌, ℕ, zero, suc, ◌≤◌, Bool, true, false, cond, ◌&&◌, List, [], ◌∷◌, length, Err, Decides, Result, MatchResult, ◌≢◌, nat_le, nat_lt, slice_index_or}
use Rattle.rows.specs.Values.{Values}
use Rattle.rules.specs.Rules.{Sets, Rule, In, LawfulRule, Narrowed}
use Rattle.rules.specs.declared.fault.NarrowFault.{NarrowFault}
use Rattle.rules.specs.declared.fault.NarrowFault.TheVariants.{Unfit}

-- the number that a refused narrowing is known by
abbrev pub fault_number : NarrowFault → ℕ
fault_number Unfit = 8

-- the sets that a list of rows reads as, a row for each field; a field without a row has no value
abbrev pub sets : {R : Type 0} → (R → Values) → List R → Sets
sets values [] f v = false
sets values (r ∷ rs) zero v = values r v
sets values (r ∷ rs) (suc f) v = sets values rs f v

-- a rule that names no field, and so is lawful for no number of fields
abbrev pub no_rule : Rule
no_rule = record { scope = []; allows = λ _. false }

-- the rule at place k; past the end, one that is not lawful
abbrev pub rule_at : List Rule → ℕ → Rule
rule_at [] k = no_rule
rule_at (r ∷ rs) zero = r
rule_at (r ∷ rs) (suc k) = rule_at rs k

-- how many rules a book tells: 1,025 if there are more than 1,024
abbrev pub told_count : List Rule → ℕ
told_count rules = cond (nat_le (length rules) 1024) (length rules) 1025

-- a number as a book tells it: 255 if it is above 254
abbrev pub told : ℕ → ℕ
told x = cond (nat_le x 254) x 255

-- how many fields the scope of rule k has, as told: 255 past the end, and for a rule above 1,023
abbrev pub told_size : List Rule → ℕ → ℕ
told_size rules k = cond (nat_lt k (length rules) && nat_le k 1023) (told (length (rule_at rules k).scope)) 255

-- the field at a place in the scope of rule k, as told: 255 past either end, and for a rule above 1,023
abbrev pub told_field : List Rule → ℕ → ℕ → ℕ
told_field rules k place = cond (nat_le k 1023) (told (slice_index_or (rule_at rules k).scope place 255)) 255

-- field f has a value among the rows that the set p lacks
abbrev pub Loses : {R : Type 0} → (R → Values) → List R → ℕ → Values → Type 0
Loses values rows f p = (v : ℕ) × (sets values rows f v ≡ true) × (p v ≡ false)

-- some set changed
abbrev pub Changed : Sets → Sets → Type 0
Changed S S' = (f : ℕ) × (v : ℕ) × (S' f v ≢ S f v)

-- rows narrowed by a rule: exactly the supported values are left, rows of other fields keep their records, and `changed` says whether some set changed
pub record Narrowing {R : Type 0} (values : R → Values) (r : Rule) (before after : List R) (changed : Bool) : Type 0 where
  pub narrowed : Narrowed r (sets values before) (sets values after)
  pub others : (f : ℕ) (d : R) → (In f r.scope → ⊥) → slice_index_or after f d ≡ slice_index_or before f d
  pub answer : Decides changed (Changed (sets values before) (sets values after))

-- rule k can be narrowed for n fields over so many rows: it is lawful, its place is not above 1,023, and there is a row for each field
pub record FitsRule (r : Rule) (k n rows : ℕ) : Type 0 where
  pub reach : k ≤ 1023
  pub enough : n ≤ rows
  pub lawful : LawfulRule n r

-- what narrowing rule k, which is r, for n fields answers and leaves: where it does not fit, it is refused and nothing changes
pub record Narrows {R : Type 0} (values : R → Values) (r : Rule) (k n : ℕ) (before after : List R) (answer : Result Bool NarrowFault) : Type 0 where
  pub accepted : FitsRule r k n (length before) → MatchResult answer (Narrowing values r before after) (λ _. ⊥)
  pub refused : (FitsRule r k n (length before) → ⊥) → (answer ≡ Err Unfit) × (after ≡ before)
