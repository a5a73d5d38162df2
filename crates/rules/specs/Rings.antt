-- Rings: rules that are joined in a circle by the fields that they share.
-- Assumes nothing.
use Rattle.std.specs.Prelude.{◌≡◌, ℕ, ◌+◌, ◌<◌, ◌≤◌, cond, List, [], map, length, ◌==◌, slice_index, slice_index_or}
use Rattle.rules.specs.Rules.{Rule, In, Distinct}

-- the scope of the rule at a place; past the end, no field
abbrev pub scope_at : List Rule → ℕ → List ℕ
scope_at rules k = slice_index_or (map (λ r. r.scope) rules) k []

-- the place after i among k places in a circle
abbrev pub next : ℕ → ℕ → ℕ
next k i = cond (i + 1 == k) 0 (i + 1)

-- k rules at different places and k different fields, k at least 2: field i is named by rules i and i + 1, and the last field by the last rule and the first
pub record Ring (rules : List Rule) : Type 0 where
  pub places : List ℕ
  pub fields : List ℕ
  pub as_many : length fields ≡ length places
  pub two : 2 ≤ length places
  pub places_apart : Distinct places
  pub fields_apart : Distinct fields
  pub within : (i : ℕ) → i < length places → slice_index places i < length rules
  pub here : (i : ℕ) → i < length places → In (slice_index fields i) (scope_at rules (slice_index places i))
  pub there : (i : ℕ) → i < length places → In (slice_index fields i) (scope_at rules (slice_index places (next (length places) i)))
