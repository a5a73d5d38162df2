-- Drafts that are made by entries from nothing, and what is known of them.
-- Assumes nothing.
use Rattle.std.specs.Prelude.{◌≡◌, ℕ, zero, suc, ◌<◌, ◌≤◌, false, ◌&&◌, List, [], ◌∷◌, length, Ok, Err, Result, nat_le}
use Rattle.rows.specs.Values.{Values}
use Rattle.rules.specs.Books.{sets}
use Rattle.rules.specs.Rules.{Sets, Lawful}
use Rattle.draft.specs.Entries.{nothing, EntersField, EntersHead, EntersCells, EntersFrame, own_rules}
use Rattle.draft.specs.Memory.{Held}
use Rattle.draft.specs.declared.fault.Refused.{Refused}
use Rattle.draft.specs.declared.memory.Range.{Range}
use Rattle.draft.specs.declared.state.Draft.{Draft}

-- a draft with the rows and the memory that are lent to it
pub record Drafted (R : Type 0) : Type 0 where
  pub draft : Draft
  pub rows : List R
  pub memory : Held

-- the draft that an answer gives back
abbrev pub draft_in : Result Draft Refused → Draft
draft_in (Ok d) = d
draft_in (Err r) = r.draft

-- t is what one entry, accepted or refused, makes of s
pub data Entered {R : Type 0} (values : R → Values) (span : ℕ) (s t : Drafted R) : Type 0 where
  field : (lo hi : ℕ) (answer : Result Draft Refused) → EntersField values span s.draft lo hi s.rows t.rows s.memory t.memory answer
      → t.draft ≡ draft_in answer → Entered values span s t
  head : (x : ℕ) (list : List ℕ) (answer : Result Draft Refused) → EntersHead s.draft x list (length s.rows) s.memory t.memory answer
      → t.draft ≡ draft_in answer → t.rows ≡ s.rows → Entered values span s t
  cells : (list : List ℕ) (answer : Result Draft Refused) → EntersCells s.draft list (length s.rows) s.memory t.memory answer
      → t.draft ≡ draft_in answer → t.rows ≡ s.rows → Entered values span s t
  frame : (limit : ℕ) (list : List ℕ) (answer : Result Draft Refused) → EntersFrame s.draft limit list (length s.rows) s.memory t.memory answer
      → t.draft ≡ draft_in answer → t.rows ≡ s.rows → Entered values span s t

-- made by entries from nothing, each over the rows and the memory that the one before left
pub data Made {R : Type 0} (values : R → Values) (span : ℕ) : Drafted R → Type 0 where
  start : (rows : List R) (m : Held) → Made values span (record { draft = nothing; rows = rows; memory = m })
  then : {s t : Drafted R} → Made values span s → Entered values span s t → Made values span t

-- the sets of entered ranges, a range for each field; a field without a range has no value
abbrev pub entered : List Range → Sets
entered [] f v = false
entered (r ∷ rs) zero v = nat_le r.lo v && nat_le v r.hi
entered (r ∷ rs) (suc f) v = entered rs f v

-- there are at most 240 fields, each with a row that reads as its entered range, and the own book is lawful for them
pub record Sound {R : Type 0} (values : R → Values) (s : Drafted R) : Type 0 where
  pub few : s.draft.fields ≤ 240
  pub enough : s.draft.fields ≤ length s.rows
  pub ranges : (f v : ℕ) → f < s.draft.fields → sets values s.rows f v ≡ entered s.memory.ranges f v
  pub lawful : Lawful s.draft.fields (own_rules s.draft s.memory)

-- every draft that is made by entries is sound
abbrev pub DraftsSound : (R : Type 0) → (R → Values) → ℕ → Type 0
DraftsSound R values span = (s : Drafted R) → Made values span s → Sound values s
