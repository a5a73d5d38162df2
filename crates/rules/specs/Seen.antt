-- Fields that have been met.
-- Assumes nothing.
use Rattle.std.specs.Prelude.{◌≡◌, ℕ, ◌<◌, min, Bool, true, false, ◌&&◌, List, ◌++◌, nat_lt, slice_index_or}
use Rattle.rules.specs.Rules.{In, Distinct}
use Rattle.rules.specs.declared.marks.Seen.{Seen}

-- field f has been met
abbrev pub was_seen : Seen → ℕ → Bool
was_seen s f = nat_lt f 256 && slice_index_or s.marks f false

-- fields that lie below n, none twice and none met before
pub record New (seen : Seen) (n : ℕ) (fields : List ℕ) : Type 0 where
  pub below : (f : ℕ) → In f fields → f < n
  pub fresh : (f : ℕ) → In f fields → was_seen seen f ≡ false
  pub apart : Distinct fields

-- noting the fields fs answers whether they are new; then more fields are new after them as they are new to what has been met
pub record Notes (fs : List ℕ) (n : ℕ) (before after : Seen) (answer : Bool) : Type 0 where
  pub refused : answer ≡ false → (gs : List ℕ) → New before n (fs ++ gs) → ⊥
  pub onward : answer ≡ true → (gs : List ℕ) → New before n (fs ++ gs) → New after n gs
  pub back : answer ≡ true → (gs : List ℕ) → New after n gs → New before n (fs ++ gs)

-- a byte lies below m exactly when it lies below n
abbrev pub SameForBytes : ℕ → ℕ → Type 0
SameForBytes m n = min m 256 ≡ min n 256

-- fields that are bytes are noted alike under each bound that parts the bytes as n does
abbrev pub NotesBytes : List ℕ → ℕ → Seen → Seen → Bool → Type 0
NotesBytes fs n before after answer = (m : ℕ) → SameForBytes m n → Notes fs m before after answer
