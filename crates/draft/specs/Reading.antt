-- What is read of a list of pairs, and what a check of an entry answers.
-- Assumes nothing.
use Rattle.std.specs.Prelude.{◌≡◌, ℕ, true, false, List, map, Some, None, Option, Result, MatchOption, MatchResult}
use Rattle.tables.specs.Reads.{room}
use Rattle.draft.specs.Entries.{bad_head}
use Rattle.draft.specs.Faults.{Lines, uppermost}
use Rattle.draft.specs.Lists.{axis_of, pairs}
use Rattle.draft.specs.declared.fault.DraftFault.{DraftFault}

-- how many cells a table over the axes of the list has, or that the list makes no head
abbrev pub IsRoomOf : List ℕ → Option ℕ → Type 0
IsRoomOf list r = MatchOption r (bad_head list ≡ true) (λ n. (bad_head list ≡ false) × (n ≡ room (map axis_of (pairs list))))

-- the value is told where no line is met, and otherwise the uppermost line
abbrev pub Checked : {T : Type 0} → Lines → T → Result T DraftFault → Type 0
Checked lines value r = MatchResult r (λ told. (uppermost lines ≡ None) × (told ≡ value)) (λ fault. uppermost lines ≡ Some fault)
