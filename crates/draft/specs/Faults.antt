-- Refusals of entries, and their numbers.
-- Assumes nothing.
use Rattle.std.specs.Prelude.{ℕ, Bool, cond, List, [], ◌∷◌, Some, None, Option}
use Rattle.draft.specs.declared.fault.DraftFault.{DraftFault}
use Rattle.draft.specs.declared.fault.DraftFault.TheVariants.{Short, Misplaced, BadRange, Shape, Full, NoSuchField, Twice}

-- the number that a refusal is known by
abbrev pub fault_number : DraftFault → ℕ
fault_number Short = 8
fault_number Misplaced = 9
fault_number BadRange = 10
fault_number Shape = 11
fault_number Full = 12
fault_number NoSuchField = 13
fault_number Twice = 14

-- the tests of a call, from the uppermost line on, each with its refusal
abbrev pub Lines : Type 0
Lines = List (Bool × DraftFault)

-- the uppermost line that is met; none if no line is
abbrev pub uppermost : Lines → Option DraftFault
uppermost [] = None
uppermost (line ∷ lines) = cond line.0 (Some line.1) (uppermost lines)
