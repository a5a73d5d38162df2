use Rattle.std.proofs.Common.{true}
use Rattle.rules.specs.Seen.{NotesBytes}
use Rattle.rules.proofs.marks.Seen.note_all.Given as goal

-- the fields so far are noted
abbrev pub invariant-loop-field : goal.invariant-loop-field
invariant-loop-field g l =
    (goal.iterator-loop-field g).can_next l.field-iterator
    × (goal.iterator-loop-field g).is_finite l.field-iterator
    × NotesBytes l.yielded l.n l.initial.self l.self true
