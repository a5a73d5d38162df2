use Rattle.std.proofs.Common.{length}
use Rattle.rules.specs.Writes.{Written, none_left}
use Rattle.rules.proofs.writing.clear.Given as goal

-- the rows of the fields so far are empty
abbrev pub invariant-loop-field : goal.invariant-loop-field
invariant-loop-field g l =
    (goal.iterator-loop-field g).can_next l.field-iterator
    × (goal.iterator-loop-field g).is_finite l.field-iterator
    × Written g.R.Row.values none_left l.yielded (length l.yielded) l.initial.rows l.rows l.changed
