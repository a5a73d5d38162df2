use Rattle.std.proofs.Common.{Bool, drop}
use Rattle.rules.specs.declared.marks.Seen.{Seen}
use Rattle.tables.specs.Reads.{cell_fields}
use Rattle.rules.specs.Seen.{NotesBytes}
use Rattle.draft.proofs.cells.note_cells.Given as goal

-- noting what is left of the cells makes it whole
abbrev pub invariant-loop-cell : goal.invariant-loop-cell
invariant-loop-cell l = (after : Seen) (new : Bool) → NotesBytes (cell_fields (drop l.cell-index l.cells)) 256 l.seen after new → NotesBytes (cell_fields l.cells) 256 l.initial.seen after new
