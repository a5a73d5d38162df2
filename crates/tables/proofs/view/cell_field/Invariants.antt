use Rattle.std.proofs.Common.{◌≡◌, slice_get, drop}
use Rattle.tables.specs.Reads.{cell_fields}
use Rattle.tables.proofs.view.cell_field.Given as goal

-- the place among all is the place left among those that are left
abbrev pub invariant-loop-cell : goal.invariant-loop-cell
invariant-loop-cell l = slice_get (cell_fields l.cells) l.place ≡ slice_get (cell_fields (drop l.cell-index l.cells)) l.left
