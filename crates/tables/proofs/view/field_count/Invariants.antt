use Rattle.std.proofs.Common.{◌≡◌, ◌+◌, ◌≤◌, length, drop}
use Rattle.tables.specs.Reads.{cell_fields}
use Rattle.tables.proofs.view.field_count.Given as goal

-- what is left adds up with the count to the whole
abbrev pub invariant-loop-cell : goal.invariant-loop-cell
invariant-loop-cell l = (l.count + length (cell_fields (drop l.cell-index l.cells)) ≡ length (cell_fields l.cells)) × (l.count ≤ l.cell-index)
