use Rattle.std.proofs.Common.{◌≡◌, ℕ, true, drop}
use Rattle.rules.specs.Books.{sets}
use Rattle.rules.specs.Rules.{In}
use Rattle.tables.specs.Reads.{cell_fields}
use Rattle.tables.proofs.view.Table.is_filled.Given as goal

-- all fields have a value if those that are left have one
abbrev pub invariant-loop-cell : goal.invariant-loop-cell
invariant-loop-cell g l =
    ((f : ℕ) → In f (cell_fields (drop l.cell-index l.self.cells.now)) → (v : ℕ) × (sets g.R.Row.values l.rows f v ≡ true))
    → (f : ℕ) → In f (cell_fields l.self.cells.now) → (v : ℕ) × (sets g.R.Row.values l.rows f v ≡ true)
