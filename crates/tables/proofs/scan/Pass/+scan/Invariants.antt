use Rattle.std.proofs.Common.{◌≡◌, ◌*◌, ◌≤◌, length, get_or, drop}
use Rattle.std.specs.Iterator.Adapters.{zip_first, zip_second}
use Rattle.std.specs.Slice.Iter.{chunks_exact_rest, chunks_exact_size}
use Rattle.rules.specs.Books.{sets}
use Rattle.tables.specs.Scans.{Reaches, Swept}
use Rattle.tables.proofs.Blocks.{no_axis}
use Rattle.tables.proofs.Sweeping.{Under}
use Rattle.tables.proofs.scan.Pass.+scan.Given as goal

abbrev pub decreases-scan : goal.decreases-scan
decreases-scan g l = length l.axes.now

-- the blocks of the indices passed
abbrev pub invariant-loop-d : goal.invariant-loop-d
invariant-loop-d g l =
    let values = g.R.Row.values in
    let S = sets values l.self.rows.now in
    let d = (zip_first l.d-iterator).start in
    (goal.iterator-loop-d g).can_next l.d-iterator
    × (goal.iterator-loop-d g).is_finite l.d-iterator
    × (d ≤ (get_or l.axes 0 no_axis).extent)
    × ((zip_first l.d-iterator).end ≡ (get_or l.axes 0 no_axis).extent)
    × (chunks_exact_size (zip_second l.d-iterator) ≡ l.size)
    × (chunks_exact_rest (zip_second l.d-iterator) ≡ drop (d * l.size) l.cells)
    × Swept values S (values l.self.x) l.level (length l.axes) (Under d (Reaches S l.axes l.cells)) l.initial.rests l.rests l.hits
