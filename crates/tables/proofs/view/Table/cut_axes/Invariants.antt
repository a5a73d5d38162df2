use Rattle.std.proofs.Common.{◌≡◌, map, length, take, drop}
use Rattle.std.specs.Iterator.Adapters.{zip_first, zip_second}
use Rattle.std.specs.Slice.Iter.{iter_rest}
use Rattle.rules.specs.Writes.{Written}
use Rattle.rules.specs.Books.{sets}
use Rattle.tables.specs.Left.{axes_left}
use Rattle.tables.proofs.view.Table.cut_axes.Given as goal

-- the rows of the axes so far are cut
abbrev pub invariant-loop-axis : goal.invariant-loop-axis
invariant-loop-axis g l =
    let values = g.R.Row.values in
    let S = sets values l.initial.rows in
    let axes = l.self.axes.now in
    let so_far = map (λ ax. ax.field) (take (length l.yielded) axes) in
    (goal.iterator-loop-axis g).can_next l.axis-iterator
    × (goal.iterator-loop-axis g).is_finite l.axis-iterator
    × (iter_rest (zip_first l.axis-iterator) ≡ drop (length l.yielded) axes)
    × (iter_rest (zip_second l.axis-iterator) ≡ drop (length l.yielded) l.marks)
    × Written values (axes_left l.marks S S axes 0) so_far (length so_far) l.initial.rows l.rows l.changed
