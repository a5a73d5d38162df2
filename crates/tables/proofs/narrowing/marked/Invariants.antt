use Rattle.std.proofs.Common.{◌≡◌, ℕ, false, ◌&&◌, ◌||◌, drop, get_or, leb, ltb}
use Rattle.std.specs.Iterator.Adapters.{zip_first, zip_second}
use Rattle.std.specs.Slice.Iter.{iter_rest}
use Rattle.tables.proofs.narrowing.marked.Given as goal

-- the values passed are left only if they are marked
abbrev pub invariant-loop-v : goal.invariant-loop-v
invariant-loop-v g l =
    let v = (zip_first l.v-iterator).start in
    (goal.iterator-loop-v g).can_next l.v-iterator
    × (goal.iterator-loop-v g).is_finite l.v-iterator
    × ((zip_first l.v-iterator).end ≡ g.R.Row.SPAN)
    × (iter_rest (zip_second l.v-iterator) ≡ drop v l.marks)
    × ((w : ℕ) → g.R.Row.values l.left w ≡ (g.R.Row.values l.initial.left w && (leb v w || (ltb w 256 && get_or l.marks w false))))
