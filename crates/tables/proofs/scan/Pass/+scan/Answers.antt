use Rattle.std.proofs.Common.{◌≡◌, ◌+◌, ◌*◌, ◌/◌, ◌<◌, ◌≤◌, true, false, length, get_or, drop, sym, refl, ap, ◌∙◌, subst, inl, inr, arith, rules}
use Rattle.rules.specs.Books.{sets}
use Rattle.rules.specs.Rules.{In}
use Rattle.rules.proofs.RowSets.{sets_at}
use Rattle.std.specs.Iterator.Adapters.{zip_first, zip_second}
use Rattle.std.specs.Slice.Iter.{chunks_exact_rest, chunks_exact_size}
use Rattle.tables.specs.Reads.{block, cell_fields}
use Rattle.tables.proofs.Blocks.{no_axis, one_cell_left, first_row, block_size, block_scannable, one_scanned, next_part, none_left_over, whole_ok, size_some, blocks_long, block_closed, block_joined, blocks_done}
use Rattle.tables.specs.Scans.{Reaches, Swept, NotedHits}
use Rattle.tables.specs.declared.found.Hits.TheVariants.{Nothing}
use Rattle.tables.proofs.Sweeping.{Under, no_block}
use Rattle.tables.proofs.scan.Pass.+scan.Goals as goal

pub visit-requires : goal.visit-requires
visit-requires g t c =
    let one = one_cell_left c.args.axes.now c.args.cells.now c.in_default.ensures.cases c.requires.long in
    λ f h. c.requires.cell_rows f (subst (λ cs. In f (cell_fields cs)) (sym one) h)

pub returns-in_default : goal.returns-in_default
returns-in_default g t c =
    one_scanned g.R.Row.values (sets g.R.Row.values c.args.self.now.rows.now) (g.R.Row.values c.args.self.now.x) c.args.level c.args.axes.now c.args.cells.now c.args.rests.now c.visit.new.rests c.visit.result
    c.in_default.ensures.cases c.requires.long (c.visit.ensures c.args.level)

pub offset_bounds-self-axis : goal.offset_bounds-self-axis
offset_bounds-self-axis g t c =
    let below = first_row _ _ _ _ _ (whole_ok _ _ _ _ _ _ c.in-Some.ensures.cases.0 c.requires) in
    search rules

pub bounds-self-axis : goal.bounds-self-axis
bounds-self-axis g t c = first_row _ _ _ _ _ (whole_ok _ _ _ _ _ _ c.in-Some.ensures.cases.0 c.requires)

pub chunks_exact-requires : goal.chunks_exact-requires
chunks_exact-requires g t c = omega (arith, size_some _ _ _ _ _ _ c.in-Some.ensures.cases.0 c.requires)

pub loop-d-init : goal.loop-d-init
loop-d-init g t c =
    let values = g.R.Row.values in
    let S = sets values c.args.self.now.rows.now in
    let X = values c.args.self.now.x in
    let axes = c.args.axes.now in
    let cells = c.args.cells.now in
    let first = c.in-Some.ensures.cases.0 in
    let size = length cells / c.in-Some.axis.now.extent in
    let extent : (get_or c.args.axes.now 0 no_axis).extent ≡ c.in-Some.axis.now.extent = ap (λ qs. (get_or qs 0 no_axis).extent) first in
    let range = ap zip_first c.into_iter-d-iterator.ensures.into_iter_gives ∙ c.zip-d-items.ensures.first in
    let blocks = ap zip_second c.into_iter-d-iterator.ensures.into_iter_gives ∙ c.zip-d-items.ensures.second in
    let start : (zip_first c.into_iter-d-iterator.result).start ≡ 0 = ap (λ r. r.start) range in
    let none : (zip_first c.into_iter-d-iterator.result).start * size ≡ 0 = ap (λ k. k * size) start ∙ (omega arith) in
    let size-is : chunks_exact_size (zip_second c.into_iter-d-iterator.result) ≡ size = ap chunks_exact_size blocks ∙ c.chunks_exact.ensures.size in
    let some = size_some _ _ _ _ _ _ first c.requires in (
      (tt, subst (λ n. 0 < n) (sym size-is) some),
      tt,
      omega arith,
      ap (λ r. r.end) range ∙ sym extent,
      size-is,
      ap chunks_exact_rest blocks ∙ c.chunks_exact.ensures.rest ∙ ap (λ k. drop k cells) (sym none),
      subst (λ k. Swept values S X c.args.level (length axes) (Under k (Reaches S axes cells)) c.args.rests.now c.args.rests.now Nothing) (sym start) (no_block values S X c.args.level (length axes) (Reaches S axes cells) c.args.rests.now),
    )

pub scan-more-requires : goal.scan-more-requires
scan-more-requires g t c κs lives =
    let cells = c.args.cells.now in
    let ax = c.in-Some.axis.now in
    let first = c.in-Some.ensures.cases.0 in
    let shorter = c.in-Some.ensures.cases.1 in
    let whole = whole_ok _ _ _ _ _ _ first c.requires in
    let it = c.loop-d.d-iterator in
    let inv = c.loop-d.invariant in
    let s = c.in-Some-2.ensures.steps in
    let extent : (get_or c.args.axes.now 0 no_axis).extent ≡ ax.extent = ap (λ qs. (get_or qs 0 no_axis).extent) first in
    let small : (zip_first it).start < ax.extent = omega (arith, s.0.1.0, inv.3) in
    let part = next_part (length cells / ax.extent) (zip_first it).start cells (chunks_exact_rest (zip_second it)) c.in-Some-2.block.now (chunks_exact_rest (zip_second c.next.new.self)) inv.5 s.1.1.0 (s.1.1.1 ∙ inv.4) in
    let at = part.0 ∙ ap (λ m. block m (zip_first it).start cells) (block_size _ _ _ _ _ whole) in
    (search rules, (search rules, block_scannable _ _ _ _ _ whole (zip_first it).start c.in-Some-2.block.now small at))

pub loop-d-preserved-then-has : goal.loop-d-preserved-then-has
loop-d-preserved-then-has g t c =
    let values = g.R.Row.values in
    let rows = c.args.self.now.rows.now in
    let S = sets values rows in
    let X = values c.args.self.now.x in
    let axes = c.args.axes.now in
    let cells = c.args.cells.now in
    let ax = c.in-Some.axis.now in
    let first = c.in-Some.ensures.cases.0 in
    let it = c.loop-d.d-iterator in
    let inv = c.loop-d.invariant in
    let s = c.in-Some-2.ensures.steps in
    let extent : (get_or axes 0 no_axis).extent ≡ ax.extent = ap (λ qs. (get_or qs 0 no_axis).extent) first in
    let small : (zip_first it).start < ax.extent = omega (arith, s.0.1.0, inv.3) in
    let part = next_part (length cells / ax.extent) (zip_first it).start cells (chunks_exact_rest (zip_second it)) c.in-Some-2.block.now (chunks_exact_rest (zip_second c.next.new.self)) inv.5 s.1.1.0 (s.1.1.1 ∙ inv.4) in
    let below = first_row _ _ _ _ _ (whole_ok _ _ _ _ _ _ first c.requires) in
    let open-at : S ax.field (zip_first it).start ≡ true =
    sets_at values rows ax.field c.index-self-axis.result below c.index-self-axis.is (zip_first it).start ∙ ap (λ r. values r (zip_first it).start) c.index-self-axis.is
    ∙ ap (values (get_or rows ax.field c.index-self-axis.result)) (sym s.0.1.1) ∙ sym c.has.ensures ∙ c.if-has.true
    in
    let noted = subst (λ d. NotedHits c.args.level d c.scan-more.result c.scan-more.new.rests.axes c.note.new.marks) s.0.1.1 c.note.ensures in (
      search rules,
      search rules,
      omega (arith, s.0.1.2, s.0.1.0, inv.3),
      s.0.0 ∙ inv.3,
      s.1.0 ∙ inv.4,
      part.1 ∙ ap (λ k. drop (k * (length cells / ax.extent)) cells) (sym s.0.1.2),
      subst (λ k. Swept values S X c.args.level (length axes) (Under k (Reaches S axes cells)) c.args.rests.now (record { x = c.scan-more.new.rests.x; axes = c.note.new.marks }) c.both-hits.result) (sym s.0.1.2)
          (subst (λ h. Swept values S X c.args.level (length axes) (Under ((zip_first it).start + 1) (Reaches S axes cells)) c.args.rests.now (record { x = c.scan-more.new.rests.x; axes = c.note.new.marks }) h) (sym c.both-hits.ensures)
          (block_joined _ _ _ _ _ _ first c.requires values S X c.args.rests.now (zip_first it).start c.in-Some-2.block.now c.loop-d.rests c.scan-more.new.rests _ c.loop-d.hits c.scan-more.result
          small part.0 open-at inv.6 c.scan-more.ensures noted refl)),
    )

pub loop-d-preserved : goal.loop-d-preserved
loop-d-preserved g t c =
    let values = g.R.Row.values in
    let rows = c.args.self.now.rows.now in
    let S = sets values rows in
    let X = values c.args.self.now.x in
    let axes = c.args.axes.now in
    let cells = c.args.cells.now in
    let ax = c.in-Some.axis.now in
    let first = c.in-Some.ensures.cases.0 in
    let it = c.loop-d.d-iterator in
    let inv = c.loop-d.invariant in
    let s = c.in-Some-2.ensures.steps in
    let part = next_part (length cells / ax.extent) (zip_first it).start cells (chunks_exact_rest (zip_second it)) c.in-Some-2.block.now (chunks_exact_rest (zip_second c.next.new.self)) inv.5 s.1.1.0 (s.1.1.1 ∙ inv.4) in
    let below = first_row _ _ _ _ _ (whole_ok _ _ _ _ _ _ first c.requires) in
    let closed : S ax.field (zip_first it).start ≡ false =
    sets_at values rows ax.field c.index-self-axis.result below c.index-self-axis.is (zip_first it).start ∙ ap (λ r. values r (zip_first it).start) c.index-self-axis.is
    ∙ ap (values (get_or rows ax.field c.index-self-axis.result)) (sym s.0.1.1) ∙ sym c.has.ensures ∙ c.if-has.false
    in (
      search rules,
      search rules,
      omega (arith, s.0.1.2, s.0.1.0, inv.3),
      s.0.0 ∙ inv.3,
      s.1.0 ∙ inv.4,
      part.1 ∙ ap (λ k. drop (k * (length cells / ax.extent)) cells) (sym s.0.1.2),
      subst (λ k. Swept values S X c.args.level (length axes) (Under k (Reaches S axes cells)) c.args.rests.now c.loop-d.rests c.loop-d.hits) (sym s.0.1.2)
          (block_closed _ _ _ _ _ _ first c.requires values S X c.args.rests.now (zip_first it).start c.loop-d.rests c.loop-d.hits closed inv.6),
    )

pub returns : goal.returns
returns g t c =
    let inv = c.loop-d.invariant in
    let first = c.in-Some.ensures.cases.0 in
    let it = c.loop-d.d-iterator in
    let ax = c.in-Some.axis.now in
    let cells = c.args.cells.now in
    let extent : (get_or c.args.axes.now 0 no_axis).extent ≡ ax.extent = ap (λ qs. (get_or qs 0 no_axis).extent) first in
    let done : ax.extent ≤ (zip_first it).start = elim c.in-None.ensures.steps [
      | inl none ↦ omega (arith, none.1.1.0, inv.3)
      | inr few ↦ none_left_over (length cells / ax.extent) (zip_first it).start ax.extent cells (chunks_exact_rest (zip_second it)) inv.5 (blocks_long _ _ _ _ _ _ first c.requires) (omega (arith, few.1.1.0, inv.4))
    ] in
    blocks_done _ _ _ _ _ _ first c.requires g.R.Row.values (sets g.R.Row.values c.args.self.now.rows.now) (g.R.Row.values c.args.self.now.x) c.args.rests.now (zip_first it).start c.loop-d.rests c.loop-d.hits done inv.6
