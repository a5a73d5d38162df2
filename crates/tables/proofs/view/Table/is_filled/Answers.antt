use Rattle.std.proofs.Common.{◌≡◌, ℕ, ◌+◌, true, drop, sym, refl, ◌∙◌, subst, arith}
use Rattle.std.proofs.lemmas.Bool.{false≢true, both_ways}
use Rattle.std.proofs.lemmas.Bool.Decides.{not_from_Decides}
use Rattle.rules.specs.Books.{sets}
use Rattle.rules.specs.Rules.{In}
use Rattle.rules.proofs.RowSets.{sets_at}
use Rattle.tables.specs.Reads.{cell_fields}
use Rattle.tables.proofs.ViewSteps.{field_among, rest_field, rest_constant, rest_none, some_value, each_of}
use Rattle.tables.proofs.view.Table.is_filled.Goals as goal
use Rattle.tables.proofs.view.Table.is_filled.Goals.{in-Field+else-is_empty, in_default}

pub offset_bounds-rows-f : goal.offset_bounds-rows-f
offset_bounds-rows-f g c =
    omega (arith, c.requires c.in-Field.f (field_among c.args.self.now.cells.now c.loop-cell.cell-index c.in-Field.f _ c.loop-cell-test.true c.in-Field.is))

pub bounds-rows-f : goal.bounds-rows-f
bounds-rows-f g c = c.requires c.in-Field.f (field_among c.args.self.now.cells.now c.loop-cell.cell-index c.in-Field.f _ c.loop-cell-test.true c.in-Field.is)

pub returns-then-is_empty : goal.returns-then-is_empty
returns-then-is_empty g c =
    let rows = c.args.rows.now in
    let f = c.in-Field.f in
    let values = g.R.Row.values in
    let row = c.index-rows-f.result in
    let here = field_among c.args.self.now.cells.now c.loop-cell.cell-index f _ c.loop-cell-test.true c.in-Field.is in (
      λ e. absurd (false≢true e),
      λ all.
          let some = all f here in
          absurd (both_ways (values row some.0) (c.is_empty.ensures.0 c.if-is_empty.true some.0)
          (sym (sets_at values rows f row (c.requires f here) c.index-rows-f.is some.0) ∙ some.1)),
    )

pub loop-cell-preserved : goal.loop-cell-preserved
loop-cell-preserved g c rest =
    let cells = c.args.self.now.cells.now in
    let rows = c.args.rows.now in
    let i = c.loop-cell.cell-index in
    let values = g.R.Row.values in
    let within = c.loop-cell-test.true in
    elim c.match-cell.branch [
      | in-Field+else-is_empty w ↦
          let f = w.in-Field.f in
          let row = w.index-rows-f.result in
          let low = c.requires f (field_among cells i f _ within w.in-Field.is) in
          let some = some_value g.R.Row.SPAN (values row) (g.met.R.Row.inside row) (not_from_Decides w.is_empty.result w.is_empty.ensures w.if-is_empty.false) in
          c.loop-cell.invariant
          (each_of (λ f. (v : ℕ) × (sets values rows f v ≡ true)) f (cell_fields (drop (i + 1) cells)) (cell_fields (drop i cells)) (rest_field cells i f within w.in-Field.is)
          (some.0, sets_at values rows f row low w.index-rows-f.is some.0 ∙ some.1) rest)
      | in_default w ↦ c.loop-cell.invariant (λ f h. rest f (subst (In f) (rest_constant cells i w.in_default.field-0 within w.in_default.is) h))
    ]

pub returns : goal.returns
returns g c = (
  λ _. c.loop-cell.invariant (λ f h. absurd (subst (In f) (rest_none c.args.self.now.cells.now c.loop-cell.cell-index c.loop-cell-test.false) h)),
  λ _. refl,
)
