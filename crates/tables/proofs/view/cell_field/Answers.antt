use Rattle.std.proofs.Common.{◌≡◌, suc, slice_get, sym, ap, ◌∙◌, ap₂, arith}
use Rattle.tables.proofs.ViewSteps.{rest_field, rest_constant, rest_none}
use Rattle.tables.proofs.view.cell_field.Goals as goal
use Rattle.tables.proofs.view.cell_field.Goals.{in-Field+else-left-eq0, in_default}

pub returns-then-left-eq0 : goal.returns-then-left-eq0
returns-then-left-eq0 c =
    let here = rest_field c.args.cells.now c.loop-cell.cell-index c.in-Field.f c.loop-cell-test.true c.in-Field.is in
    sym (c.loop-cell.invariant ∙ ap₂ (λ fs k. slice_get fs k) here c.if-left-eq0.true)

pub loop-cell-preserved : goal.loop-cell-preserved
loop-cell-preserved c =
    let cells = c.args.cells.now in
    let i = c.loop-cell.cell-index in
    let left = c.loop-cell.left in
    elim c.match-cell.branch [
      | in-Field+else-left-eq0 w ↦
          let here = rest_field cells i w.in-Field.f c.loop-cell-test.true w.in-Field.is in
          let one : left ≡ suc c.match-cell.left = omega (arith, w.left-is, w.if-left-eq0.false) in
          c.loop-cell.invariant ∙ ap₂ (λ fs k. slice_get fs k) here one
      | in_default w ↦
          let here = rest_constant cells i w.in_default.field-0 c.loop-cell-test.true w.in_default.is in
          c.loop-cell.invariant ∙ ap₂ (λ fs k. slice_get fs k) here (sym w.left-is)
    ]

pub returns : goal.returns
returns c = sym (c.loop-cell.invariant ∙ ap (λ fs. slice_get fs c.loop-cell.left) (rest_none c.args.cells.now c.loop-cell.cell-index c.loop-cell-test.false))
