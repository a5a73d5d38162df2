use Rattle.std.proofs.Common.{length, ap, arith}
use Rattle.tables.proofs.ViewSteps.{rest_field, rest_constant, rest_none}
use Rattle.tables.proofs.view.field_count.Goals as goal
use Rattle.tables.proofs.view.field_count.Goals.{in-Field, in_default}

pub loop-cell-preserved : goal.loop-cell-preserved
loop-cell-preserved c =
    let cells = c.args.cells.now in
    let i = c.loop-cell.cell-index in
    elim c.match-cell.branch [
      | in-Field w ↦
          let left = ap length (rest_field cells i w.in-Field.field-0 c.loop-cell-test.true w.in-Field.is) in
          (omega (arith, w.count-is, c.loop-cell.invariant.0), omega (arith, w.count-is, c.loop-cell.invariant.1))
      | in_default w ↦
          let left = ap length (rest_constant cells i w.in_default.field-0 c.loop-cell-test.true w.in_default.is) in
          (omega (arith, w.count-is, c.loop-cell.invariant.0), omega (arith, w.count-is, c.loop-cell.invariant.1))
    ]

pub returns : goal.returns
returns c = omega (arith, c.loop-cell.invariant.0, ap length (rest_none c.args.cells.now c.loop-cell.cell-index c.loop-cell-test.false))
