use Rattle.std.proofs.Common.{not, ◌&&◌, eqb, sym, ap, ◌∙◌}
use Rattle.rows.proofs.Minus.{gone_more, kept_more}
use Rattle.rows.proofs.Row.minus.Goals as goal
use Rattle.rows.proofs.Row.minus.Goals.{then-has, else-has}

pub loop-v-preserved : goal.loop-v-preserved
loop-v-preserved g c =
    let has = g.Self.Row.values in
    let other = has c.args.other in
    let v = c.loop-v.v in
    elim c.if-has.branch [
      | then-has way ↦ λ w.
          ap (λ r. has r w) way.left-is ∙ way.without-left.ensures w
          ∙ ap (λ b. b && not (eqb w v)) (c.loop-v.invariant w)
          ∙ gone_more (has c.args.self w) other v w (sym way.if-has.ensures)
      | else-has way ↦ λ w.
          ap (λ r. has r w) way.left-is ∙ c.loop-v.invariant w
          ∙ kept_more (has c.args.self w) other v w (sym way.if-has.ensures)
    ]
