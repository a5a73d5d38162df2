use Rattle.std.proofs.Common.{◌∙◌, ⊎_elim, arith}
use Rattle.std.proofs.lemmas.Bool.{eqb-true, eq-eqb, cases_Bool}
use Rattle.rows.proofs.Counts.{how_many_none, how_many_some}
use Rattle.rows.proofs.Row.is_empty.Goals as goal

pub returns : goal.returns
returns g c =
    let p = g.Self.Row.values c.args.self in
    let n = g.Self.Row.SPAN in (
      λ zero v. ⊎_elim
          (λ there. absurd (omega (arith, how_many_some n p v (g.met.Self.Row.inside c.args.self v there) there, c.size.ensures, eqb-true _ _ zero)))
          (λ gone. gone)
          (cases_Bool (p v)),
      λ none. eq-eqb _ _ (c.size.ensures ∙ how_many_none n p (λ v _. none v)),
    )
