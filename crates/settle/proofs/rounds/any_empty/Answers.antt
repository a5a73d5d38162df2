use Rattle.std.proofs.Common.{rules, take}
use Rattle.std.proofs.lemmas.Iterator.{cases_from_any, YieldsList-from_slice}
use Rattle.rows.specs.Values.{Empty}
use Rattle.settle.proofs.Emptying.{some_empty}
use Rattle.settle.proofs.rounds.any_empty.Goals as goal

pub returns : goal.returns
returns g c =
    let values = g.R.Row.values in
    let fields = take c.args.n c.args.rows.now in
    some_empty values c.args.rows.now c.args.n c.any.result c.requires
    (cases_from_any _ _ _ (λ row. Empty (values row)) (λ row. Empty (values row) → ⊥) c.any.ensures.ran (YieldsList-from_slice fields cc) (λ x q k. search rules) (λ x q k. search rules))
