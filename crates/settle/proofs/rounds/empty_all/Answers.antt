use Rattle.std.proofs.Common.{◌∙◌, rules, arith}
use Rattle.std.proofs.lemmas.Bool.Decides.{nat_tests}
use Rattle.rows.specs.Values.{Same, from_to}
use Rattle.settle.proofs.Emptying.{emptied}
use Rattle.settle.proofs.rounds.empty_all.Goals as goal

pub returns : goal.returns
returns g c =
    emptied g.R.Row.values _
    (λ p q row k. let made : Same (g.R.Row.values row) (from_to g.R.Row.SPAN 1 0) = search rules in λ v. made v ∙ grind (arith, nat_tests))
    c.args.rows.now c.fill_with.new.self c.args.n _ _ c.requires c.fill_with.ensures.len c.fill_with.ensures.ran.1
