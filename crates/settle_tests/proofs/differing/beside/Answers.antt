use Rattle.std.proofs.Common.{◌∙◌, arith}
use Rattle.std.proofs.lemmas.Bool.Decides.{nat_tests}
use Rattle.settle_tests.proofs.Others.{beside_none, beside_one, beside_more}
use Rattle.settle_tests.proofs.differing.beside.Goals as goal

pub returns-in-0 : goal.returns-in-0
returns-in-0 g c =
    let values = g.R.Row.values in
    beside_none g.R.Row.SPAN (values c.args.row) (values c.args.other) (values c.make.result) (g.met.R.Row.inside c.args.other)
    (omega arith) (λ v. c.make.ensures v ∙ grind (arith, nat_tests))

pub returns-in-1 : goal.returns-in-1
returns-in-1 g c =
    let values = g.R.Row.values in
    beside_one g.R.Row.SPAN (values c.args.row) (values c.args.other) (values c.minus.result) (g.met.R.Row.inside c.args.other)
    (omega arith) c.minus.ensures

pub returns-in_default : goal.returns-in_default
returns-in_default g c =
    let values = g.R.Row.values in
    beside_more g.R.Row.SPAN (values c.args.row) (values c.args.other) (values c.args.row) (g.met.R.Row.inside c.args.other) (λ e. omega arith) (λ e. omega arith)
