use Rattle.std.proofs.Common.{rules, ap, length, ◌-◌}
use Rattle.rows.proofs.RunLists.{none_from, next_is_first}
use Rattle.rows.proofs.listing.RowRunsIterator.next.Goals as goal

pub returns-in_err-run-clause-steps : goal.returns-in_err-run-clause-steps
returns-in_err-run-clause-steps g c =
    let s = c.args.self.now in
    let none = none_from (g.R.Row.SPAN - s.from) s.from (g.R.Row.values s.row) c.in_err-run.ensures in
    search rules

pub returns-clause-steps : goal.returns-clause-steps
returns-clause-steps g c =
    let s = c.args.self.now in
    next_is_first g.R.Row.SPAN s.from (g.R.Row.values s.row) c.in_ok-run.run' (g.met.R.Row.inside s.row) c.in_ok-run.ensures

pub returns-clause-goes : goal.returns-clause-goes
returns-clause-goes g c =
    let s = c.args.self.now in
    let first = next_is_first g.R.Row.SPAN s.from (g.R.Row.values s.row) c.in_ok-run.run' (g.met.R.Row.inside s.row) c.in_ok-run.ensures in
    let shorter = ap length first in
    search rules
