use Rattle.rules.specs.Books.{rule_at}
use Rattle.rules.proofs.Appended.{first_reach, first_rule, second_reach, second_rule, moved}
use Rattle.rules.proofs.joined.JoinedBook.narrow.Goals as goal

pub returns-in-Some-First : goal.returns-in-Some-First
returns-in-Some-First g c =
    let qs = g.A.Book.rules c.args.self.now.first in
    let rs = g.B.Book.rules c.args.self.now.second in
    let at = c.in-Some-First in
    let reach = first_reach qs rs c.args.k at.j at.field-0 at.ensures at.field-0-is in
    moved g.R.Row.values _ (rule_at qs at.j) c.args.k at.j c.args.n c.args.rows.now c.narrow.new.rows c.narrow.result reach.0 reach.1
    (first_rule qs rs c.args.k at.j at.field-0 at.ensures at.field-0-is) c.narrow.ensures

pub returns-in-Some-Second : goal.returns-in-Some-Second
returns-in-Some-Second g c =
    let qs = g.A.Book.rules c.args.self.now.first in
    let rs = g.B.Book.rules c.args.self.now.second in
    let at = c.in-Some-Second in
    let reach = second_reach qs rs c.args.k at.j at.field-0 at.ensures at.field-0-is in
    moved g.R.Row.values _ (rule_at rs at.j) c.args.k at.j c.args.n c.args.rows.now c.narrow-in-Some-Second.new.rows c.narrow-in-Some-Second.result reach.0 reach.1
    (second_rule qs rs c.args.k at.j at.field-0 at.ensures at.field-0-is) c.narrow-in-Some-Second.ensures
