use Rattle.std.proofs.Common.{◌∙◌}
use Rattle.rules.proofs.Appended.{first_field, second_field}
use Rattle.rules.proofs.joined.JoinedBook.scope_field.Goals as goal

pub returns-in-Some-First : goal.returns-in-Some-First
returns-in-Some-First g c =
    let qs = g.A.Book.rules c.args.self.now.first in
    let rs = g.B.Book.rules c.args.self.now.second in
    let at = c.in-Some-First in
    c.scope_field.ensures ∙ first_field qs rs c.args.k at.j at.field-0 at.ensures at.field-0-is c.args.place

pub returns-in-Some-Second : goal.returns-in-Some-Second
returns-in-Some-Second g c =
    let qs = g.A.Book.rules c.args.self.now.first in
    let rs = g.B.Book.rules c.args.self.now.second in
    let at = c.in-Some-Second in
    c.scope_field-in-Some-Second.ensures ∙ second_field qs rs c.args.k at.j at.field-0 at.ensures at.field-0-is c.args.place
