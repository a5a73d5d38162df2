use Rattle.std.proofs.Common.{length, sym, ap, ◌∙◌, arith}
use Rattle.std.proofs.lemmas.List.{length-map}
use Rattle.std.proofs.lemmas.Bool.Decides.{nat_tests}
use Rattle.tables.specs.Reads.{table_rule}
use Rattle.tables.proofs.book.TablesBook.scope_size.Goals as goal

pub returns-in-Some : goal.returns-in-Some
returns-in-Some g c =
    let book = c.args.self.now in
    let long = length-map book.heads.now (table_rule book.cells.now) in
    let size = c.field_total.ensures ∙ sym (ap (λ r. length r.scope) c.in-Some.ensures) in
    grind (arith, nat_tests)
