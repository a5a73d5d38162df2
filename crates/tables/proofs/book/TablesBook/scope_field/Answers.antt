use Rattle.std.proofs.Common.{◌≡◌, ◌≤◌, leb, get_or, sym, ap, ◌∙◌, arith}
use Rattle.std.proofs.lemmas.Bool.{cond-true, le-leb}
use Rattle.std.proofs.lemmas.Bool.Decides.{nat_tests}
use Rattle.std.proofs.lemmas.Option.{unwrap_or-slice_get}
use Rattle.std.specs.Option.{unwrap_or}
use Rattle.rules.specs.Books.{told}
use Rattle.tables.specs.Views.{scope_of}
use Rattle.tables.proofs.book.TablesBook.scope_field.Goals as goal

pub returns-in-Some : goal.returns-in-Some
returns-in-Some g c =
    let k = c.args.k in
    let place = c.args.place in
    let fs = scope_of c.in-Some.table in
    let byte : unwrap_or c.field.result 255 ≤ 255 = omega arith in
    let at : unwrap_or c.field.result 255 ≡ get_or fs place 255 = ap (λ o. unwrap_or o 255) c.field.ensures ∙ unwrap_or-slice_get fs place 255 in
    let told_there : unwrap_or c.field.result 255 ≡ told (get_or fs place 255) = grind (arith, nat_tests) in
    c.unwrap_or.ensures
    ∙ told_there
    ∙ sym (ap (λ r. told (get_or r.scope place 255)) c.in-Some.ensures)
    ∙ sym (cond-true (leb k 1023) _ _ (le-leb k 1023 c.if-k-gt1023.false))
