use Rattle.std.proofs.Common.{ap, ◌∙◌}
use Rattle.rules.specs.Books.{rule_at}
use Rattle.settle.specs.Labels.{label_of, replaced}
use Rattle.settle.proofs.ScopeLabels.{rule_lawful, book_field, merged}
use Rattle.settle.proofs.lawful_book.LawfulBook.join.Goals as goal

pub returns-then-scope_size-gt1 : goal.returns-then-scope_size-gt1
returns-then-scope_size-gt1 g c =
    let book = c.args.self.now in
    let rules = g.B.Book.rules book.book.now in
    let L = label_of c.args.labels.now in
    let different = c.in-Some.ensures in
    let some = (rule_lawful rules book.n c.args.k book.known book.lawful c.requires).names_some in
    let first = c.scope_field-first.ensures ∙ book_field rules book.n c.args.k book.known book.lawful c.requires 0 some in (
      different.0,
      λ f l. c.replace.ensures f l
          ∙ ap (λ h. replaced c.in-Some.met (L h) L f) first
          ∙ merged L (rule_at rules c.args.k).scope c.in-Some.met different.1 some f,
    )
