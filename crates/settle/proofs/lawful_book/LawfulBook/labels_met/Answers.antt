use Rattle.std.proofs.Common.{tests, arith}
use Rattle.std.proofs.lemmas.Iterator.{YieldsList-from_range, YieldsList-from_map}
use Rattle.rules.specs.Books.{rule_at, told_field}
use Rattle.settle.specs.Labels.{label_of}
use Rattle.settle.proofs.ScopeLabels.{labels_told, labels_noted}
use Rattle.settle.proofs.lawful_book.LawfulBook.labels_met.Goals as goal

pub returns : goal.returns
returns g c =
    let book = c.args.self.now in
    let rules = g.B.Book.rules book.book.now in
    let L = label_of c.args.labels.now in
    let size = c.scope_size-size.result in
    rw c.then_some.ensures
    (labels_noted L (rule_at rules c.args.k).scope c.none-met.result c.note_all.new.self c.note_all.result _
    (labels_told rules book.n c.args.k book.known book.lawful c.requires L size c.scope_size-size.ensures)
    c.none-met.ensures
    (c.note_all.ensures _
    (YieldsList-from_map _ (λ place. L (told_field rules c.args.k place)) (YieldsList-from_range 0 size size (cc) (omega arith)) c.map.ensures.closure (λ x r q k. search tests)).runs))
