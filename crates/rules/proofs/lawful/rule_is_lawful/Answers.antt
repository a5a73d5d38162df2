use Rattle.std.proofs.Common.{rules, tests, refl, sym, ◌∙◌, inl, inr, ⊎_elim, arith}
use Rattle.std.proofs.lemmas.Bool.{false≢true}
use Rattle.std.proofs.lemmas.Iterator.{YieldsList-from_range, YieldsList-from_map}
use Rattle.rules.specs.Books.{told_field}
use Rattle.rules.proofs.Deciding.{noted_lawful}
use Rattle.rules.proofs.Telling.{unlawful_size}
use Rattle.rules.proofs.lawful.rule_is_lawful.Goals as goal

pub returns-then-size-eq0 : goal.returns-then-size-eq0
returns-then-size-eq0 g c =
    let rules = g.B.Book.rules c.args.book.now in
    let told = c.scope_size-size.ensures in (
      λ e. absurd (false≢true e),
      λ lawful. absurd (unlawful_size rules c.args.k c.args.n (omega arith) (omega arith)
          (⊎_elim (λ none. inl (sym told ∙ none)) (λ lots. inr (sym told ∙ lots.1)) c.then-size-eq0.either) lawful),
    )

pub returns : goal.returns
returns g c =
    let book = g.B.Book.rules c.args.book.now in
    let size = c.scope_size-size.result in
    noted_lawful book c.args.k c.args.n (omega arith) (omega arith) size c.scope_size-size.ensures c.if-size-eq0.false c.if-size.false
    c.none-seen.result c.note_all.new.self c.note_all.result c.none-seen.ensures
    (c.note_all.ensures _
    (YieldsList-from_map _ (told_field book c.args.k) (YieldsList-from_range 0 size size (cc) (omega arith)) c.map.ensures.closure (λ x r q k. search (rules, tests))).runs
    c.args.n refl)
