use Rattle.std.proofs.lemmas.Bool.{both_ways}
use Rattle.settle.proofs.SettledRows.{settled_none, settled_ringed, settled_ringless}
use Rattle.settle.proofs.lawful_book.LawfulBook.settle.Goals as goal

pub returns-then-any_empty : goal.returns-then-any_empty
returns-then-any_empty g c =
    let book = c.args.self.now in
    settled_none g.R.Row.values g.R.Row.SPAN g.met.R.Row.inside _ book.n c.args.rows.now book.lawful
    c.make_rounds-rounds.new.rows c.empty_all.new.rows c.make_rounds-rounds.result c.make_rounds-rounds.ensures (c.any_empty.ensures.0 c.if-any_empty.true) c.empty_all.ensures

pub returns-then-has_ring : goal.returns-then-has_ring
returns-then-has_ring g c =
    let book = c.args.self.now in
    settled_ringed g.R.Row.values g.R.Row.SPAN g.met.R.Row.inside _ book.n c.args.rows.now book.lawful
    c.make_rounds-rounds.new.rows c.make_rounds-rounds.result c.make_rounds-rounds.ensures (λ some. both_ways _ c.if-any_empty.false (c.any_empty.ensures.1 some)) (c.has_ring.ensures.0 c.if-has_ring.true)

pub returns-else-has_ring : goal.returns-else-has_ring
returns-else-has_ring g c =
    let book = c.args.self.now in
    settled_ringless g.R.Row.values g.R.Row.SPAN g.met.R.Row.inside _ book.n c.args.rows.now book.lawful
    c.make_rounds-rounds.new.rows c.make_rounds-rounds.result c.make_rounds-rounds.ensures (λ some. both_ways _ c.if-any_empty.false (c.any_empty.ensures.1 some)) (λ ring. both_ways _ c.if-has_ring.false (c.has_ring.ensures.1 ring))
