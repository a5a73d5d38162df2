use Rattle.std.proofs.Common.{arith}
use Rattle.rules.specs.Rules.{LawfulRule}
use Rattle.rules.proofs.Telling.{place_by_each}
use Rattle.settle.proofs.Passing.{counted, so_far_more}
use Rattle.settle.proofs.lawful_book.LawfulBook.narrow_all.Goals as goal

pub loop-k-preserved : goal.loop-k-preserved
loop-k-preserved g c =
    let book = c.args.self.now in
    let rules = g.B.Book.rules book.book.now in
    let long = counted rules c.rule_count-count.result book.lawful.few c.rule_count-count.ensures in
    so_far_more g.R.Row.values rules book.n c.args.rows.now c.loop-k.k c.loop-k.rows c.narrow-changed.new.rows c.loop-k.changed c.narrow-changed.result
    (omega arith) (place_by_each (LawfulRule book.n) rules book.lawful.each c.loop-k.k (omega arith)) c.loop-k.invariant c.narrow-changed.ensures
