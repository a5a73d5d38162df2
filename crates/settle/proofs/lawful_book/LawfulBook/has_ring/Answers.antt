use Rattle.std.proofs.Common.{◌-◌, refl, arith}
use Rattle.std.proofs.lemmas.Bool.{false≢true}
use Rattle.rules.proofs.Loops.{tree_no_ring}
use Rattle.settle.proofs.Passing.{counted}
use Rattle.settle.proofs.RingTest.{joined_tree, clash_ring, whole_tree}
use Rattle.settle.proofs.lawful_book.LawfulBook.has_ring.Goals as goal

pub returns-then-not-join : goal.returns-then-not-join
returns-then-not-join g c = (
  λ _.
      let book = c.args.self.now in
      let rules = g.B.Book.rules book.book.now in
      let long = counted rules c.rule_count-k.result book.lawful.few c.rule_count-k.ensures in
      clash_ring rules book.n book.known book.lawful c.loop-k.k (c.loop-k.k - 1) (omega arith) (omega arith) c.loop-k.labels c.join.new.labels c.loop-k.invariant.0 c.loop-k.invariant.1
      c.if-not-join.ensures,
  λ _. refl,
)

pub loop-k-preserved : goal.loop-k-preserved
loop-k-preserved g c =
    let book = c.args.self.now in
    let rules = g.B.Book.rules book.book.now in
    let long = counted rules c.rule_count-k.result book.lawful.few c.rule_count-k.ensures in
    joined_tree rules book.n book.known book.lawful c.loop-k.k (c.loop-k.k - 1) (omega arith) (omega arith) c.loop-k.labels c.join.new.labels c.loop-k.invariant.0 c.loop-k.invariant.1
    c.if-not-join.ensures

pub returns : goal.returns
returns g c = (
  λ e. absurd (false≢true e),
  λ ring. absurd (tree_no_ring _ (whole_tree _ c.loop-k.k c.loop-k-test.false c.loop-k.invariant.0) ring),
)
