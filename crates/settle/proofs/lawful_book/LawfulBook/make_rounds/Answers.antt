use Rattle.std.proofs.Common.{true, subst, inl, inr, arith}
use Rattle.std.proofs.lemmas.Bool.{both_ways}
use Rattle.rules.specs.Books.{sets}
use Rattle.settle.specs.Passes.{Passed}
use Rattle.settle.proofs.Totals.{total_le}
use Rattle.settle.proofs.Going.{passed_less, going_more, going_all}
use Rattle.settle.proofs.lawful_book.LawfulBook.make_rounds.Goals as goal
use Rattle.settle.proofs.lawful_book.LawfulBook.make_rounds.Goals.{then-not-changed-via-then-not-changed, then-not-changed-via-else-not-changed+then-any_empty-2}

pub overflow_add-rounds : goal.overflow_add-rounds
overflow_add-rounds g c =
    let R = g.R.Row in
    omega (arith, total_le R.SPAN c.args.self.now.n (sets R.values c.args.rows.now) g.met.R.Row.small)

pub returns-then-not-changed : goal.returns-then-not-changed
returns-then-not-changed g c =
    let R = g.R.Row in
    let all = going_all R.values R.SPAN _ c.args.self.now.n c.args.rows.now c.loop-rows.rounds c.loop-rows.rows c.narrow_all-changed.new.rows c.narrow_all-changed.result
    (λ some. both_ways _ c.if-any_empty.false (c.any_empty.ensures.1 some))
    c.loop-rows.invariant
    c.narrow_all-changed.ensures in
    elim c.then-not-changed.branch [
      | then-not-changed-via-then-not-changed w ↦ all (inr w.if-not-changed.true)
      | then-not-changed-via-else-not-changed+then-any_empty-2 w ↦ all (inl (w.any_empty-else-not-changed.ensures.0 w.if-any_empty-2.true))
    ]

-- the round took a value
passed : (g : _) (c : goal.Else-any_empty-2 g) → Passed g.R.Row.values (g.B.Book.rules c.args.self.now.book.now) c.args.self.now.n c.loop-rows.rows c.narrow_all-changed.new.rows true
passed g c = subst (λ b. Passed g.R.Row.values (g.B.Book.rules c.args.self.now.book.now) c.args.self.now.n c.loop-rows.rows c.narrow_all-changed.new.rows b) c.if-not-changed.false c.narrow_all-changed.ensures

pub loop-rows-smaller : goal.loop-rows-smaller
loop-rows-smaller g c = passed_less g.R.Row.values g.R.Row.SPAN _ _ c.args.rows.now g.met.R.Row.inside _ _ (passed g c)

pub loop-rows-preserved : goal.loop-rows-preserved
loop-rows-preserved g c =
    going_more _ _ _ _ _ g.met.R.Row.inside _ _ _ c.loop-rows.invariant (passed g c)
    (λ some. both_ways _ c.if-any_empty-2.false (c.any_empty-else-not-changed.ensures.1 some))
