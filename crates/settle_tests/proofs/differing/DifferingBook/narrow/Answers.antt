use Rattle.std.proofs.Common.{length, refl, subst, inl, inr, arith}
use Rattle.rules.specs.Books.{rule_at, FitsRule}
use Rattle.rules.specs.declared.fault.NarrowFault.TheVariants.{Unfit}
use Rattle.rules.proofs.MadeRules.{refused_as}
use Rattle.settle_tests.specs.Differ.{pair_rule, differ_rules}
use Rattle.settle_tests.proofs.Pairs.{past_unfit}
use Rattle.settle_tests.proofs.differing.DifferingBook.narrow.Goals as goal
use Rattle.settle_tests.proofs.differing.DifferingBook.narrow.Goals.{then-n-rows-via-then-n-rows, then-n-rows-via-else-n-rows+then-one-n, then-n-rows-via-else-n-rows+else-one-n+then-other-n, then-n-rows-via-else-n-rows+else-one-n+else-other-n+then-one-other}

pub returns-in_default : goal.returns-in_default
returns-in_default g c =
    let book = c.args.self.now in
    let rows = c.args.rows.now in
    refused_as g.R.Row.values (rule_at (differ_rules book) c.args.k) c.args.k c.args.n rows Unfit
    (past_unfit book c.args.k c.args.n (length rows) c.in_default.ensures)

pub returns-then-n-rows : goal.returns-then-n-rows
returns-then-n-rows g c =
    let rows = c.args.rows.now in
    let rule = rule_at (differ_rules c.args.self.now) c.args.k in
    refused_as g.R.Row.values rule c.args.k c.args.n rows Unfit
    (λ fits.
    let here : FitsRule (pair_rule c.in-Some.pair) c.args.k c.args.n (length rows) = subst (λ r. FitsRule r c.args.k c.args.n (length rows)) c.in-Some.ensures.2 fits in
    elim c.then-n-rows.branch [
      | then-n-rows-via-then-n-rows w ↦ omega (arith, here.enough, w.if-n-rows.true)
      | then-n-rows-via-else-n-rows+then-one-n w ↦ omega (arith, here.lawful.below _ (inl refl), w.if-one-n.true)
      | then-n-rows-via-else-n-rows+else-one-n+then-other-n w ↦ omega (arith, here.lawful.below _ (inr (inl refl)), w.if-other-n.true)
      | then-n-rows-via-else-n-rows+else-one-n+else-other-n+then-one-other w ↦ here.lawful.apart.0 (inl w.if-one-other.true)
    ])
