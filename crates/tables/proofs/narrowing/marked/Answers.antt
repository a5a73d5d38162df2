use Rattle.std.proofs.Common.{◌≡◌, ℕ, ◌+◌, Bool, true, false, not, ◌&&◌, ◌||◌, eqb, leb, ltb, drop, get_or, sym, ap, ◌∙◌, arith}
use Rattle.std.proofs.lemmas.Bool.{lt-ltb}
use Rattle.std.proofs.lemmas.Bool.Decides.{nat_tests}
use Rattle.std.specs.Iterator.Adapters.{zip_first}
use Rattle.tables.proofs.Writes.{taken_at}
use Rattle.tables.proofs.narrowing.marked.Goals as goal

-- one value more is passed: it is left where it is marked, and others are as they were
module _ (row m : ℕ → Bool) (v w : ℕ) (b : Bool) (so_far : b ≡ (row w && (leb v w || (ltb w 256 && m w)))) where
  passed_unmarked : m v ≡ false → (b && not (eqb w v)) ≡ (row w && (leb (v + 1) w || (ltb w 256 && m w)))
  passed_unmarked none = grind (arith, nat_tests)

  passed_marked : m v ≡ true → ltb v 256 ≡ true → b ≡ (row w && (leb (v + 1) w || (ltb w 256 && m w)))
  passed_marked some small = grind (arith, nat_tests)

pub loop-v-preserved-then-not-marked : goal.loop-v-preserved-then-not-marked
loop-v-preserved-then-not-marked g c =
    let marks = c.args.marks.now in
    let row = g.R.Row.values c.args.row in
    let left = g.R.Row.values c.loop-v.left in
    let step = c.in-Some.ensures.steps in
    let inv = c.loop-v.invariant in
    let at = taken_at marks _ (zip_first c.loop-v.v-iterator).start c.in-Some.marked.now false (sym step.1 ∙ inv.3) in (
      (tt, tt),
      tt,
      step.0.0 ∙ inv.2,
      at.2 ∙ ap (λ n. drop n marks) (sym step.0.1.2),
      λ w. c.without-left.ensures w ∙ ap (λ v. left w && not (eqb w v)) step.0.1.1
          ∙ passed_unmarked row (λ v. get_or marks v false) (zip_first c.loop-v.v-iterator).start w (left w) (inv.4 w) (at.1 ∙ c.if-not-marked.true)
          ∙ ap (λ n. row w && (leb n w || (ltb w 256 && get_or marks w false))) (sym step.0.1.2),
    )

pub loop-v-preserved : goal.loop-v-preserved
loop-v-preserved g c =
    let marks = c.args.marks.now in
    let row = g.R.Row.values c.args.row in
    let left = g.R.Row.values c.loop-v.left in
    let step = c.in-Some.ensures.steps in
    let inv = c.loop-v.invariant in
    let at = taken_at marks _ (zip_first c.loop-v.v-iterator).start c.in-Some.marked.now false (sym step.1 ∙ inv.3) in (
      (tt, tt),
      tt,
      step.0.0 ∙ inv.2,
      at.2 ∙ ap (λ n. drop n marks) (sym step.0.1.2),
      λ w. passed_marked row (λ v. get_or marks v false) (zip_first c.loop-v.v-iterator).start w (left w) (inv.4 w) (at.1 ∙ c.if-not-marked.false)
          (lt-ltb (zip_first c.loop-v.v-iterator).start 256 (omega (arith, step.0.1.0, inv.2, g.met.R.Row.small)))
          ∙ ap (λ n. row w && (leb n w || (ltb w 256 && get_or marks w false))) (sym step.0.1.2),
    )
