use Rattle.std.proofs.Common.{rules, arith, ◌≡◌, ◌<◌, ◌≤◌, ◌+◌, ℕ, false, ap, ap₂, sym, refl, ◌∙◌, length, take, ◌||◌, length-set}
use Rattle.std.proofs.lemmas.Bool.Decides.{nat_tests}
use Rattle.std.specs.Iterator.Adapters.{enumerate_source}
use Rattle.rows.specs.Runs.{in_some, runs_left}
use Rattle.rows.specs.Values.{up_to}
use Rattle.bits.specs.Reads.{bits_have}
use Rattle.runs.proofs.InSome.{placed, low_runs}
use Rattle.runs.proofs.record.Runs.from_bits.Goals as goal

pub loop-i-init : goal.loop-i-init
loop-i-init c =
    let rest = ap (λ it. runs_left 256 bits_have (enumerate_source it)) c.into_iter-i-iterator.ensures.into_iter_gives
    ∙ ap (runs_left 256 bits_have) c.enumerate-i-items.ensures.source ∙ c.runs_of.ensures in
    let all = low_runs (bits_have c.at_most.result) (λ v h. c.at_most.ensures v ∙ above v h) in (
      refl,
      search rules,
      omega (arith, ap length rest, all.0),
      λ v. ap (λ runs. in_some runs v) rest ∙ all.1 v ∙ c.at_most.ensures v,
    )
  where
    above : (v : ℕ) → 128 ≤ v → up_to (bits_have c.args.bits) 127 v ≡ false
    above v h = grind (arith, nat_tests)

pub loop-i-preserved : goal.loop-i-preserved
loop-i-preserved c =
    let steps = c.in-Some.ensures.steps in
    let kept = c.loop-i.invariant in
    let pairs = c.loop-i.pairs in
    let i = c.in-Some.i in
    let run = c.in-Some.run' in
    let rest = runs_left 256 bits_have (enumerate_source c.next.new.self) in
    let room : i < length pairs = omega (arith, ap length steps.0, steps.1, kept.0, kept.1, kept.2) in (
      length-set pairs i run ∙ kept.0,
      steps.2 ∙ ap (λ n. n + 1) (sym steps.1),
      omega (arith, ap length steps.0, steps.1, kept.1, kept.2),
      λ v. placed pairs i run rest v room
          ∙ ap₂ (λ n runs. in_some (take n pairs) v || in_some runs v) (steps.1 ∙ kept.1) (sym steps.0)
          ∙ kept.3 v,
    )
