use Rattle.std.proofs.Common.{rules, arith, ap, ◌∙◌, ◌≡◌, Some, ℕ, ◌+◌, ◌-◌, ◌*◌, ◌<◌, ◌≤◌, get_or}
use Rattle.rows.specs.Values.{GreatestOf}
use Rattle.rows.specs.Words.{bit}
use Rattle.bits.specs.Reads.{bits_have}
use Rattle.bits.proofs.Backward.{four_back}
use Rattle.bits.proofs.FourWords.{greatest_at, none_at, greatest_of}
use Rattle.bits.proofs.BitsOrderedRow.greatest.Goals as goal

pub returns : goal.returns
returns c =
    let row = c.args.self in
    let told = c.find_map.result in
    let run = c.find_map.ensures.runs in
    let p = run.0 in
    let back = four_back p (ap (λ s. s.iter) run.1 ∙ c.rev.ensures.source) in
    let i = 4 - p.len in
    let found : (v : ℕ) → told ≡ Some v → 0 < p.len = λ v e. search rules in
    greatest_of (bits_have row) told
    (λ e. none_at row (λ j h. let here = back.2 j h in search rules))
    (λ v e.
    let some = found v e in
    let here = back.2 i (omega arith) (omega arith) in
    let above : 64 * i ≤ v = grind (arith, some, here, e, run.2) in
    let below : v < 64 * i + 64 = grind (arith, some, here, e, run.2) in
    let top : GreatestOf (bit (get_or row.words i 0)) (v - 64 * i) = grind (arith, some, here, e, run.2) in
    greatest_at row i v (omega arith) above below top (λ j m h. let here = back.2 j h in search rules))
