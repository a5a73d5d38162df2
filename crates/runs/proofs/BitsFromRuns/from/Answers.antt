use Rattle.std.proofs.Common.{get_or, take, arith}
use Rattle.std.proofs.lemmas.List.{get_or_default}
use Rattle.bits.specs.Reads.{bits_have}
use Rattle.runs.proofs.InSome.{joins}
use Rattle.runs.proofs.BitsFromRuns.from.Goals as goal

pub loop-run-preserved : goal.loop-run-preserved
loop-run-preserved c =
    let passed = take c.min-count.result c.args.runs.pairs in
    let i = c.loop-run.run-index in
    let run = get_or passed i (record { low = 0; high = 0 }) in
    joins (bits_have c.loop-run.bits) (bits_have c.make.result) (bits_have c.joined-bits.result) passed i run c.min.result
    (omega arith) (get_or_default passed i _ _ (omega arith)) c.min.ensures c.loop-run.invariant c.make.ensures c.joined-bits.ensures
