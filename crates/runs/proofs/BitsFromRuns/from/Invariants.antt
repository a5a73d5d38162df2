use Rattle.std.proofs.Common.{◌≡◌, ℕ, ◌&&◌, ltb, take}
use Rattle.bits.specs.Reads.{bits_have}
use Rattle.rows.specs.Runs.{in_some}
use Rattle.runs.proofs.BitsFromRuns.from.Given as goal

-- the values of the runs passed
abbrev pub invariant-loop-run : goal.invariant-loop-run
invariant-loop-run l = (v : ℕ) → bits_have l.bits v ≡ (ltb v 128 && in_some (take l.run-index l.run-items) v)
