use Rattle.std.proofs.Common.{◌*◌, ◌≤◌, take}
use Rattle.rules.specs.Books.{sets}
use Rattle.frames.specs.Parts.{Summed}
use Rattle.frames.proofs.bounded.Bounded.least_sum.Given as goal

-- the parts so far are summed up, each at most 510
abbrev pub invariant-loop-part : goal.invariant-loop-part
invariant-loop-part g l = Summed (sets g.R.Row.values l.rows) (take l.part-index l.self.parts.now) l.sum × (l.sum ≤ 510 * l.part-index)
