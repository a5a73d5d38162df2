use Rattle.std.proofs.Common.{min, ◌&&◌, take, ap, ◌∙◌}
use Rattle.std.proofs.lemmas.Bool.{le-ltb}
use Rattle.bits.specs.Reads.{bits_have}
use Rattle.rows.proofs.Counts.{how_many_same, how_many_wider}
use Rattle.rows.specs.Runs.{in_some}
use Rattle.runs.specs.Reads.{runs_have}
use Rattle.runs.proofs.RunsRow.size.Goals as goal

pub returns : goal.returns
returns c =
    let row = c.args.self in
    c.size.ensures ∙ how_many_same 256 (bits_have c.from.result) (runs_have row) (λ v _. c.from.ensures v)
    ∙ how_many_wider 128 128 (runs_have row) (λ v h. ap (λ b. b && in_some (take (min row.count 64) row.pairs) v) (le-ltb v 128 h))
