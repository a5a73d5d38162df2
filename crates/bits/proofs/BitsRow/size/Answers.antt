use Rattle.std.proofs.Common.{rules, ◌∙◌, arith}
use Rattle.std.proofs.lemmas.Iterator.{YieldsList-from_slice, YieldsList-from_map}
use Rattle.std.proofs.lemmas.Iterator.Consumers.{sum_from_yields_List, fits_from_yields_list, YieldsList-at}
use Rattle.rows.specs.Values.{how_many}
use Rattle.rows.specs.Words.{bit}
use Rattle.rows.proofs.Counts.{how_many_le}
use Rattle.bits.specs.Reads.{bits_have}
use Rattle.bits.proofs.FourWords.{sum_of_list}
use Rattle.bits.proofs.BitsRow.size.Goals as goal

pub sum-requires-clause-fits : goal.sum-requires-clause-fits
sum-requires-clause-fits c =
    let row = c.args.self in
    fits_from_yields_list c.map.result _
    (YieldsList-from_map _ (λ w. how_many 64 (bit w)) (YieldsList-at c.map.ensures.source (YieldsList-from_slice row.words cc)) c.map.ensures.closure (λ x r q k. search rules))
    (omega (arith, sum_of_list row (search rules), how_many_le 256 (bits_have row)))

pub returns : goal.returns
returns c =
    let row = c.args.self in
    sum_from_yields_List c.map.result c.sum.result c.sum.ensures.ran
    (YieldsList-from_map _ (λ w. how_many 64 (bit w)) (YieldsList-at c.map.ensures.source (YieldsList-from_slice row.words cc)) c.map.ensures.closure (λ x r q k. search rules))
    ∙ sum_of_list row (search rules)
