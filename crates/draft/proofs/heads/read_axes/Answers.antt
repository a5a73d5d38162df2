use Rattle.std.proofs.Common.{map, rules, ◌∙◌, arith}
use Rattle.std.proofs.lemmas.List.{length-map}
use Rattle.draft.specs.Lists.{pairs, axis_of}
use Rattle.draft.proofs.Chains.{gives, made_given}
use Rattle.draft.proofs.PairLists.{pairs_length, axes_written}
use Rattle.draft.proofs.heads.read_axes.Goals as goal

pub returns : goal.returns
returns c =
    let axes = map axis_of (pairs c.args.list.now) in
    c.write_from.ensures axes (gives (made_given axis_of c.map.ensures.source c.map.ensures.closure (λ x r q k. search rules)))
    ∙ axes_written axes (omega (arith, length-map (pairs c.args.list.now) axis_of, pairs_length c.args.list.now, c.requires))
