use Rattle.std.proofs.Common.{length, map, ap, rules, arith}
use Rattle.draft.specs.Lists.{pairs, part_of}
use Rattle.draft.specs.Memory.{held}
use Rattle.draft.proofs.Chains.{gives, made_given}
use Rattle.draft.proofs.EntryRoom.{parts_fit}
use Rattle.draft.proofs.PairLists.{pairs_length}
use Rattle.draft.proofs.state.Draft.enter_frame.Goals as goal

pub write_from-requires-clause-fits : goal.write_from-requires-clause-fits
write_from-requires-clause-fits g c =
    let fits = parts_fit c.args.self (length c.args.rows.now) (held c.args.memory.now) c.args.parts.now c.in_default.ensures.0 in
    omega (arith, fits, ap (λ s. length (pairs s.0.now)) c.map.ensures.source, pairs_length c.args.parts.now)

pub returns : goal.returns
returns g c =
    let written = c.write_from.ensures (map part_of (pairs c.args.parts.now)) (gives (made_given part_of c.map.ensures.source c.map.ensures.closure (λ x r q k. search rules))) in
    search rules
