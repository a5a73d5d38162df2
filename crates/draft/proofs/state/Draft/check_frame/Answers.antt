use Rattle.std.proofs.Common.{map, rules}
use Rattle.draft.specs.Lists.{pairs, first_field}
use Rattle.draft.proofs.Chains.{gives, made_given}
use Rattle.draft.proofs.state.Draft.check_frame.Goals as goal

pub returns-then-not-all_known : goal.returns-then-not-all_known
returns-then-not-all_known g c =
    let known = c.all_known.ensures (map first_field (pairs c.args.list.now)) (gives (made_given first_field c.map.ensures.source c.map.ensures.closure (λ x r q k. search rules))) in
    search rules

pub returns-then-not-all_apart : goal.returns-then-not-all_apart
returns-then-not-all_apart g c =
    let known = c.all_known.ensures (map first_field (pairs c.args.list.now)) (gives (made_given first_field c.map.ensures.source c.map.ensures.closure (λ x r q k. search rules))) in
    let apart = c.all_apart.ensures (map first_field (pairs c.args.list.now)) (gives (made_given first_field c.map-2.ensures.source c.map-2.ensures.closure (λ x r q k. search rules))) in
    search rules

pub returns : goal.returns
returns g c =
    let known = c.all_known.ensures (map first_field (pairs c.args.list.now)) (gives (made_given first_field c.map.ensures.source c.map.ensures.closure (λ x r q k. search rules))) in
    let apart = c.all_apart.ensures (map first_field (pairs c.args.list.now)) (gives (made_given first_field c.map-2.ensures.source c.map-2.ensures.closure (λ x r q k. search rules))) in
    search rules
