use Rattle.std.proofs.Common.{filter_map, rules}
use Rattle.draft.specs.Lists.{pairs, marked_field}
use Rattle.draft.proofs.Chains.{gives, chosen_given}
use Rattle.draft.proofs.state.Draft.check_cells.Goals as goal

pub returns-then-not-all_known : goal.returns-then-not-all_known
returns-then-not-all_known g c =
    let known = c.all_known.ensures (filter_map marked_field (pairs c.args.list.now)) (gives (chosen_given marked_field c.filter_map.ensures.source c.filter_map.ensures.closure (λ x r q k. search rules))) in
    search rules

pub returns-then-not-cells_stay_apart : goal.returns-then-not-cells_stay_apart
returns-then-not-cells_stay_apart g c =
    let known = c.all_known.ensures (filter_map marked_field (pairs c.args.list.now)) (gives (chosen_given marked_field c.filter_map.ensures.source c.filter_map.ensures.closure (λ x r q k. search rules))) in
    search rules

pub returns : goal.returns
returns g c =
    let known = c.all_known.ensures (filter_map marked_field (pairs c.args.list.now)) (gives (chosen_given marked_field c.filter_map.ensures.source c.filter_map.ensures.closure (λ x r q k. search rules))) in
    search rules
