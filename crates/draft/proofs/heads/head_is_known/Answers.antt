use Rattle.std.proofs.Common.{map, rules, tests}
use Rattle.draft.specs.Lists.{pairs, first_field}
use Rattle.draft.proofs.Chains.{gives, made_given}
use Rattle.draft.proofs.heads.head_is_known.Goals as goal

pub returns-then-x-n : goal.returns-then-x-n
returns-then-x-n c =
    let known = c.all_known.ensures (map first_field (pairs c.args.list.now)) (gives (made_given first_field c.map.ensures.source c.map.ensures.closure (λ x r q k. search rules))) in
    search (rules, tests)
