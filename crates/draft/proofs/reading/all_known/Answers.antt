use Rattle.std.proofs.Common.{nat_lt, rules, tests}
use Rattle.std.proofs.lemmas.Iterator.{YieldsList}
use Rattle.std.proofs.lemmas.Iterator.Search.{all_from_yields_List}
use Rattle.draft.proofs.reading.all_known.Goals as goal

pub returns : goal.returns
returns g c fs yields =
    let road : YieldsList g.I.Iterator.next_gives (λ f. f) c.args.fields fs = record { runs = yields } in
    all_from_yields_List (λ f. nat_lt f c.args.n) _ _ _ c.all.ensures.ran road (λ x b q k. search (rules, tests))
