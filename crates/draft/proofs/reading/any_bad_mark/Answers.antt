use Rattle.std.proofs.Common.{nat_lt, rules, tests}
use Rattle.std.proofs.lemmas.Iterator.Search.{any_from_yields_List}
use Rattle.draft.proofs.Chains.{pairs_given}
use Rattle.draft.proofs.reading.any_bad_mark.Goals as goal

pub returns : goal.returns
returns c = any_from_yields_List (λ p. nat_lt 1 p.0) c.any.new.self _ _ c.any.ensures.ran (pairs_given _) (λ x b q k. search (rules, tests))
