use Rattle.std.proofs.Common.{sym, ◌∙◌, rules}
use borrow.Author.Tests.{tests}
use Rattle.tables.proofs.Finding.{first_found, last_gives, one_less}
use Rattle.tables.proofs.scope.ScopeIterator.next.Goals as goal

pub returns-clause-steps : goal.returns-clause-steps
returns-clause-steps c =
    last_gives c.args.self.now (record { x = c.take.new.self; axes = c.next.new.self; cells = c.find_map.new.self }) c.find_map.result (sym c.take.ensures.value ∙ c.in_default.is) c.take.ensures.after c.in_default-next.ensures.steps.0 c.in_default-next.ensures.steps.1
    (first_found _ _ (λ x r q k. search (rules, tests)) c.args.self.now.cells c.find_map.new.self c.find_map.result _ c.find_map.ensures.ran c.find_map.ensures.runs)

pub returns-clause-goes : goal.returns-clause-goes
returns-clause-goes c = one_less c.args.self.now (record { x = c.take.new.self; axes = c.next.new.self; cells = c.find_map.new.self }) c.find_map.result (returns-clause-steps c)
