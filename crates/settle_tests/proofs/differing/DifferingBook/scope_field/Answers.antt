use Rattle.std.proofs.Common.{◌≡◌, leb, get_or, sym, refl, ap}
use Rattle.std.proofs.lemmas.Bool.{leb-true, cond_both}
use Rattle.rules.specs.Books.{told}
use Rattle.rules.proofs.MadeRules.{rule_past}
use Rattle.settle_tests.specs.Differ.{pair_rule}
use Rattle.settle_tests.proofs.differing.DifferingBook.scope_field.Goals as goal

pub returns-in_default : goal.returns-in_default
returns-in_default g c =
    let k = c.args.k in
    sym (cond_both (leb k 1023) _ 255 (λ x. x ≡ 255)
    (λ near. ap (λ r. told (get_or r.scope c.args.place 255)) (rule_past pair_rule c.args.self.now.pairs.now k (c.in_default.ensures (leb-true k 1023 near))))
    (λ _. refl))
