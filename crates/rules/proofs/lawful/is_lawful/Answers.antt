use Rattle.std.proofs.Common.{◌≡◌, ℕ, ◌<◌, ◌≤◌, Bool, true, false, Decides, List, length, get_or, rules, tests, refl, subst, arith}
use Rattle.std.proofs.lemmas.Bool.{false≢true}
use Rattle.std.proofs.lemmas.Iterator.{YieldsList-from_range, cases_from_all}
use Rattle.std.proofs.lemmas.List.FromFn.{length-range_with_len, get_or-range_with_len}
use Rattle.std.specs.Bool.{MatchBool}
use Rattle.std.specs.List.{range_with_len, AllWithin, HoldsAt}
use Rattle.rules.specs.Books.{rule_at}
use Rattle.rules.specs.Rules.{Rule, Lawful, LawfulRule}
use Rattle.rules.proofs.Telling.{whole_count, each_by_place, place_by_each}
use Rattle.rules.proofs.lawful.is_lawful.Goals as goal

-- each told rule is lawful, or one is not
module _ (n : ℕ) (rules : List Rule) (count : ℕ) (long : length rules ≡ count) where
  abbrev places : List ℕ
  places = range_with_len 0 count

  whole : (answer : Bool) → n ≤ 254 → count ≤ 1024
      → MatchBool answer (AllWithin (λ k. LawfulRule n (rule_at rules k)) places 0 (length places)) ((k : ℕ) × (k < length places) × HoldsAt (λ k. LawfulRule n (rule_at rules k) → ⊥) places k)
      → Decides answer ((n ≤ 254) × Lawful n rules)
  whole true small few all = (
    λ _. (
      small,
      record {
        few = omega (arith, long);
        each = each_by_place (LawfulRule n) rules (λ k h.
            subst (λ j. LawfulRule n (rule_at rules j)) (omega (arith, get_or-range_with_len 0 count k 0 (omega (arith, long))))
            (all k 0 (omega arith) (omega (arith, long, length-range_with_len 0 count))));
      },
    ),
    λ _. refl,
  )
  whole false small few one = (
    λ e. absurd (false≢true e),
    λ lawful. absurd (one.2 0 (place_by_each (LawfulRule n) rules lawful.1.each (get_or places one.0 0)
        (omega (arith, long, one.1, length-range_with_len 0 count, get_or-range_with_len 0 count one.0 0 (omega (arith, one.1, length-range_with_len 0 count)))))),
  )

pub returns-then-count-le1024 : goal.returns-then-count-le1024
returns-then-count-le1024 g c =
    let book = g.B.Book.rules c.args.book.now in
    let count = c.rule_count-count.result in
    whole c.args.n book count (whole_count book count c.rule_count-count.ensures c.if-count-le1024.true.1) c.all.result c.if-count-le1024.true.0 c.if-count-le1024.true.1
    (cases_from_all _ _ _ (λ k. LawfulRule c.args.n (rule_at book k)) (λ k. LawfulRule c.args.n (rule_at book k) → ⊥) c.all.ensures.ran
    (YieldsList-from_range 0 count count (cc) (omega arith)) (λ x q k. search (rules, tests)) (λ x q k. search (rules, tests)))
