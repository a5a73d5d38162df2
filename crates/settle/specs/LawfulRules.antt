-- That a list of rules is lawful has one proof at most, as a fact that a struct keeps.
-- Assumes nothing.
use Rattle.std.specs.Prelude.{ℕ, List, [], ◌∷◌}
use Rattle.std.specs.Coded.{×_prop, Π_prop, →_prop, Unit-prop, le_prop}
use Rattle.rules.specs.Rules.{Rule, Distinct, EachRule, LawfulRule, Lawful}

-- that no field stands twice
distinct_prop : (fields : List ℕ) → IsProp (Distinct fields)
distinct_prop [] = Unit-prop
distinct_prop (f ∷ fs) = ×_prop (→_prop (λ x y. absurd x)) (distinct_prop fs)

-- that a rule is lawful
rule_prop : (n : ℕ) (r : Rule) → IsProp (LawfulRule n r)
rule_prop n r x y i = record {
  names_some = le_prop x.names_some y.names_some i;
  below = Π_prop (λ f. →_prop le_prop) x.below y.below i;
  apart = distinct_prop r.scope x.apart y.apart i;
}

-- that each rule is
each_prop : (n : ℕ) (rules : List Rule) → IsProp (EachRule (LawfulRule n) rules)
each_prop n [] = Unit-prop
each_prop n (r ∷ rs) = ×_prop (rule_prop n r) (each_prop n rs)

-- that the list is
pub lawful_prop : (n : ℕ) (rules : List Rule) → IsProp (Lawful n rules)
lawful_prop n rules x y i = record { few = le_prop x.few y.few i; each = each_prop n rules x.each y.each i }
