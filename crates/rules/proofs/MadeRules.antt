-- Rules that are made from a list, and what a book answers of one. Assumes nothing.
use Rattle.std.proofs.Common.{◌≡◌, ℕ, zero, suc, ◌<◌, ◌≤◌, List, [], ◌∷◌, map, length, get_or, Err, refl, subst, arith}
use Rattle.rows.specs.Values.{Values}
use Rattle.rules.specs.Books.{no_rule, rule_at, FitsRule, Narrows}
use Rattle.rules.specs.Rules.{Rule, In, Distinct, EachRule, LawfulRule, Lawful}
use Rattle.rules.specs.declared.fault.NarrowFault.{NarrowFault}
use Rattle.rules.specs.declared.fault.NarrowFault.TheVariants.{Unfit}
use Rattle.rules.proofs.Labels.{each_map}

module _ {X : Type 0} (made : X → Rule) where
  -- the one made from what stands at the place
  pub rule_made : (xs : List X) (k : ℕ) (d : X) → k < length xs → rule_at (map made xs) k ≡ made (get_or xs k d)
  rule_made [] k d h = absurd (omega arith)
  rule_made (x ∷ xs) zero d h = refl
  rule_made (x ∷ xs) (suc k) d h = rule_made xs k d (omega arith)

  -- past the end there is none
  pub rule_past : (xs : List X) (k : ℕ) → length xs ≤ k → rule_at (map made xs) k ≡ no_rule
  rule_past [] k h = refl
  rule_past (x ∷ xs) zero h = absurd (omega arith)
  rule_past (x ∷ xs) (suc k) h = rule_past xs k (omega arith)

-- a rule is lawful by its scope alone
pub lawful_as : (n : ℕ) (r q : Rule) → r.scope ≡ q.scope → LawfulRule n r → LawfulRule n q
lawful_as n r q e lawful = record {
  names_some = subst (λ s. 0 < length s) e lawful.names_some;
  below = subst (λ s. (f : ℕ) → In f s → f < n) e lawful.below;
  apart = subst Distinct e lawful.apart;
}

-- what is lawful for n fields is so for more
pub each_wider : (n m : ℕ) (rules : List Rule) → n ≤ m → EachRule (LawfulRule n) rules → EachRule (LawfulRule m) rules
each_wider n m rules le each =
    each_map (LawfulRule n) (LawfulRule m) (λ r h. record { names_some = h.names_some; below = λ f i. omega (arith, h.below f i); apart = h.apart }) rules each

pub lawful_wider : (n m : ℕ) (rules : List Rule) → n ≤ m → Lawful n rules → Lawful m rules
lawful_wider n m rules le law = record { few = law.few; each = each_wider n m rules le law.each }

-- a refusal is right where the rule does not fit
pub refused_as : {R : Type 0} (values : R → Values) (r : Rule) (k n : ℕ) (rows : List R) (fault : NarrowFault) → (FitsRule r k n (length rows) → ⊥)
    → Narrows values r k n rows rows (Err fault)
refused_as values r k n rows Unfit unfit = record { accepted = λ fits. absurd (unfit fits); refused = λ _. (refl, refl) }
