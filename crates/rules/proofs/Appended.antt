-- The rules of two books, one after the other. Assumes nothing.
use Rattle.std.proofs.Common.{Some, ◌≡◌, ℕ, zero, suc, ◌+◌, ◌<◌, ◌≤◌, min, Bool, cond, ◌&&◌, leb, List, [], ◌∷◌, ◌++◌, length, get_or, Result, sym, refl, ap, ◌∙◌, subst, ap₂, ⊎_elim, suc-add, zero-add, arith, length-append}
use Rattle.std.proofs.lemmas.Bool.{cases_lt, lt-ltb, le-ltb, le-leb}
use Rattle.std.proofs.lemmas.Bool.Decides.{nat_tests}
use Rattle.rows.specs.Values.{Values}
use Rattle.rules.specs.Books.{rule_at, told, told_count, told_size, told_field, Narrows}
use Rattle.rules.specs.Joining.{Placed}
use Rattle.rules.specs.Rules.{Rule}
use Rattle.rules.specs.declared.pair.Place.{Place}
use Rattle.rules.specs.declared.pair.Place.TheVariants.{First, Second}
use Rattle.rules.specs.declared.fault.NarrowFault.{NarrowFault}

rule_first : (qs rs : List Rule) (k : ℕ) → k < length qs → rule_at (qs ++ rs) k ≡ rule_at qs k
rule_first [] rs k h = absurd (omega arith)
rule_first (q ∷ qs) rs zero h = refl
rule_first (q ∷ qs) rs (suc k) h = rule_first qs rs k (omega arith)

rule_second : (qs rs : List Rule) (k : ℕ) → rule_at (qs ++ rs) (length qs + k) ≡ rule_at rs k
rule_second [] rs k = ap (rule_at rs) (zero-add k)
rule_second (q ∷ qs) rs k = ap (rule_at (q ∷ (qs ++ rs))) (suc-add (length qs) k) ∙ rule_second qs rs k

-- the told count of both
pub count_both : (qs rs : List Rule) → min (told_count qs + told_count rs) 1025 ≡ told_count (qs ++ rs)
count_both qs rs = let long = length-append qs rs in grind (arith, nat_tests)

-- the size told of a rule that is there, and past the end
size_at : (qs : List Rule) (k : ℕ) → k < length qs → k ≤ 1023 → told_size qs k ≡ told (length (rule_at qs k).scope)
size_at qs k h l = ap₂ (λ a b. cond (a && b) (told (length (rule_at qs k).scope)) 255) (lt-ltb k (length qs) h) (le-leb k 1023 l)

size_past : (qs : List Rule) (k : ℕ) → length qs ≤ k → told_size qs k ≡ 255
size_past qs k h = ap (λ a. cond (a && leb k 1023) (told (length (rule_at qs k).scope)) 255) (le-ltb k (length qs) h)

module _ (qs rs : List Rule) (k j : ℕ) (p : Place) (placed : Placed qs rs k (Some p)) where
  -- a rule of the first book
  module _ (is : p ≡ First j) where
    at_first : Placed qs rs k (Some (First j))
    at_first = subst (λ q. Placed qs rs k (Some q)) is placed

    pub first_reach : (k ≤ 1023) × (j ≤ 1023)
    first_reach = let at = at_first in (at.0, omega (arith, at.0, at.1))

    pub first_rule : rule_at (qs ++ rs) k ≡ rule_at qs j
    first_rule = let at = at_first in ap (rule_at (qs ++ rs)) (sym at.1) ∙ rule_first qs rs j at.2

    pub first_size : told_size qs j ≡ told_size (qs ++ rs) k
    first_size =
        let at = at_first in
        let long = length-append qs rs in
        size_at qs j at.2 first_reach.1 ∙ ap (λ r. told (length r.scope)) (sym first_rule) ∙ sym (size_at (qs ++ rs) k (omega (arith, long, at.1, at.2)) at.0)

    pub first_field : (place : ℕ) → told_field qs j place ≡ told_field (qs ++ rs) k place
    first_field place =
        let at = at_first in
        ap (λ i. cond (leb i 1023) (told (get_or (rule_at qs j).scope place 255)) 255) at.1
        ∙ ap (λ r. cond (leb k 1023) (told (get_or r.scope place 255)) 255) (sym first_rule)

  -- a rule of the second
  module _ (is : p ≡ Second j) where
    at_second : Placed qs rs k (Some (Second j))
    at_second = subst (λ q. Placed qs rs k (Some q)) is placed

    pub second_reach : (k ≤ 1023) × (j ≤ 1023)
    second_reach = let at = at_second in (at.0, omega (arith, at.0, at.1))

    pub second_rule : rule_at (qs ++ rs) k ≡ rule_at rs j
    second_rule = ap (rule_at (qs ++ rs)) (sym at_second.1) ∙ rule_second qs rs j

    pub second_size : told_size rs j ≡ told_size (qs ++ rs) k
    second_size =
        let at = at_second in
        let long = length-append qs rs in
        ⊎_elim
        (λ within. size_at rs j within second_reach.1 ∙ ap (λ r. told (length r.scope)) (sym second_rule) ∙ sym (size_at (qs ++ rs) k (omega (arith, long, at.1, within)) at.0))
        (λ past. size_past rs j past ∙ sym (size_past (qs ++ rs) k (omega (arith, long, at.1, past))))
        (cases_lt j (length rs))

    pub second_field : (place : ℕ) → told_field rs j place ≡ told_field (qs ++ rs) k place
    second_field place =
        ap (λ b. cond b (told (get_or (rule_at rs j).scope place 255)) 255) (le-leb j 1023 second_reach.1 ∙ sym (le-leb k 1023 second_reach.0))
        ∙ ap (λ r. cond (leb k 1023) (told (get_or r.scope place 255)) 255) (sym second_rule)

-- a rule narrows as well from another place that is in reach
pub moved : {R : Type 0} (values : R → Values) (r r' : Rule) (k k' n : ℕ) (before after : List R) (answer : Result Bool NarrowFault) → k ≤ 1023 → k' ≤ 1023 → r ≡ r'
    → Narrows values r' k' n before after answer → Narrows values r k n before after answer
moved values r r' k k' n before after answer near near' same narrows =
    subst (λ q. Narrows values q k n before after answer) (sym same) (record {
      accepted = λ fits. narrows.accepted (record { reach = near'; enough = fits.enough; lawful = fits.lawful });
      refused = λ unfit. narrows.refused (λ fits. unfit (record { reach = near; enough = fits.enough; lawful = fits.lawful }));
    })
