-- What settling leaves is the largest standing choice, and without a ring the values of full settings. Assumes nothing.
use Rattle.std.proofs.Common.{◌≡◌, ℕ, zero, suc, ◌+◌, ◌<◌, ◌≤◌, true, eqb, ◌⊎◌, List, [], ◌∷◌, sym, refl, subst, inl, inr, arith}
use Rattle.std.proofs.lemmas.Bool.{eqb-true, eq-eqb, both_ways}
use Rattle.rules.specs.Rings.{Ring}
use Rattle.rules.specs.Rules.{Sets, Rule, Lawful, Allowed, StandsBy, Setting, Inside, Standing, Within}
use Rattle.rules.proofs.Extend.{ringless_extends}
use Rattle.rules.proofs.Labels.{each_map}
use Rattle.rules.proofs.Lists.{some_in}
use Rattle.settle.specs.Leaves.{ChoiceIn, SettingIn, SettingWith, Largest, Exactly}
use Rattle.settle.specs.Rounds.{SomeEmpty, AllEmpty, Settling, at_once, emptied, ringed, ringless, total, struck}
use Rattle.settle.specs.declared.outcome.Grade.{Grade}
use Rattle.settle.specs.declared.outcome.Grade.TheVariants.{Exact, Nothing}
use Rattle.settle.proofs.Rounding.{Below, rounds_shrink, rounds_keep, rounds_stand, rounds_few, some_values}
use Rattle.settle.proofs.Totals.{total_mono}

-- nothing is left, and no standing choice lay inside; or what is left stands
abbrev pub Ending : ℕ → List Rule → Sets → Sets → Grade → Type 0
Ending n rules B S g = ((g ≡ Nothing) × AllEmpty n S × (ChoiceIn n rules B → ⊥)) ⊎ ((g ≡ Nothing → ⊥) × Standing n rules S)

-- what every settling of B leaves
pub record Leaves (span n : ℕ) (rules : List Rule) (B S : Sets) (g : Grade) (r : ℕ) : Type 0 where
  pub shrinks : Within n S B
  pub contains : (C : Sets) → Standing n rules C → Within n C B → Within n C S
  pub ending : Ending n rules B S g
  pub exact : (Ring rules → ⊥) → (g ≡ Nothing → ⊥) → g ≡ Exact
  pub few : r + total span n S ≤ 1 + total span n B

empty_within : (n : ℕ) (S B : Sets) → AllEmpty n S → Within n S B
empty_within n S B none f v l e = absurd (both_ways (S f v) (none f v l) e)

no_choice : (n : ℕ) (rules : List Rule) (S : Sets) → SomeEmpty n S → ChoiceIn n rules S → ⊥
no_choice n rules S (f, l, none) (C, st, w) = let t = st.some_value f l in both_ways (S f t.0) (none t.0) (w f t.0 l t.1)

pub leaves : {span n : ℕ} {rules : List Rule} {B S : Sets} {g : Grade} {r : ℕ} → Lawful n rules → Below span n B → Settling n rules B g r S → Leaves span n rules B S g r
leaves {span} {n} {rules} {B} law low (at_once {S'' = S} some none) = record {
  shrinks = empty_within n S B none;
  contains = λ C st w. absurd (no_choice n rules B some (C, st, w));
  ending = inl (refl, none, no_choice n rules B some);
  exact = λ k d. absurd (d refl);
  few = omega (arith, total_mono span B S n (empty_within n S B none));
}
leaves {span} {n} {rules} {B} law low (emptied {r = r} {S' = S'} {S'' = S} alive R some none) =
    let inside : Within n S S' = empty_within n S S' none in
    let gone : ChoiceIn n rules B → ⊥ = λ c. no_choice n rules S' some (c.0, c.1, rounds_keep law.each c.0 c.1 R c.2) in
    record {
      shrinks = empty_within n S B none;
      contains = λ C st w. absurd (gone (C, st, w));
      ending = inl (refl, none, gone);
      exact = λ k d. absurd (d refl);
      few = omega (arith, total_mono span S' S n inside, rounds_few low R);
    }
leaves {span} {n} {rules} {B} law low (ringed {r = r} {S' = S} alive R full ring) =
    let shrinks : Within n S B = rounds_shrink R in
    record {
      shrinks = shrinks;
      contains = λ C st w. rounds_keep law.each C st R w;
      ending = inr (λ e. cc, record { some_value = some_values span n S (λ f v l e. low f v l (shrinks f v l e)) full; supported = rounds_stand law.each R full });
      exact = λ k d. absurd (k ring);
      few = rounds_few low R;
    }
leaves {span} {n} {rules} {B} law low (ringless {r = r} {S' = S} alive R full no-ring) =
    let shrinks : Within n S B = rounds_shrink R in
    record {
      shrinks = shrinks;
      contains = λ C st w. rounds_keep law.each C st R w;
      ending = inr (λ e. cc, record { some_value = some_values span n S (λ f v l e. low f v l (shrinks f v l e)) full; supported = rounds_stand law.each R full });
      exact = λ k d. refl;
      few = rounds_few low R;
    }

-- a full setting as a choice of one value for each field
abbrev alone : (ℕ → ℕ) → Sets
alone a f v = eqb v (a f)

alone_stands : (n : ℕ) (rules : List Rule) (a : ℕ → ℕ) → Setting rules a → Standing n rules (alone a)
alone_stands n rules a s = record {
  some_value = λ f l. (a f, eq-eqb (a f) (a f) refl);
  supported = each_map (λ r. Allowed r a) (StandsBy (alone a)) (λ r h f v i e. record { line = a; gives = sym (eqb-true v (a f) e); inside = λ g j. eq-eqb (a g) (a g) refl; allowed = h }) rules s;
}

alone_within : (n : ℕ) (T : Sets) (a : ℕ → ℕ) → Inside n T a → Within n (alone a) T
alone_within n T a i f v l e = subst (λ u. T f u ≡ true) (sym (eqb-true v (a f) e)) (i f l)

-- with no field there is no lawful rule, and so a full setting
no_field_setting : (rules : List Rule) (T : Sets) → Lawful 0 rules → SettingIn 0 rules T
no_field_setting [] T law = (λ f. 0, tt, λ f l. absurd (omega arith))
no_field_setting (r ∷ rs) T law =
    let g = some_in r.scope law.each.0.names_some in
    absurd (let l = law.each.0.below g.0 g.1 in omega arith)

-- B are open sets that lie inside T and hold every standing choice that does
module _ (span n : ℕ) (rules : List Rule) (T B S : Sets) (g : Grade) (r : ℕ) (law : Lawful n rules) (inside : Within n B T) (holds : (C : Sets) → Standing n rules C → Within n C T → Within n C B) (left : Leaves span n rules B S g r) where
  in_site : Within n S T
  in_site f v l e = inside f v l (left.shrinks f v l e)

  all_inside : (C : Sets) → Standing n rules C → Within n C T → Within n C S
  all_inside C st w = left.contains C st (holds C st w)

  pub left_largest : Largest n rules T S g
  left_largest = go left.ending
    where
      go : Ending n rules B S g → Largest n rules T S g
      go (inl (is, empty, no-choice-in)) =
          let none : ChoiceIn n rules T → ⊥ = λ c. no-choice-in (c.0, c.1, holds c.0 c.1 c.2) in
          record { contains = all_inside; stands = λ c. absurd (none c); none = (λ _. none, λ _. is); empty = λ _. empty }
      go (inr (some, st)) =
          record { contains = all_inside; stands = λ c. (st, in_site); none = (λ e. absurd (some e), λ k. absurd (k (S, st, in_site))); empty = λ e. absurd (some e) }

  pub left_exactly : (Ring rules → ⊥) → Exactly n rules T S g
  left_exactly no-ring = go left.ending
    where
      kept : (f v : ℕ) → f < n → SettingWith n rules T f v → S f v ≡ true
      kept f v l (a, s, i, e) = all_inside (alone a) (alone_stands n rules a s) (alone_within n T a i) f v l (eq-eqb v (a f) (sym e))

      -- a standing choice of any number of fields holds a full setting
      some_setting : (m : ℕ) → Lawful m rules → Standing m rules S → Within m S T → SettingIn m rules T
      some_setting zero lawful st w = no_field_setting rules T lawful
      some_setting (suc m) lawful st w =
          let first = st.some_value 0 (omega arith) in
          let x = ringless_extends (suc m) rules S lawful no-ring st 0 first.0 (omega arith) first.1 in
          (x.0, x.2, λ h l. w h (x.0 h) l (x.3 h l))

      go : Ending n rules B S g → Exactly n rules T S g
      go (inl (is, empty, no-choice-in)) =
          let none : SettingIn n rules T → ⊥ = λ t. no-choice-in (alone t.0, alone_stands n rules t.0 t.1, holds (alone t.0) (alone_stands n rules t.0 t.1) (alone_within n T t.0 t.2)) in
          record {
            values = λ f v l. (λ e. absurd (both_ways (S f v) (empty f v l) e), kept f v l);
            none = (λ _. none, λ _. is);
            otherwise = left.exact no-ring;
          }
      go (inr (some, st)) = record {
        values = λ f v l. (λ e. let x = ringless_extends n rules S law no-ring st f v l e in (x.0, x.2, λ h m. in_site h (x.0 h) m (x.3 h m), x.1), kept f v l);
        none = (λ e. absurd (some e), λ no-setting. absurd (no-setting (some_setting n law st in_site)));
        otherwise = left.exact no-ring;
      }

  pub left_few : r ≤ struck span n B S + 1
  left_few = omega (arith, left.few)
