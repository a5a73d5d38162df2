-- One round over rows, rule by rule. Assumes nothing.
use Rattle.std.proofs.Common.{◌≡◌, ℕ, zero, suc, ◌+◌, ◌<◌, ◌≤◌, Bool, true, false, ◌||◌, ◌⊎◌, List, [], ◌∷◌, length, drop, sym, refl, ◌∙◌, inl, inr, ⊎_elim, add-one, arith, drop_of_length-le}
use Rattle.std.proofs.lemmas.Bool.{cases_Bool, false≢true, both_ways, or_cases, or_parts}
use Rattle.std.proofs.lemmas.Bool.Decides.{nat_tests}
use Rattle.rows.specs.Values.{Values}
use Rattle.rules.specs.Books.{sets, rule_at, told_count, Narrowing, FitsRule}
use Rattle.rules.specs.Rules.{Sets, Rule, LawfulRule, Lawful, Narrowed}
use Rattle.rules.proofs.Telling.{place_by_each}
use Rattle.settle.specs.Answers.{FitsBook}
use Rattle.settle.specs.Passes.{Passed, Beyond}
use Rattle.settle.specs.Rounds.{Round}
use Rattle.settle.proofs.Rounding.{in_or_not, narrowed_shrinks}

-- the told count of at most 1,024 rules is the count
pub counted : (rules : List Rule) (count : ℕ) → length rules ≤ 1024 → count ≡ told_count rules → length rules ≡ count
counted rules count few told = grind (arith, nat_tests)

-- every rule of a lawful book can be narrowed
pub lawful_fits : (rules : List Rule) (n rows k : ℕ) → Lawful n rules → n ≤ rows → k < length rules → FitsRule (rule_at rules k) k n rows
lawful_fits rules n rows k law enough l =
    record { reach = omega (arith, law.few); enough = enough; lawful = place_by_each (LawfulRule n) rules law.each k l }

-- every rule of a book that fits can be narrowed
pub fits_at : (rules : List Rule) (n rows count rows' k : ℕ) → FitsBook rules n rows → count ≡ told_count rules → rows' ≡ rows → k < count → FitsRule (rule_at rules k) k n rows'
fits_at rules n rows count rows' k fits told e l =
    let long = counted rules count fits.lawful.few told in
    lawful_fits rules n rows' k fits.lawful (omega (arith, fits.enough)) (omega arith)

-- a rule in front of what is left of the round
round_more : (rules : List Rule) (k : ℕ) (S S' S'' : Sets) → k < length rules → Narrowed (rule_at rules k) S S' → Round (drop (suc k) rules) S' S'' → Round (drop k rules) S S''
round_more [] k S S' S'' l N R = absurd (omega arith)
round_more (r ∷ rs) zero S S' S'' l N R = (S', N, R)
round_more (r ∷ rs) (suc k) S S' S'' l N R = round_more rs k S S' S'' (omega arith) N R

-- some value of the n fields is gone
abbrev Lost : ℕ → Sets → Sets → Type 0
Lost n S S' = (f : ℕ) × (v : ℕ) × (f < n) × (S f v ≡ true) × (S' f v ≡ false)

-- the first k rules of a round
pub record SoFar {R : Type 0} (values : R → Values) (rules : List Rule) (n k : ℕ) (before after : List R) (changed : Bool) : Type 0 where
  pub onward : (S'' : Sets) → Round (drop k rules) (sets values after) S'' → Round rules (sets values before) S''
  pub shrinks : (f v : ℕ) → sets values after f v ≡ true → sets values before f v ≡ true
  pub some : changed ≡ true → Lost n (sets values before) (sets values after)
  pub none : changed ≡ false → (f v : ℕ) → sets values after f v ≡ sets values before f v
  pub beyond : Beyond n before after

-- what one narrowing says of change
module _ {R : Type 0} (values : R → Values) (r : Rule) (n : ℕ) (mid after : List R) (b : Bool) (law : LawfulRule n r) (step : Narrowing values r mid after b) where
  abbrev S : Sets
  S = sets values mid

  abbrev S' : Sets
  S' = sets values after

  lost : b ≡ true → Lost n S S'
  lost e = go (step.answer.0 e)
    where
      go : (f : ℕ) × (v : ℕ) × (S' f v ≡ S f v → ⊥) → Lost n S S'
      go (f, v, differ) =
          ⊎_elim
          (λ i. (f, v, law.below f i, there, gone))
          (λ out. absurd (differ (step.narrowed.others f v out)))
          (in_or_not f r.scope)
        where
          there : S f v ≡ true
          there = ⊎_elim (λ yes-there. yes-there) (λ never. absurd (differ (⊎_elim (λ e. absurd (both_ways (S f v) never (narrowed_shrinks r S S' step.narrowed f v e))) (λ e. e ∙ sym never) (cases_Bool (S' f v))))) (cases_Bool (S f v))

          gone : S' f v ≡ false
          gone = ⊎_elim (λ still. absurd (differ (still ∙ sym there))) (λ e. e) (cases_Bool (S' f v))

  unchanged : b ≡ false → (f v : ℕ) → S' f v ≡ S f v
  unchanged e f v = go (cases_Bool (S f v)) (cases_Bool (S' f v))
    where
      differs : (S' f v ≡ S f v → ⊥) → S' f v ≡ S f v
      differs d = absurd (both_ways b e (step.answer.1 (f, v, d)))

      go : (S f v ≡ true) ⊎ (S f v ≡ false) → (S' f v ≡ true) ⊎ (S' f v ≡ false) → S' f v ≡ S f v
      go (inl p) (inl q) = q ∙ sym p
      go (inl p) (inr q) = differs (λ same. both_ways (S' f v) q (same ∙ p))
      go (inr p) (inl q) = differs (λ same. both_ways (S f v) p (sym same ∙ q))
      go (inr p) (inr q) = q ∙ sym p

module _ {R : Type 0} (values : R → Values) (rules : List Rule) (n : ℕ) (before : List R) where
  pub so_far_none : SoFar values rules n 0 before before false
  so_far_none =
      record { onward = λ S'' R. R; shrinks = λ f v e. e; some = λ e. absurd (false≢true e); none = λ e f v. refl; beyond = λ f d l. refl }

  pub so_far_more : (k : ℕ) (mid after : List R) (changed b : Bool) → k < length rules → LawfulRule n (rule_at rules k) → SoFar values rules n k before mid changed
      → Narrowing values (rule_at rules k) mid after b → SoFar values rules n (k + 1) before after (changed || b)
  so_far_more k mid after changed b l law so step =
      let S : Sets = sets values mid in
      let S' : Sets = sets values after in
      let shrink : (f v : ℕ) → S' f v ≡ true → S f v ≡ true = narrowed_shrinks (rule_at rules k) S S' step.narrowed in
      record {
        onward = λ S'' R. so.onward S'' (round_more rules k S S' S'' l step.narrowed (rw add-one at R));
        shrinks = λ f v e. so.shrinks f v (shrink f v e);
        some = λ e. ⊎_elim
            (λ old.
            let gone = so.some old in
            (gone.0, gone.1, gone.2, gone.3, ⊎_elim (λ there. absurd (both_ways _ gone.4 (shrink _ _ there))) (λ out. out) (cases_Bool (S' gone.0 gone.1))))
            (λ new.
            let gone = lost values (rule_at rules k) n mid after b law step new in
            (gone.0, gone.1, gone.2, so.shrinks _ _ gone.3, gone.4))
            (or_cases changed b e);
        none = λ e f v. let both = or_parts changed b e in unchanged values (rule_at rules k) n mid after b law step both.1 f v ∙ so.none both.0 f v;
        beyond = λ f d out. step.others f d (λ i. let low = law.below f i in omega arith) ∙ so.beyond f d out;
      }

  pub so_far_all : (k : ℕ) (after : List R) (changed : Bool) → length rules ≤ k → SoFar values rules n k before after changed → Passed values rules n before after changed
  so_far_all k after changed done so =
      record {
        round = so.onward (sets values after) (let over : drop k rules ≡ [] = drop_of_length-le rules done in rw over (λ f v. refl));
        moved = λ e same. let gone = so.some e in false≢true (sym gone.4 ∙ same gone.0 gone.1 gone.2 ∙ gone.3);
        still = λ e f v l. so.none e f v;
        beyond = so.beyond;
      }
