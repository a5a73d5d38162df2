-- Round after round over rows. Assumes nothing.
use Rattle.std.proofs.Common.{◌≡◌, ℕ, zero, suc, ◌+◌, ◌<◌, ◌≤◌, Bool, true, false, ◌⊎◌, List, [], ◌∷◌, refl, ◌∙◌, subst, inl, inr, arith}
use Rattle.std.proofs.lemmas.Bool.{false≢true}
use Rattle.rows.specs.Values.{Values}
use Rattle.rules.specs.Books.{sets}
use Rattle.rules.specs.Rules.{Sets, Rule}
use Rattle.settle.specs.Passes.{Passed, Rounded, Beyond}
use Rattle.settle.specs.Rounds.{Rounds, last, more, SomeEmpty, SameSets, total}
use Rattle.settle.proofs.Rounding.{round_shrinks}
use Rattle.settle.proofs.Totals.{moved_less}

-- what rows read as lies below their span
pub sets_below : {R : Type 0} (values : R → Values) (span : ℕ) → ((r : R) (v : ℕ) → values r v ≡ true → v < span) → (rows : List R) (f v : ℕ) → sets values rows f v ≡ true → v < span
sets_below values span law [] f v e = absurd (false≢true e)
sets_below values span law (r ∷ rs) zero v e = law r v e
sets_below values span law (r ∷ rs) (suc f) v e = sets_below values span law rs f v e

-- the rounds so far, each of which left no row empty and took a value
pub record Going {R : Type 0} (values : R → Values) (span : ℕ) (rules : List Rule) (n rounds : ℕ) (before after : List R) : Type 0 where
  pub onward : (r : ℕ) (S'' : Sets) → Rounds n rules (sets values after) r S'' → Rounds n rules (sets values before) (rounds + r) S''
  pub spent : rounds + total span n (sets values after) ≤ total span n (sets values before)
  pub beyond : Beyond n before after

module _ {R : Type 0} (values : R → Values) (span : ℕ) (rules : List Rule) (n : ℕ) (before : List R) where
  pub going_none : Going values span rules n 0 before before
  going_none = record {
    onward = λ r S'' R. let e : r ≡ 0 + r = omega arith in subst (λ k. Rounds n rules (sets values before) k S'') e R;
    spent = omega arith;
    beyond = λ f d l. refl;
  }

  -- a round that changed a set took a value
  pub passed_less : ((r : R) (v : ℕ) → values r v ≡ true → v < span) → (mid after : List R) → Passed values rules n mid after true → total span n (sets values after) < total span n (sets values mid)
  passed_less law mid after step =
      moved_less span (sets values mid) (sets values after) n (λ f v l. sets_below values span law mid f v) (λ f v l. round_shrinks rules _ _ step.round f v) (step.moved refl)

  pub going_more : ((r : R) (v : ℕ) → values r v ≡ true → v < span) → (rounds : ℕ) (mid after : List R) → Going values span rules n rounds before mid → Passed values rules n mid after true
      → (SomeEmpty n (sets values after) → ⊥) → Going values span rules n (rounds + 1) before after
  going_more law rounds mid after so step alive = record {
    onward = λ r S'' R.
        let e : rounds + suc r ≡ rounds + 1 + r = omega arith in
        subst (λ k. Rounds n rules (sets values before) k S'') e (so.onward (suc r) S'' (more step.round alive (step.moved refl) R));
    spent = omega (arith, so.spent, passed_less law mid after step);
    beyond = λ f d l. step.beyond f d l ∙ so.beyond f d l;
  }

  -- the last round
  pub going_all : (rounds : ℕ) (mid after : List R) (changed : Bool) → (SomeEmpty n (sets values before) → ⊥) → Going values span rules n rounds before mid → Passed values rules n mid after changed
      → SomeEmpty n (sets values after) ⊎ (changed ≡ false) → Rounded values rules n before after (rounds + 1)
  going_all rounds mid after changed alive so step why = record {
    made = inr (alive, so.onward 1 (sets values after) (last step.round (ending why)));
    stays = λ some. absurd (alive some);
    beyond = λ f d l. step.beyond f d l ∙ so.beyond f d l;
  }
    where
      ending : SomeEmpty n (sets values after) ⊎ (changed ≡ false) → SomeEmpty n (sets values after) ⊎ SameSets n (sets values mid) (sets values after)
      ending (inl some) = inl some
      ending (inr e) = inr (step.still e)

  -- no round at all
  pub rounded_at_once : SomeEmpty n (sets values before) → Rounded values rules n before before 0
  rounded_at_once some = record { made = inl (some, refl); stays = λ s. s; beyond = λ f d l. refl }
