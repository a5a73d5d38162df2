-- Noting the fields of a scope one by one tells whether they lie below n, none twice. Assumes nothing.
use Rattle.std.proofs.Common.{◌≡◌, ℕ, zero, suc, ◌+◌, ◌<◌, ◌≤◌, true, false, ◌||◌, eqb, ◌⊎◌, List, [], ◌∷◌, length, get_or, take, Decides, sym, ◌∙◌, subst, inl, inr, ⊎_elim, add-one, arith, take_all}
use Rattle.std.proofs.lemmas.Bool.{both_ways, or_cases, or_left, or_right, eqb-true, eq-eqb}
use Rattle.rules.specs.Rules.{In, Distinct}
use Rattle.rules.specs.Seen.{was_seen}
use Rattle.rules.specs.declared.marks.Seen.{Seen}
use Rattle.rules.proofs.Fields.{in_at, front_more, front_old, front_new, front_apart}

-- the first i fields of the scope are noted; they lie below n, none twice
pub record Noted (seen : Seen) (scope : List ℕ) (n i : ℕ) : Type 0 where
  pub same : (f : ℕ) → Decides (was_seen seen f) (In f (take i scope))
  pub below : (f : ℕ) → In f (take i scope) → f < n
  pub apart : Distinct (take i scope)

distinct_suc : (xs : List ℕ) (i d : ℕ) → i < length xs → Distinct (take i xs) → (In (get_or xs i d) (take i xs) → ⊥) → Distinct (take (suc i) xs)
distinct_suc [] i d h apart fresh = absurd (omega arith)
distinct_suc (x ∷ xs) zero d h apart fresh = (λ k. k, tt)
distinct_suc (x ∷ xs) (suc i) d h apart fresh = (
  λ k. ⊎_elim apart.0 (λ e. fresh (inl (sym e))) (front_more xs i d x (omega arith) (subst (λ m. In x (take m xs)) (sym (add-one i)) k)),
  distinct_suc xs i d (omega arith) apart.1 (λ k. fresh (inr k)),
)

module _ (scope : List ℕ) (n : ℕ) where
  -- nothing is noted yet
  pub none_noted : (seen : Seen) → ((f : ℕ) → was_seen seen f ≡ false) → Noted seen scope n 0
  none_noted seen clear = record {
    same = λ f. (λ e. absurd (both_ways (was_seen seen f) (clear f) e), λ h. absurd (nothing scope f h));
    below = λ f h. absurd (nothing scope f h);
    apart = front_none scope;
  }
    where
      nothing : (xs : List ℕ) (f : ℕ) → In f (take 0 xs) → ⊥
      nothing [] f h = h
      nothing (x ∷ xs) f h = h

      front_none : (xs : List ℕ) → Distinct (take 0 xs)
      front_none [] = tt
      front_none (x ∷ xs) = tt

  -- one field more, which is new and below n
  pub more_noted : (seen seen' : Seen) (i d : ℕ) → i < length scope → Noted seen scope n i → get_or scope i d < n → was_seen seen (get_or scope i d) ≡ false
      → ((f : ℕ) → was_seen seen' f ≡ (was_seen seen f || eqb f (get_or scope i d))) → Noted seen' scope n (i + 1)
  more_noted seen seen' i d within noted small new after = record {
    same = λ f. (
      λ e. ⊎_elim
          (λ old. front_old scope i f ((noted.same f).0 old))
          (λ here. subst (λ g. In g (take (i + 1) scope)) (sym (eqb-true f (get_or scope i d) here)) (front_new scope i d within))
          (or_cases (was_seen seen f) (eqb f (get_or scope i d)) (sym (after f) ∙ e)),
      λ h. after f ∙ ⊎_elim
          (λ old. or_left (was_seen seen f) (eqb f (get_or scope i d)) ((noted.same f).1 old))
          (λ here. or_right (was_seen seen f) (eqb f (get_or scope i d)) (eq-eqb f (get_or scope i d) here))
          (front_more scope i d f within h),
    );
    below = λ f h. ⊎_elim (noted.below f) (λ e. subst (λ g. g < n) (sym e) small) (front_more scope i d f within h);
    apart = subst (λ m. Distinct (take m scope)) (sym (add-one i))
        (distinct_suc scope i d within noted.apart (λ h. both_ways (was_seen seen (get_or scope i d)) new ((noted.same (get_or scope i d)).1 h)));
  }

  -- all fields are noted
  pub all_noted : (seen : Seen) (i : ℕ) → length scope ≤ i → Noted seen scope n i → ((f : ℕ) → In f scope → f < n) × Distinct scope
  all_noted seen i whole noted =
      let all = take_all i scope whole in
      (λ f h. noted.below f (subst (In f) (sym all) h), subst Distinct all noted.apart)

  -- a field that is too large, or was noted before, breaks the scope
  pub not_noted : (seen : Seen) (i d : ℕ) → i < length scope → Noted seen scope n i → (n ≤ get_or scope i d) ⊎ (was_seen seen (get_or scope i d) ≡ true)
      → ((f : ℕ) → In f scope → f < n) → Distinct scope → ⊥
  not_noted seen i d within noted (inl large) below apart = omega (arith, below (get_or scope i d) (in_at scope i d within))
  not_noted seen i d within noted (inr old) below apart = front_apart scope i d within apart ((noted.same (get_or scope i d)).0 old)
