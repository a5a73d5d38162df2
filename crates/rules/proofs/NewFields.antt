-- Fields that are new, taken one by one. Assumes nothing.
use Rattle.std.proofs.Common.{◌≡◌, ℕ, ◌<◌, ◌≤◌, Bool, true, false, not, ◌||◌, eqb, ◌⊎◌, List, [], ◌∷◌, ◌++◌, sym, refl, ◌∙◌, subst, inl, inr, arith}
use Rattle.std.proofs.lemmas.List.{append-nil, append_assoc}
use Rattle.std.proofs.lemmas.Bool.{both_ways, false≢true, not-true, not-false, or_parts, or_from, or_right, eq-eqb, ne_eqb}
use Rattle.rules.specs.Rules.{In, LawfulRule}
use Rattle.rules.specs.Seen.{was_seen, New, Notes}
use Rattle.rules.specs.declared.marks.Seen.{Seen}

-- no field at all is new
pub none_new : (n : ℕ) (s : Seen) → New s n []
none_new n s = record { below = λ f h. absurd h; fresh = λ f h. absurd h; apart = tt }

module _ (n f : ℕ) (s s' : Seen) (after : (g : ℕ) → was_seen s' g ≡ (was_seen s g || eqb g f)) (gs : List ℕ) where
  -- a field that is new, then others that are new once it is noted
  pub new_first : f < n → was_seen s f ≡ false → New s' n gs → New s n (f ∷ gs)
  new_first small fresh rest = record {
    below = λ g h. elim h [ inl e ↦ subst (λ u. u < n) (sym e) small | inr k ↦ rest.below g k ];
    fresh = λ g h. elim h [ inl e ↦ subst (λ u. was_seen s u ≡ false) (sym e) fresh | inr k ↦ (or_parts (was_seen s g) (eqb g f) (sym (after g) ∙ rest.fresh g k)).0 ];
    apart = (λ k. both_ways (was_seen s' f) (rest.fresh f k) (after f ∙ or_right (was_seen s f) (eqb f f) (eq-eqb f f refl)), rest.apart);
  }

  -- and back
  pub new_rest : New s n (f ∷ gs) → New s' n gs
  new_rest all = record {
    below = λ g k. all.below g (inr k);
    fresh = λ g k. after g ∙ or_from (was_seen s g) (eqb g f) (all.fresh g (inr k)) (ne_eqb g f (λ e. all.apart.0 (subst (λ u. In u gs) e k)));
    apart = all.apart.1;
  }

-- a field that is too large, or was met before, is not new
pub not_new : (n f : ℕ) (s : Seen) (gs : List ℕ) → (n ≤ f) ⊎ (was_seen s f ≡ true) → New s n (f ∷ gs) → ⊥
not_new n f s gs (inl large) all = omega (arith, all.below f (inl refl))
not_new n f s gs (inr old) all = both_ways (was_seen s f) (all.fresh f (inl refl)) old

-- a scope that begins with x is lawful exactly when it is new to nothing met
pub lawful_like : (n x : ℕ) (gs : List ℕ) (allows : List ℕ → Bool) (s : Seen) → ((f : ℕ) → was_seen s f ≡ false)
    → (New s n (x ∷ gs) → LawfulRule n (record { scope = x ∷ gs; allows = allows })) × (LawfulRule n (record { scope = x ∷ gs; allows = allows }) → New s n (x ∷ gs))
lawful_like n x gs allows s none = (
  λ all. record { names_some = omega arith; below = all.below; apart = all.apart },
  λ lawful. record { below = lawful.below; fresh = λ f _. none f; apart = lawful.apart },
)

-- ---- noting fields one after another

module _ (n : ℕ) where
  -- a field that is too large is refused
  pub large_noted : (f : ℕ) (fs : List ℕ) (s t : Seen) → n ≤ f → Notes (f ∷ fs) n s t false
  large_noted f fs s t large = record {
    refused = λ _ gs all. not_new n f s (fs ++ gs) (inl large) all;
    onward = λ e. absurd (false≢true e);
    back = λ e. absurd (false≢true e);
  }

  -- one that is not is noted, if it is new
  pub one_noted : (f : ℕ) (s t : Seen) (new : Bool) → f < n → new ≡ not (was_seen s f) → ((g : ℕ) → was_seen t g ≡ (was_seen s g || eqb g f)) → Notes (f ∷ []) n s t new
  one_noted f s t new small is after = record {
    refused = λ e gs all. not_new n f s gs (inr (not-false (was_seen s f) (sym is ∙ e))) all;
    onward = λ _ gs all. new_rest n f s t after gs all;
    back = λ e gs rest. new_first n f s t after gs small (not-true (was_seen s f) (sym is ∙ e)) rest;
  }

  -- some fields, then others
  pub then_noted : (fs hs : List ℕ) (a b c : Seen) (answer : Bool) → Notes fs n a b true → Notes hs n b c answer → Notes (fs ++ hs) n a c answer
  then_noted fs hs a b c answer first second = record {
    refused = λ e gs all. second.refused e gs (first.onward refl (hs ++ gs) (subst (New a n) (append_assoc fs hs gs) all));
    onward = λ e gs all. second.onward e gs (first.onward refl (hs ++ gs) (subst (New a n) (append_assoc fs hs gs) all));
    back = λ e gs rest. subst (New a n) (sym (append_assoc fs hs gs)) (first.back refl (hs ++ gs) (second.back e gs rest));
  }

  -- fields that are refused, then others
  pub refused_noted : (fs hs : List ℕ) (a b c : Seen) → Notes fs n a b false → Notes (fs ++ hs) n a c false
  refused_noted fs hs a b c first = record {
    refused = λ _ gs all. first.refused refl (hs ++ gs) (subst (New a n) (append_assoc fs hs gs) all);
    onward = λ e. absurd (false≢true e);
    back = λ e. absurd (false≢true e);
  }

  -- fields that are noted are new, and those that are refused are not
  pub noted_new : (fs : List ℕ) (a b : Seen) → Notes fs n a b true → New a n fs
  noted_new fs a b notes = subst (New a n) (append-nil fs) (notes.back refl [] (none_new n b))

  pub refused_old : (fs : List ℕ) (a b : Seen) → Notes fs n a b false → New a n fs → ⊥
  refused_old fs a b notes all = notes.refused refl [] (subst (New a n) (sym (append-nil fs)) all)
