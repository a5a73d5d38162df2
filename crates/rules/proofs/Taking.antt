-- What a loop over an iterator that gives the fields fs has taken of them. Assumes nothing.
use Rattle.std.proofs.Common.{◌≡◌, ℕ, Option, Some, None, List, [], ◌∷◌, ◌++◌, sym, ap, subst, ◌∙◌}
use Rattle.std.proofs.iter.Yields.{gives_left}
use Rattle.std.proofs.lemmas.List.{append-nil, append_assoc, map-id}
use Rattle.std.specs.Iterator.{AlwaysYields, Yields}

module _ {S : Type 0} (steps : S → Option ℕ → S → Type 0) (given s t u : S) (same : s ≡ given) (fs xs : List ℕ) (gives : AlwaysYields steps (λ f. f) given fs) (taken : Yields steps s xs t) where
  -- what is left, behind what is taken
  rest : (more : List ℕ) × (fs ≡ xs ++ more) × AlwaysYields steps (λ f. f) t more
  rest =
      let left = gives_left steps (λ f. f) xs fs s t (subst (λ i. AlwaysYields steps (λ f. f) i fs) (sym same) gives) taken in
      (left.0, left.1 ∙ ap (λ ys. ys ++ left.0) (map-id xs), left.2)

  -- a field that is taken comes next, and others may come behind it
  pub taken_next : (f : ℕ) → steps t (Some f) u → (more : List ℕ) × (fs ≡ (xs ++ f ∷ []) ++ more)
  taken_next f step = go rest.0 rest.1 rest.2
    where
      go : (left : List ℕ) → fs ≡ xs ++ left → AlwaysYields steps (λ f. f) t left → (more : List ℕ) × (fs ≡ (xs ++ f ∷ []) ++ more)
      go [] is none = absurd (none f u step)
      go (g ∷ more) is next = (more, is ∙ ap (λ h. xs ++ h ∷ more) (sym (next.1 f u step).0) ∙ sym (append_assoc xs (f ∷ []) more))

  -- where none comes, all are taken
  pub taken_all : steps t None u → xs ≡ fs
  taken_all end = go rest.0 rest.1 rest.2
    where
      go : (left : List ℕ) → fs ≡ xs ++ left → AlwaysYields steps (λ f. f) t left → xs ≡ fs
      go [] is none = sym (is ∙ append-nil xs)
      go (g ∷ more) is next = absurd (next.0 u end)
