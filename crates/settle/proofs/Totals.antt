-- How many values sets have, as they shrink. Assumes nothing.
use Rattle.std.proofs.Common.{◌≡◌, ℕ, zero, suc, ◌*◌, ◌<◌, ◌≤◌, true, false, ◌⊎◌, sym, ◌∙◌, subst, inl, inr, ⊎_elim, arith}
use Rattle.std.proofs.lemmas.Bool.{cases_eq, cases_lt, cases_Bool, both_ways}
use Rattle.rows.specs.Values.{Values, without, how_many}
use Rattle.rows.proofs.Counts.{how_many_le, how_many_mono, how_many_without, without_other}
use Rattle.rules.specs.Rules.{Sets, Within}
use Rattle.settle.specs.Rounds.{SameSets, total}

-- a smaller set that lacks a value has fewer
how_many_less : (span : ℕ) (p q : Values) → ((v : ℕ) → q v ≡ true → p v ≡ true) → (w : ℕ) → w < span → p w ≡ true → q w ≡ false → how_many span q < how_many span p
how_many_less span p q shrinks w l there gone =
    let one = how_many_without span p w l there in
    let rest = how_many_mono span (without p w) q (λ v e. ⊎_elim (λ same. absurd (both_ways (q w) gone (subst (λ u. q u ≡ true) same e))) (λ other. without_other p w v other ∙ shrinks v e) (cases_eq v w)) in
    omega arith

module _ (span : ℕ) (S S' : Sets) where
  pub total_mono : (n : ℕ) → Within n S' S → total span n S' ≤ total span n S
  total_mono zero w = omega arith
  total_mono (suc f) w = omega (arith, how_many_mono span (S f) (S' f) (λ v. w f v (omega arith)), total_mono f (λ g v l. w g v (omega arith)))

  total_less : (n f v : ℕ) → Within n S' S → f < n → v < span → S f v ≡ true → S' f v ≡ false → total span n S' < total span n S
  total_less zero f v w l m there gone = omega arith
  total_less (suc g) f v w l m there gone = go (cases_eq f g) (λ low. total_less g f v (λ x y k. w x y (omega arith)) low m there gone)
    where
      shrinks : (u : ℕ) → S' g u ≡ true → S g u ≡ true
      shrinks u = w g u (omega arith)

      go : (f ≡ g) ⊎ (f ≡ g → ⊥) → (f < g → total span g S' < total span g S) → total span (suc g) S' < total span (suc g) S
      go (inl e) k =
          let less = how_many_less span (S g) (S' g) shrinks v m (subst (λ u. S u v ≡ true) e there) (subst (λ u. S' u v ≡ false) e gone) in
          omega (arith, less, total_mono g (λ x y k. w x y (omega arith)))
      go (inr d) k =
          let low : f < g = omega arith in
          omega (arith, how_many_mono span (S g) (S' g) shrinks, k low)

  -- sets that shrink and are not the same have fewer values
  pub moved_less : (n : ℕ) → ((f v : ℕ) → f < n → S f v ≡ true → v < span) → Within n S' S → (SameSets n S S' → ⊥) → total span n S' < total span n S
  moved_less n low w moved = go (cases_lt (total span n S') (total span n S))
    where
      same : total span n S ≤ total span n S' → SameSets n S S'
      same h f v l = at (cases_Bool (S f v)) (cases_Bool (S' f v))
        where
          at : (S f v ≡ true) ⊎ (S f v ≡ false) → (S' f v ≡ true) ⊎ (S' f v ≡ false) → S' f v ≡ S f v
          at (inl a) (inl b) = b ∙ sym a
          at (inl a) (inr b) = absurd (omega (arith, total_less n f v w l (low f v l a) a b))
          at (inr a) (inl b) = absurd (both_ways (S f v) a (w f v l b))
          at (inr a) (inr b) = b ∙ sym a

      go : (total span n S' < total span n S) ⊎ (total span n S ≤ total span n S') → total span n S' < total span n S
      go (inl l) = l
      go (inr h) = absurd (moved (same h))

-- n fields have at most n times the span
pub total_le : (span n : ℕ) (S : Sets) → span ≤ 256 → total span n S ≤ 256 * n
total_le span zero S h = omega arith
total_le span (suc f) S h = omega (arith, how_many_le span (S f), total_le span f S h)
