-- Which values of a set have another beside them, by the size of the other set. Assumes nothing.
use Rattle.std.proofs.Common.{◌≡◌, ℕ, ◌<◌, true, false, not, eqb, ◌⊎◌, sym, ap, ◌∙◌, subst, inl, inr, arith}
use Rattle.std.proofs.lemmas.Bool.{cases_Bool, cases_eq, both_ways, not-true, not_from_false, eqb-false, and_parts, and_from}
use Rattle.rows.specs.Values.{Values, Same, Empty, less, without, how_many}
use Rattle.rows.proofs.Counts.{some_or_none, how_many_none, how_many_some, how_many_without, without_other}
use Rattle.settle_tests.specs.Differ.{Stays, Beside}

-- equal sets leave the same
pub beside_moved : (p p' q q' r : Values) → Same p' p → Same q' q → Beside p q r → Beside p' q' r
beside_moved p p' q q' r same same' left v = (
  λ e. let stays = (left v).0 e in (same v ∙ stays.0, (stays.1.0, same' stays.1.0 ∙ stays.1.1, stays.1.2)),
  λ stays. (left v).1 (sym (same v) ∙ stays.0, (stays.1.0, sym (same' stays.1.0) ∙ stays.1.1, stays.1.2)),
)

module _ (span : ℕ) (p q r : Values) (inside : (v : ℕ) → q v ≡ true → v < span) where
  -- where q has no value, nothing stays
  pub beside_none : how_many span q ≡ 0 → Empty r → Beside p q r
  beside_none none empty v = (
    λ e. absurd (both_ways (r v) (empty v) e),
    λ stays. absurd (omega (arith, how_many_some span q stays.1.0 (inside _ stays.1.1) stays.1.1)),
  )

  -- where it has one, all others stay
  pub beside_one : how_many span q ≡ 1 → Same r (less p q) → Beside p q r
  beside_one one same v = (
    λ e. found (and_parts (p v) (not (q v)) (sym (same v) ∙ e)) (some_or_none span q),
    λ stays. same v ∙ and_from (p v) (not (q v)) stays.0 (not_from_false (q v) (gone stays (cases_Bool (q v)))),
  )
    where
      found : (p v ≡ true) × (not (q v) ≡ true) → ((w : ℕ) × (w < span) × (q w ≡ true)) ⊎ ((w : ℕ) → w < span → q w ≡ false) → Stays p q v
      found both (inl some) = (both.0, (some.0, some.2, λ e. both_ways (q v) (not-true (q v) both.1) (subst (λ u. q u ≡ true) (sym e) some.2)))
      found both (inr none) = absurd (omega (arith, how_many_none span q none))

      gone : Stays p q v → (q v ≡ true) ⊎ (q v ≡ false) → q v ≡ false
      gone stays (inr e) = e
      gone stays (inl e) =
          let w = stays.1.0 in
          let has : without q v w ≡ true = without_other q v w (λ same_w. stays.1.2 (sym same_w)) ∙ stays.1.1 in
          absurd (omega (arith, how_many_without span q v (inside v e) e, how_many_some span (without q v) w (inside w stays.1.1) has))

  -- where it has more, all stay
  pub beside_more : (how_many span q ≡ 0 → ⊥) → (how_many span q ≡ 1 → ⊥) → Beside p q p
  beside_more some more v = (λ e. (e, found (some_or_none span (without q v)) (some_or_none span q)), λ stays. stays.0)
    where
      found : ((w : ℕ) × (w < span) × (without q v w ≡ true)) ⊎ ((w : ℕ) → w < span → without q v w ≡ false)
          → ((w : ℕ) × (w < span) × (q w ≡ true)) ⊎ ((w : ℕ) → w < span → q w ≡ false) → (w : ℕ) × (q w ≡ true) × (v ≡ w → ⊥)
      found (inl other) _ =
          let both = and_parts (q other.0) (not (eqb other.0 v)) other.2 in
          (other.0, both.0, λ e. eqb-false other.0 v (not-true _ both.1) (sym e))
      found (inr none) (inr empty) = absurd (some (how_many_none span q empty))
      found (inr none) (inl (w, low, has)) = elim (cases_eq w v) [
        | inl e ↦ absurd (more (omega (arith, how_many_without span q w low has, ap (λ u. how_many span (without q u)) e, how_many_none span (without q v) none)))
        | inr ne ↦ absurd (both_ways (without q v w) (none w low) (without_other q v w ne ∙ has))
      ]
