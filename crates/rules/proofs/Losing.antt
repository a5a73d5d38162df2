-- Whether a field loses a value when its row is replaced. Assumes nothing.
use Rattle.std.proofs.Common.{◌≡◌, ℕ, ◌<◌, ◌≤◌, Bool, true, false, not, ◌&&◌, ◌⊎◌, List, length, Decides, sym, ◌∙◌, inl, inr, ⊎_elim}
use Rattle.std.proofs.lemmas.Bool.{cases_Bool, both_ways, false≢true, not-true, not_from_false, and_parts, and_from}
use Rattle.rows.specs.Values.{Values, Empty}
use Rattle.rows.proofs.Counts.{some_or_none}
use Rattle.rules.specs.Books.{sets, Loses}
use Rattle.rules.proofs.RowSets.{sets_past}

-- the values lost are the old ones that the new row lacks
pub loses : {R : Type 0} (values : R → Values) (rows : List R) (f span : ℕ) (new lost : Values) (empty : Bool) → ((v : ℕ) → lost v ≡ true → v < span)
    → ((v : ℕ) → lost v ≡ (sets values rows f v && not (new v))) → Decides empty (Empty lost) → Decides (not empty) (Loses values rows f new)
loses values rows f span new lost empty inside same decides = (
  λ some. found (not-true empty some) (some_or_none span lost),
  λ gone. not_from_false empty (⊎_elim
      (λ none. absurd (both_ways (lost gone.0) (decides.0 none gone.0) (same gone.0 ∙ and_from (sets values rows f gone.0) (not (new gone.0)) gone.1 (not_from_false (new gone.0) gone.2))))
      (λ some. some)
      (cases_Bool empty)),
)
  where
    found : empty ≡ false → ((v : ℕ) × (v < span) × (lost v ≡ true)) ⊎ ((v : ℕ) → v < span → lost v ≡ false) → Loses values rows f new
    found e (inl there) =
        let parts = and_parts (sets values rows f there.0) (not (new there.0)) (sym (same there.0) ∙ there.2) in
        (there.0, parts.0, not-true (new there.0) parts.1)
    found e (inr none) =
        absurd (both_ways empty e (decides.1 (λ v. ⊎_elim (λ here. absurd (both_ways (lost v) (none v (inside v here)) here)) (λ gone. gone) (cases_Bool (lost v)))))

-- a field without a row has nothing to lose
pub loses_nothing : {R : Type 0} (values : R → Values) (rows : List R) (f : ℕ) (new : Values) → length rows ≤ f → Decides false (Loses values rows f new)
loses_nothing values rows f new past = (
  λ e. absurd (false≢true e),
  λ gone. absurd (both_ways (sets values rows f gone.0) (sets_past values rows f past gone.0) gone.1),
)
