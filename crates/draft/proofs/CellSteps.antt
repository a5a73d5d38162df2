-- The fields of cells, gone through cell by cell. Assumes nothing.
use Rattle.std.proofs.Common.{◌≡◌, ℕ, ◌+◌, ◌-◌, ◌<◌, ◌≤◌, min, ◌⊎◌, List, ◌∷◌, length, get_or, take, drop, sym, refl, ap, ◌∙◌, inl, inr, arith}
use Rattle.std.proofs.lemmas.List.{drop_more}
use Rattle.std.proofs.lemmas.Bool.{cases_lt}
use Rattle.tables.specs.Reads.{cell_fields}
use Rattle.tables.specs.declared.record.Cell.{Cell}
use Rattle.tables.specs.declared.record.Cell.TheVariants.{Constant, Field}

module _ (cells : List Cell) (i : ℕ) (within : i < length cells) where
  pub field_next : (f : ℕ) → get_or cells i (Constant 0) ≡ Field f → cell_fields (drop i cells) ≡ f ∷ cell_fields (drop (i + 1) cells)
  field_next f is = ap cell_fields (drop_more cells i (Constant 0) within) ∙ ap (λ c. cell_fields (c ∷ drop (i + 1) cells)) is

  pub constant_next : ((f : ℕ) → get_or cells i (Constant 0) ≡ Field f → ⊥) → cell_fields (drop i cells) ≡ cell_fields (drop (i + 1) cells)
  constant_next no_field = ap cell_fields (drop_more cells i (Constant 0) within) ∙ go (get_or cells i (Constant 0)) no_field
    where
      go : (c : Cell) → ((f : ℕ) → c ≡ Field f → ⊥) → cell_fields (c ∷ drop (i + 1) cells) ≡ cell_fields (drop (i + 1) cells)
      go (Constant k) other = refl
      go (Field f) other = absurd (other f refl)

-- a part that is cut off at its start where it would begin past its end
pub between : {A : Type 0} (first next : ℕ) (xs : List A) → take (next - min first next) (drop (min first next) xs) ≡ take (next - first) (drop first xs)
between first next xs = go (cases_lt next first)
  where
    go : (next < first) ⊎ (first ≤ next) → take (next - min first next) (drop (min first next) xs) ≡ take (next - first) (drop first xs)
    go (inl far) =
        let none : next - min first next ≡ 0 = omega arith in
        let nothing : next - first ≡ 0 = omega arith in
        ap (λ k. take k (drop (min first next) xs)) none ∙ sym (ap (λ k. take k (drop first xs)) nothing)
    go (inr near) = let same : min first next ≡ first = omega arith in ap (λ k. take (next - k) (drop k xs)) same
