-- Lists written over another from a place on. Assumes nothing.
use Rattle.std.proofs.Common.{◌≡◌, ℕ, suc, ◌+◌, List, [], ◌∷◌, drop, set, ap, ◌∙◌, ap₂, add-zero, arith}
use Rattle.draft.specs.Memory.{overlay}
use Rattle.draft.proofs.PairSteps.{drop_none}

module _ {A : Type 0} (ys : List A) (at : ℕ) where
  -- nothing is written yet
  pub overlay_start : (xs : List A) → overlay xs (at + 0) (drop 0 ys) ≡ overlay xs at ys
  overlay_start xs = ap₂ (overlay xs) (add-zero at) (drop_none ys)

  -- one element more
  pub overlay_more : (xs : List A) (i : ℕ) (y : A) → drop i ys ≡ y ∷ drop (i + 1) ys → overlay xs (at + i) (drop i ys) ≡ overlay (set xs (at + i) y) (at + (i + 1)) (drop (i + 1) ys)
  overlay_more xs i y next = ap (overlay xs (at + i)) next ∙ ap (λ j. overlay (set xs (at + i) y) j (drop (i + 1) ys)) step
    where
      step : suc (at + i) ≡ at + (i + 1)
      step = omega arith

  -- all is written
  pub overlay_all : (xs : List A) (i : ℕ) → drop i ys ≡ [] → overlay xs (at + i) (drop i ys) ≡ xs
  overlay_all xs i over = ap (overlay xs (at + i)) over
