-- Labels that are gone through field by field. Assumes nothing.
use Rattle.std.proofs.Common.{◌≡◌, ℕ, ◌<◌, ◌≤◌}
use Rattle.rules.specs.declared.marks.Seen.{Seen}
use Rattle.settle.specs.Labels.{label_of, replaced}
use Rattle.settle.specs.declared.labels.Labels.{Labels}

-- of the fields below i the labels that were met are replaced, and the others are as they were
pub record Relabelled (met : Seen) (one : ℕ) (L : ℕ → ℕ) (kept : Labels) (i : ℕ) : Type 0 where
  pub done : (f : ℕ) → f < i → label_of kept f ≡ replaced met one L f
  pub ahead : (f : ℕ) → i ≤ f → label_of kept f ≡ L f
