-- What the memory of a draft holds.
-- Assumes nothing.
use Rattle.std.specs.Prelude.{ℕ, suc, List, [], ◌∷◌, slice_set}
use Rattle.frames.specs.declared.record.Frame.{Frame}
use Rattle.frames.specs.declared.record.Part.{Part}
use Rattle.tables.specs.declared.record.Cell.{Cell}
use Rattle.tables.specs.declared.record.Head.{Head}
use Rattle.draft.specs.declared.memory.Memory.{Memory}
use Rattle.draft.specs.declared.memory.Range.{Range}

-- the lists that stand in the lent memory
pub record Held : Type 0 where
  pub ranges : List Range
  pub heads : List Head
  pub cells : List Cell
  pub frames : List Frame
  pub parts : List Part

abbrev pub held : Memory → Held
held m = record { ranges = m.ranges.now; heads = m.heads.now; cells = m.cells.now; frames = m.frames.now; parts = m.parts.now }

-- xs with the list ys written over it from a place on
abbrev pub overlay : {A : Type 0} → List A → ℕ → List A → List A
overlay xs at [] = xs
overlay xs at (y ∷ ys) = overlay (slice_set xs at y) (suc at) ys
