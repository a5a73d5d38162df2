-- Lists of pairs of bytes: the axes of a head, cells, the parts of a frame.
-- Assumes nothing.
use Rattle.std.specs.Prelude.{ℕ, ◌/◌, ◌%◌, Bool, true, cond, not, ◌&&◌, List, [], ◌∷◌, ◌++◌, length, take, Some, None, Option, ◌==◌, nat_lt}
use Rattle.std.specs.List.{list_all, list_any}
use Rattle.frames.specs.declared.record.Part.{Part}
use Rattle.rules.specs.Tree.{member}
use Rattle.tables.specs.declared.record.Axis.{Axis}
use Rattle.tables.specs.declared.record.Cell.{Cell}
use Rattle.tables.specs.declared.record.Cell.TheVariants.{Constant, Field}

-- the whole pairs of a list
abbrev pub pairs : List ℕ → List (ℕ × ℕ)
pairs [] = []
pairs (a ∷ []) = []
pairs (a ∷ (b ∷ rest)) = (a, b) ∷ pairs rest

-- how many whole pairs a list has
abbrev pub pair_count : List ℕ → ℕ
pair_count list = length list / 2

-- a byte is left over
abbrev pub odd : List ℕ → Bool
odd list = length list % 2 == 1

-- a pair as an axis: field and extent
abbrev pub axis_of : ℕ × ℕ → Axis
axis_of p = record { field = p.0; extent = p.1 }

-- a pair as a part: field and load
abbrev pub part_of : ℕ × ℕ → Part
part_of p = record { field = p.0; load = p.1 }

-- a pair as a cell: a mark and a number, which is a field where the mark is 1 and a constant otherwise
abbrev pub cell_of : ℕ × ℕ → Cell
cell_of p = cond (p.0 == 1) (Field p.1) (Constant p.1)

-- some pair has a mark above 1
abbrev pub bad_mark : List (ℕ × ℕ) → Bool
bad_mark = list_any (λ p. nat_lt 1 p.0)

-- the field that a pair of an axis or of a part names
abbrev pub first_field : ℕ × ℕ → ℕ
first_field p = p.0

-- the field that a pair of a cell names, if its mark says that it names one
abbrev pub marked_field : ℕ × ℕ → Option ℕ
marked_field p = cond (p.0 == 1) (Some p.1) None

-- every field of the list is below n
abbrev pub all_below : ℕ → List ℕ → Bool
all_below n = list_all (λ f. nat_lt f n)

-- no field stands twice in the list
abbrev pub distinct : List ℕ → Bool
distinct [] = true
distinct (f ∷ fs) = not (member f fs) && distinct fs

-- an axis that is not read
abbrev pub no_axis : Axis
no_axis = record { field = 0; extent = 0 }

-- four axes, of which those of the list are the first
abbrev pub four_axes : List Axis → List Axis
four_axes axes = take 4 (axes ++ (no_axis ∷ (no_axis ∷ (no_axis ∷ (no_axis ∷ [])))))
