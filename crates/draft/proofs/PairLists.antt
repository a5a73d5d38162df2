-- Lists of pairs: how many there are, which fields they name, and what they are as axes, parts and cells. Assumes nothing.
use Rattle.std.proofs.Common.{◌≡◌, ℕ, ◌≤◌, Bool, true, false, cond, eqb, List, [], ◌∷◌, ◌++◌, map, length, take, filter_map, Some, None, refl, ap, ◌∙◌, arith, take-take, take_at}
use Rattle.std.specs.List.{cons_option}
use Rattle.tables.specs.Reads.{cell_fields}
use Rattle.tables.specs.declared.record.Axis.{Axis}
use Rattle.tables.specs.declared.record.Cell.TheVariants.{Constant, Field}
use Rattle.draft.specs.Memory.{overlay}
use Rattle.draft.specs.Lists.{pairs, pair_count, axis_of, part_of, cell_of, first_field, marked_field, no_axis, four_axes}

pub pairs_length : (l : List ℕ) → length (pairs l) ≡ pair_count l
pairs_length [] = refl
pairs_length (a ∷ []) = refl
pairs_length (a ∷ (b ∷ rest)) = let before = pairs_length rest in omega arith

-- the fields that pairs name first are those of the axes
pub axis_fields : (ps : List (ℕ × ℕ)) → map first_field ps ≡ map (λ ax. ax.field) (map axis_of ps)
axis_fields [] = refl
axis_fields (p ∷ ps) = ap (λ fs. p.0 ∷ fs) (axis_fields ps)

-- and those of the parts
pub part_fields : (ps : List (ℕ × ℕ)) → map first_field ps ≡ map (λ p. p.field) (map part_of ps)
part_fields [] = refl
part_fields (p ∷ ps) = ap (λ fs. p.0 ∷ fs) (part_fields ps)

-- the fields of cells are those that are named by a mark
pub cell_names : (ps : List (ℕ × ℕ)) → cell_fields (map cell_of ps) ≡ filter_map marked_field ps
cell_names [] = refl
cell_names (p ∷ ps) = go (eqb p.0 1) (cell_names ps)
  where
    go : (b : Bool) → cell_fields (map cell_of ps) ≡ filter_map marked_field ps → cell_fields (cond b (Field p.1) (Constant p.1) ∷ map cell_of ps) ≡ cons_option (cond b (Some p.1) None) (filter_map marked_field ps)
    go true rest = ap (λ fs. p.1 ∷ fs) rest
    go false rest = rest

-- up to four axes are read again
pub axes_again : (axes : List Axis) (count : ℕ) → length axes ≡ count → count ≤ 4 → take count (four_axes axes) ≡ axes
axes_again axes count long few =
    let rest = no_axis ∷ (no_axis ∷ (no_axis ∷ (no_axis ∷ []))) in
    take-take count 4 (axes ++ rest) few ∙ take_at axes rest count long

-- up to four axes that are written over none
pub axes_written : (axes : List Axis) → length axes ≤ 4 → overlay (no_axis ∷ (no_axis ∷ (no_axis ∷ (no_axis ∷ [])))) 0 axes ≡ four_axes axes
axes_written [] few = refl
axes_written (a ∷ []) few = refl
axes_written (a ∷ (b ∷ [])) few = refl
axes_written (a ∷ (b ∷ (c ∷ []))) few = refl
axes_written (a ∷ (b ∷ (c ∷ (d ∷ [])))) few = refl
axes_written (a ∷ (b ∷ (c ∷ (d ∷ (e ∷ rest))))) few = absurd (omega arith)
