-- How many cells the axes of a head select among. Assumes nothing.
use Rattle.std.proofs.Common.{◌≡◌, ℕ, ◌%◌, ◌≤◌, not, ◌||◌, eqb, ltb, leb, List, map, length, take, Some, None, Option, ap, ◌∙◌, subst, ⊎_elim, arith}
use Rattle.std.proofs.lemmas.List.{length-map}
use Rattle.std.proofs.lemmas.Bool.{ne_eqb, le-ltb, lt-ltb, leb-false, and_cases, not_from_false, not_from_true, or_from, or_left, or_right}
use Rattle.tables.specs.Reads.{room, positive}
use Rattle.tables.specs.Views.{IsRoom}
use Rattle.tables.specs.declared.record.Axis.{Axis}
use Rattle.draft.specs.Entries.{bad_head}
use Rattle.draft.specs.Lists.{pairs, pair_count, axis_of, four_axes}
use Rattle.draft.specs.Reading.{IsRoomOf}
use Rattle.draft.proofs.PairLists.{pairs_length, axes_again}

-- the axes that the pairs of a list make
abbrev axes_in : List ℕ → List Axis
axes_in list = map axis_of (pairs list)

pub room_told : (list : List ℕ) (axes : List Axis) (told : Option ℕ) → (length list % 2 ≡ 1 → ⊥) → (pair_count list ≡ 0 → ⊥) → pair_count list ≤ 4
    → axes ≡ four_axes (map axis_of (pairs list)) → IsRoom (take (pair_count list) axes) told → IsRoomOf list told
room_told list axes told whole some few read room-is = go told (subst (λ axes. IsRoom axes told) again room-is)
  where
    again : take (pair_count list) axes ≡ (axes_in list)
    again = ap (take (pair_count list)) read ∙ axes_again (map axis_of (pairs list)) (pair_count list) (length-map (pairs list) axis_of ∙ pairs_length list) few

    -- only the extents and their product are left to be wrong
    rest : bad_head list ≡ (not (positive (axes_in list)) || ltb 1024 (room (axes_in list)))
    rest =
        ap (λ b. b || (eqb (pair_count list) 0 || (ltb 4 (pair_count list) || (not (positive (axes_in list)) || ltb 1024 (room (axes_in list)))))) (ne_eqb (length list % 2) 1 whole)
        ∙ ap (λ b. b || (ltb 4 (pair_count list) || (not (positive (axes_in list)) || ltb 1024 (room (axes_in list))))) (ne_eqb (pair_count list) 0 some)
        ∙ ap (λ b. b || (not (positive (axes_in list)) || ltb 1024 (room (axes_in list)))) (le-ltb 4 (pair_count list) few)

    go : (o : Option ℕ) → IsRoom (axes_in list) o → IsRoomOf list o
    go None bad = rest ∙ ⊎_elim
        (λ e. or_left (not (positive (axes_in list))) (ltb 1024 (room (axes_in list))) (not_from_false (positive (axes_in list)) e))
        (λ e. or_right (not (positive (axes_in list))) (ltb 1024 (room (axes_in list))) (lt-ltb 1024 (room (axes_in list)) (leb-false (room (axes_in list)) 1024 e)))
        (and_cases (positive (axes_in list)) (leb (room (axes_in list)) 1024) bad)
    go (Some n) (ok, is, small) = (rest ∙ or_from (not (positive (axes_in list))) (ltb 1024 (room (axes_in list))) (not_from_true (positive (axes_in list)) ok) (le-ltb 1024 (room (axes_in list)) (omega arith)), is)
