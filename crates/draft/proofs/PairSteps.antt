-- Lists of pairs, gone through pair by pair. Assumes nothing.
use Rattle.std.proofs.Common.{◌≡◌, ℕ, zero, suc, ◌+◌, ◌*◌, ◌<◌, ◌≤◌, false, ◌&&◌, List, [], ◌∷◌, ◌++◌, map, length, get_or, take, drop, set, filter_map, Some, None, Option, sym, refl, ap, ◌∙◌, subst, ap₂, add-one, arith}
use Rattle.std.proofs.lemmas.List.{length-map, length-take-le, drop-map, drop_more, get_or-map, take_more, take_all}
use Rattle.std.proofs.lemmas.Bool.{lt-ltb, le-ltb}
use Rattle.std.specs.List.{cons_option}
use Rattle.tables.specs.declared.record.Axis.{Axis}
use Rattle.draft.specs.Lists.{pairs, pair_count, axis_of, all_below, four_axes, no_axis}
use Rattle.draft.proofs.PairLists.{pairs_length}

-- pair i, by its two bytes
abbrev pub pair_at : List ℕ → ℕ → ℕ × ℕ
pair_at l i = (get_or l (2 * i) 0, get_or l (2 * i + 1) 0)

pub drop_none : {A : Type 0} (xs : List A) → drop 0 xs ≡ xs
drop_none [] = refl
drop_none (x ∷ xs) = refl

drop_nothing : {A : Type 0} (i : ℕ) → drop {A = A} i [] ≡ []
drop_nothing zero = refl
drop_nothing (suc i) = refl

from_suc : (l : List ℕ) (i : ℕ) → i < pair_count l → drop i (pairs l) ≡ pair_at l i ∷ drop (suc i) (pairs l)
from_suc [] i h = absurd (omega arith)
from_suc (a ∷ []) i h = absurd (omega arith)
from_suc (a ∷ (b ∷ rest)) zero h = ap (λ ps. (a, b) ∷ ps) (sym (drop_none (pairs rest)))
from_suc (a ∷ (b ∷ rest)) (suc i) h =
    from_suc rest i (omega arith)
    ∙ ap₂ (λ j k. (get_or (a ∷ (b ∷ rest)) j 0, get_or (a ∷ (b ∷ rest)) k 0) ∷ drop (suc i) (pairs rest)) two more
  where
    two : suc (suc (2 * i)) ≡ 2 * suc i
    two = omega arith

    more : suc (suc (2 * i + 1)) ≡ 2 * suc i + 1
    more = omega arith

-- what is left of the pairs begins with pair i
pub pairs_from : (l : List ℕ) (i : ℕ) → i < pair_count l → drop i (pairs l) ≡ pair_at l i ∷ drop (i + 1) (pairs l)
pairs_from l i h = from_suc l i h ∙ ap (λ j. pair_at l i ∷ drop j (pairs l)) (sym (add-one i))

-- and so does what is left of a list that is made of them, element by element
pub mapped_from : {B : Type 0} (f : ℕ × ℕ → B) (l : List ℕ) (i : ℕ) → i < pair_count l → drop i (map f (pairs l)) ≡ f (pair_at l i) ∷ drop (i + 1) (map f (pairs l))
mapped_from f l i h = drop-map f i (pairs l) ∙ ap (map f) (pairs_from l i h) ∙ ap (λ ys. f (pair_at l i) ∷ ys) (sym (drop-map f (i + 1) (pairs l)))

-- pair i
pub pair_is : (l : List ℕ) (i : ℕ) → i < pair_count l → get_or (pairs l) i (0, 0) ≡ pair_at l i
pair_is l i h = ap (λ ps. get_or ps 0 (0, 0)) (sym (drop_more (pairs l) i (0, 0) (omega (arith, pairs_length l))) ∙ pairs_from l i h)

-- past the last pair nothing is left
pub pairs_over : (l : List ℕ) (i : ℕ) → pair_count l ≤ i → drop i (pairs l) ≡ []
pairs_over [] i h = drop_nothing i
pairs_over (a ∷ []) i h = drop_nothing i
pairs_over (a ∷ (b ∷ rest)) zero h = absurd (omega arith)
pairs_over (a ∷ (b ∷ rest)) (suc i) h = pairs_over rest i (omega arith)

pub mapped_over : {B : Type 0} (f : ℕ × ℕ → B) (l : List ℕ) (i : ℕ) → pair_count l ≤ i → drop i (map f (pairs l)) ≡ []
mapped_over f l i h = drop-map f i (pairs l) ∙ ap (map f) (pairs_over l i h)

-- a pair that names no field, or one, as a function tells it
module _ {B : Type 0} (names : ℕ × ℕ → Option B) (l : List ℕ) (i : ℕ) (within : i < pair_count l) where
  pub names_none : names (pair_at l i) ≡ None → filter_map names (drop i (pairs l)) ≡ filter_map names (drop (i + 1) (pairs l))
  names_none none = ap (filter_map names) (pairs_from l i within) ∙ ap (λ o. cons_option o (filter_map names (drop (i + 1) (pairs l)))) none

  pub names_one : (f : B) → names (pair_at l i) ≡ Some f → filter_map names (drop i (pairs l)) ≡ f ∷ filter_map names (drop (i + 1) (pairs l))
  names_one f one = ap (filter_map names) (pairs_from l i within) ∙ ap (λ o. cons_option o (filter_map names (drop (i + 1) (pairs l)))) one

pub below_here : (n f : ℕ) (fs : List ℕ) → f < n → all_below n (f ∷ fs) ≡ all_below n fs
below_here n f fs h = ap (λ b. b && all_below n fs) (lt-ltb f n h)

pub not_below_here : (n f : ℕ) (fs : List ℕ) → n ≤ f → all_below n (f ∷ fs) ≡ false
not_below_here n f fs h = ap (λ b. b && all_below n fs) (le-ltb f n h)

-- one axis more behind the first ones
pub set_four : (xs : List Axis) (y : Axis) → length xs < 4 → set (four_axes xs) (length xs) y ≡ four_axes (xs ++ (y ∷ []))
set_four [] y h = refl
set_four (a ∷ []) y h = refl
set_four (a ∷ (b ∷ [])) y h = refl
set_four (a ∷ (b ∷ (c ∷ []))) y h = refl
set_four (a ∷ (b ∷ (c ∷ (d ∷ rest)))) y h = absurd (omega arith)

-- the axes of the pairs, one more, and all
pub axes_more : (l : List ℕ) (i : ℕ) → i < pair_count l → pair_count l ≤ 4
    → set (four_axes (take i (map axis_of (pairs l)))) i (axis_of (pair_at l i)) ≡ four_axes (take (i + 1) (map axis_of (pairs l)))
axes_more l i within few =
    let axes = map axis_of (pairs l) in
    let long : length axes ≡ pair_count l = length-map (pairs l) axis_of ∙ pairs_length l in
    let here : i < length axes = omega arith in
    let front : length (take i axes) ≡ i = length-take-le i axes (omega arith) in
    let at : get_or axes i no_axis ≡ axis_of (pair_at l i) = get_or-map axis_of (pairs l) i (0, 0) no_axis (omega (arith, pairs_length l)) ∙ ap axis_of (pair_is l i within) in
    subst (λ j. set (four_axes (take i axes)) j (axis_of (pair_at l i)) ≡ four_axes (take (i + 1) axes)) front
    (set_four (take i axes) (axis_of (pair_at l i)) (omega arith) ∙ ap four_axes (ap (λ y. take i axes ++ (y ∷ [])) (sym at) ∙ sym (take_more axes i no_axis here)))

pub axes_all : (l : List ℕ) (i : ℕ) → pair_count l ≤ i → take i (map axis_of (pairs l)) ≡ map axis_of (pairs l)
axes_all l i done = take_all i (map axis_of (pairs l)) (let e = length-map (pairs l) axis_of ∙ pairs_length l in omega arith)
