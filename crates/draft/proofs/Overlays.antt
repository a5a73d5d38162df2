-- What stands in a list that another is written over. Assumes nothing.
use Rattle.std.proofs.Common.{◌≡◌, ℕ, suc, ◌+◌, ◌-◌, ◌≤◌, List, [], ◌∷◌, ◌++◌, length, take, drop, set, sym, refl, ap, ◌∙◌, arith, length-take-le, take-take, take_at, take-add}
use lib.Seq.{sets, sets-eq, length-sets, take-append-le, drop-append-le}
use Rattle.std.proofs.lemmas.List.{drop-take, length-append}
use Rattle.draft.specs.Memory.{overlay}

module _ {A : Type 0} where
  overlay_sets : (l : List A) (at : ℕ) (ys : List A) → overlay l at ys ≡ sets l at ys
  overlay_sets l at [] = refl
  overlay_sets l at (y ∷ ys) = overlay_sets (set l at y) (suc at) ys

  pub overlay_length : (l : List A) (at : ℕ) (ys : List A) → length (overlay l at ys) ≡ length l
  overlay_length l at ys = ap length (overlay_sets l at ys) ∙ length-sets l at ys

  -- a part of a front is a part of the whole
  pub part_of_front : (first size n : ℕ) (l : List A) → first + size ≤ n → take size (drop first (take n l)) ≡ take size (drop first l)
  part_of_front first size n l fits =
      let whole : first + (n - first) ≡ n = omega arith in
      let less : size ≤ n - first = omega arith in
      ap (λ k. take size (drop first (take k l))) (sym whole)
      ∙ ap (take size) (drop-take first (n - first) l)
      ∙ take-take size (n - first) (drop first l) less

  -- a longer front begins with a shorter one
  pub front_longer : (m n : ℕ) (l : List A) → m ≤ n → take n l ≡ take m l ++ take (n - m) (drop m l)
  front_longer m n l le =
      let whole : n ≡ m + (n - m) = omega arith in
      ap (λ k. take k l) whole ∙ take-add m (n - m) l

  module _ (l : List A) (at count : ℕ) (ys : List A) (long : length ys ≡ count) (fits : at + count ≤ length l) where
    written : overlay l at ys ≡ take at l ++ ys ++ drop (at + length ys) l
    written = overlay_sets l at ys ∙ sets-eq ys l at (omega arith)

    front_exact : length (take at l) ≡ at
    front_exact = length-take-le at l (omega arith)

    front_long : length (take at l ++ ys) ≡ at + count
    front_long = omega (arith, length-append (take at l) ys, front_exact)

    -- what is written follows what stood before it
    pub front_written : take (at + count) (overlay l at ys) ≡ take at l ++ ys
    front_written = ap (take (at + count)) written ∙ take_at (take at l ++ ys) (drop (at + length ys) l) (at + count) front_long

    -- what stood before it is kept
    pub front_kept : (n : ℕ) → n ≤ at → take n (overlay l at ys) ≡ take n l
    front_kept n le =
        sym (take-take n (at + count) (overlay l at ys) (omega arith))
        ∙ ap (take n) front_written
        ∙ take-append-le n (take at l) ys (omega (arith, front_exact))
        ∙ take-take n at l le

    -- the part from a place on, up to what is written last
    pub part_written : (first : ℕ) → first ≤ at → take (at + count - first) (drop first (overlay l at ys)) ≡ take (at - first) (drop first l) ++ ys
    part_written first le =
        let whole : first + (at + count - first) ≡ at + count = omega arith in
        let before : at ≡ first + (at - first) = omega arith in
        sym (drop-take first (at + count - first) (overlay l at ys))
        ∙ ap (λ k. drop first (take k (overlay l at ys))) whole
        ∙ ap (drop first) front_written
        ∙ drop-append-le first (take at l) ys (omega (arith, front_exact))
        ∙ ap (λ k. drop first (take k l) ++ ys) before
        ∙ ap (λ xs. xs ++ ys) (drop-take first (at - first) l)
