-- Rules that make a tree have no ring.
use Rattle.std.proofs.Common.{◌≡◌, ℕ, zero, suc, ◌+◌, ◌<◌, ◌≤◌, eqb, ◌⊎◌, List, [], ◌∷◌, map, length, get_or, sym, refl, ap, ◌∙◌, subst, inl, inr, le_of_suc-le-suc, not-suc-le-zero, add-one, arith}
use Rattle.std.proofs.lemmas.Bool.{cases_eq, cond-true, cond-false, eq-eqb, ne_eqb}
use Rattle.rules.specs.Rules.{Rule, In, Distinct}
use Rattle.rules.specs.Rings.{Ring, scope_at, next}
use Rattle.rules.specs.Tree.{labels, Tree}
use Rattle.rules.proofs.Fields.{in_at}
use Rattle.rules.proofs.Lists.{label_apart}
use Rattle.rules.proofs.Labels.{one_label_at}

pub next_inner : (k i : ℕ) → suc i < k → next k i ≡ suc i
next_inner k i h = cond-false (eqb (i + 1) k) 0 (i + 1) (ne_eqb (i + 1) k (λ e. omega arith)) ∙ add-one i

pub next_last : (k i : ℕ) → suc i ≡ k → next k i ≡ 0
next_last k i h = cond-true (eqb (i + 1) k) 0 (i + 1) (eq-eqb (i + 1) k (omega arith))

index_apart : (xs : List ℕ) → Distinct xs → (i j : ℕ) → i < length xs → j < length xs → get_or xs i 0 ≡ get_or xs j 0 → i ≡ j
index_apart [] d i j h k e = absurd (not-suc-le-zero h)
index_apart (x ∷ xs) d zero zero h k e = refl
index_apart (x ∷ xs) d zero (suc j) h k e = absurd (d.0 (subst (λ z. In z xs) (sym e) (in_at xs j 0 (le_of_suc-le-suc k))))
index_apart (x ∷ xs) d (suc i) zero h k e = absurd (d.0 (subst (λ z. In z xs) e (in_at xs i 0 (le_of_suc-le-suc h))))
index_apart (x ∷ xs) d (suc i) (suc j) h k e = ap suc (index_apart xs d.1 i j (le_of_suc-le-suc h) (le_of_suc-le-suc k) e)

-- what stays the same from each number to the next
run : (φ : ℕ → ℕ) (a b : ℕ) → a ≤ b → ((i : ℕ) → a ≤ i → i < b → φ i ≡ φ (suc i)) → φ a ≡ φ b
run φ a zero h k = let e : a ≡ 0 = omega arith in ap φ e
run φ a (suc b) h k = go (cases_eq a (suc b)) (λ l. run φ a b l (λ i p q. k i p (omega arith)))
  where
    go : (a ≡ suc b) ⊎ (a ≡ suc b → ⊥) → (a ≤ b → φ a ≡ φ b) → φ a ≡ φ (suc b)
    go (inl e) f = ap φ e
    go (inr d) f = let l : a ≤ b = omega arith in f l ∙ k b l (omega arith)

zero_at : (p : ℕ → ℕ) (m : ℕ) → ((j : ℕ) × (j ≤ m) × (p j ≡ 0)) ⊎ ((i : ℕ) → i ≤ m → p i ≡ 0 → ⊥)
zero_at p zero = go (cases_eq (p 0) 0)
  where
    go : (p 0 ≡ 0) ⊎ (p 0 ≡ 0 → ⊥) → ((j : ℕ) × (j ≤ 0) × (p j ≡ 0)) ⊎ ((i : ℕ) → i ≤ 0 → p i ≡ 0 → ⊥)
    go (inl e) = inl (0, omega arith, e)
    go (inr k) = inr (λ i h e. let z : i ≡ 0 = omega arith in k (ap p (sym z) ∙ e))
zero_at p (suc m) = go (cases_eq (p (suc m)) 0) (zero_at p m)
  where
    go : (p (suc m) ≡ 0) ⊎ (p (suc m) ≡ 0 → ⊥) → ((j : ℕ) × (j ≤ m) × (p j ≡ 0)) ⊎ ((i : ℕ) → i ≤ m → p i ≡ 0 → ⊥) → ((j : ℕ) × (j ≤ suc m) × (p j ≡ 0)) ⊎ ((i : ℕ) → i ≤ suc m → p i ≡ 0 → ⊥)
    go (inl e) f = inl (suc m, omega arith, e)
    go (inr k) (inl (j, h, e)) = inl (j, omega arith, e)
    go (inr k) (inr f) = inr (λ i h e. elim (cases_eq i (suc m)) [ inl q ↦ k (ap p (sym q) ∙ e) | inr d ↦ f i (omega arith) e ])

-- a ring by its places 0 to m
record Loop (rules : List Rule) (m : ℕ) (fld plc : ℕ → ℕ) : Type 0 where
  here : (i : ℕ) → i ≤ m → In (fld i) (scope_at rules (plc i))
  step : (i : ℕ) → i < m → In (fld i) (scope_at rules (plc (suc i)))
  close : In (fld m) (scope_at rules (plc 0))
  flds : (i j : ℕ) → i ≤ m → j ≤ m → fld i ≡ fld j → i ≡ j
  plcs : (i j : ℕ) → i ≤ m → j ≤ m → plc i ≡ plc j → i ≡ j

abbrev down : ℕ → ℕ
down zero = zero
down (suc p) = p

down_apart : (p q : ℕ) → (p ≡ 0 → ⊥) → (q ≡ 0 → ⊥) → down p ≡ down q → p ≡ q
down_apart zero q a b e = absurd (a refl)
down_apart (suc p) zero a b e = absurd (b refl)
down_apart (suc p) (suc q) a b e = ap suc e

in_down : (r : Rule) (rs : List Rule) (x p : ℕ) → (p ≡ 0 → ⊥) → In x (scope_at (r ∷ rs) p) → In x (scope_at rs (down p))
in_down r rs x zero k i = absurd (k refl)
in_down r rs x (suc p) k i = i

-- no place is the first: the ring is one of the rules behind
lower : (r : Rule) (rs : List Rule) (m : ℕ) (fld plc : ℕ → ℕ) → Loop (r ∷ rs) m fld plc → ((i : ℕ) → i ≤ m → plc i ≡ 0 → ⊥) → Loop rs m fld (λ i. down (plc i))
lower r rs m fld plc R k = record {
  here = λ i h. in_down r rs (fld i) (plc i) (k i h) (R.here i h);
  step = λ i h. in_down r rs (fld i) (plc (suc i)) (k (suc i) h) (R.step i h);
  close = in_down r rs (fld m) (plc 0) (k 0 (omega arith)) R.close;
  flds = R.flds;
  plcs = λ i j h g e. R.plcs i j h g (down_apart (plc i) (plc j) (k i h) (k j g) e);
}

-- two fields of a scope other than the first come under one label of the rules behind
link : (r : Rule) (rs : List Rule) (x y p : ℕ) → (p ≡ 0 → ⊥) → In x (scope_at (r ∷ rs) p) → In y (scope_at (r ∷ rs) p) → labels rs x ≡ labels rs y
link r rs x y p k i j = one_label_at rs (down p) x y (in_down r rs x p k i) (in_down r rs y p k j)

module _ (r : Rule) (rs : List Rule) (m : ℕ) (fld plc : ℕ → ℕ) (R : Loop (r ∷ rs) m fld plc) (two : 1 ≤ m) (apart : Distinct (map (labels rs) r.scope)) where
  in_first : (x p : ℕ) → p ≡ 0 → In x (scope_at (r ∷ rs) p) → In x r.scope
  in_first x p e i = subst (λ q. In x (scope_at (r ∷ rs) q)) e i

  other : (i j : ℕ) → i ≤ m → j ≤ m → plc j ≡ 0 → (i ≡ j → ⊥) → plc i ≡ 0 → ⊥
  other i j h g e d p = d (R.plcs i j h g (p ∙ sym e))

  meet : (j : ℕ) → j ≤ m → plc j ≡ 0 → ⊥
  meet zero h e =
      let same : labels rs (fld 0) ≡ labels rs (fld m) = run (λ i. labels rs (fld i)) 0 m (omega arith) (λ i a b. link r rs (fld i) (fld (suc i)) (plc (suc i)) (other (suc i) 0 b h e (λ q. omega arith)) (R.step i b) (R.here (suc i) b)) in
      let eq : 0 ≡ m = R.flds 0 m h (omega arith) (label_apart (labels rs) r.scope apart (fld 0) (fld m) (in_first (fld 0) (plc 0) e (R.here 0 h)) (in_first (fld m) (plc 0) e R.close) same) in
      omega arith
  meet (suc j) h e =
      let go = λ (i : ℕ) (b : i < m) (d : i ≡ j → ⊥). link r rs (fld i) (fld (suc i)) (plc (suc i)) (other (suc i) (suc j) b h e (λ q. d (omega arith))) (R.step i b) (R.here (suc i) b) in
      let front : labels rs (fld 0) ≡ labels rs (fld j) = run (λ i. labels rs (fld i)) 0 j (omega arith) (λ i a b. go i (omega arith) (λ q. omega arith)) in
      let back : labels rs (fld (suc j)) ≡ labels rs (fld m) = run (λ i. labels rs (fld i)) (suc j) m h (λ i a b. go i b (λ q. omega arith)) in
      let round : labels rs (fld m) ≡ labels rs (fld 0) = link r rs (fld m) (fld 0) (plc 0) (other 0 (suc j) (omega arith) h e (λ q. omega arith)) R.close (R.here 0 (omega arith)) in
      let eq : j ≡ suc j = R.flds j (suc j) (omega arith) h (label_apart (labels rs) r.scope apart (fld j) (fld (suc j)) (in_first (fld j) (plc (suc j)) e (R.step j h)) (in_first (fld (suc j)) (plc (suc j)) e (R.here (suc j) h)) (sym (back ∙ round ∙ front))) in
      omega arith

no_loop : (rules : List Rule) → Tree rules → (m : ℕ) (fld plc : ℕ → ℕ) → 1 ≤ m → Loop rules m fld plc → ⊥
no_loop [] t m fld plc two R = R.close
no_loop (r ∷ rs) t m fld plc two R = go (zero_at plc m) (no_loop rs t.1 m fld (λ i. down (plc i)) two)
  where
    go : ((j : ℕ) × (j ≤ m) × (plc j ≡ 0)) ⊎ ((i : ℕ) → i ≤ m → plc i ≡ 0 → ⊥) → (Loop rs m fld (λ i. down (plc i)) → ⊥) → ⊥
    go (inl (j, h, e)) f = meet r rs m fld plc R two t.0 j h e
    go (inr k) f = f (lower r rs m fld plc R k)

ring_loop : (rules : List Rule) (R : Ring rules) (m : ℕ) → suc m ≡ length R.places → Loop rules m (λ i. get_or R.fields i 0) (λ i. get_or R.places i 0)
ring_loop rules R m e =
    let many = R.as_many in
    record {
      here = λ i h. R.here i (omega arith);
      step = λ i h. subst (λ q. In (get_or R.fields i 0) (scope_at rules (get_or R.places q 0))) (next_inner (length R.places) i (omega arith)) (R.there i (omega arith));
      close = subst (λ q. In (get_or R.fields m 0) (scope_at rules (get_or R.places q 0))) (next_last (length R.places) m e) (R.there m (omega arith));
      flds = λ i j h g. index_apart R.fields R.fields_apart i j (omega arith) (omega arith);
      plcs = λ i j h g. index_apart R.places R.places_apart i j (omega arith) (omega arith);
    }

pub tree_no_ring : (rules : List Rule) → Tree rules → Ring rules → ⊥
tree_no_ring rules t R = go (length R.places) refl R.two
  where
    go : (k : ℕ) → k ≡ length R.places → 2 ≤ k → ⊥
    go zero e h = omega arith
    go (suc m) e h = no_loop rules t m (λ i. get_or R.fields i 0) (λ i. get_or R.places i 0) (omega arith) (ring_loop rules R m e)
