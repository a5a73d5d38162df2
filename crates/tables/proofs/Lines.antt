-- A cell that open index values reach, and that has a value of x, makes an allowed line. Assumes nothing.
use Rattle.std.proofs.Common.{◌≡◌, ℕ, true, cond, eqb, ltb, List, [], ◌∷◌, ◌++◌, map, sym, refl, ap, ◌∙◌, subst, ap₂, inl, inr, ⊎_elim, arith}
use Rattle.std.proofs.lemmas.Bool.{cases_eq, cond-true, cond-false, eq-eqb, eqb-true, ne_eqb, lt-ltb, and_from}
use Rattle.rules.specs.Rules.{Sets, In, Distinct}
use Rattle.rules.proofs.Lists.{in_either, in_first, in_second, halves_apart, first_distinct}
use Rattle.tables.specs.declared.record.Axis.{Axis}
use Rattle.tables.specs.declared.record.Cell.{Cell}
use Rattle.tables.specs.declared.record.Cell.TheVariants.{Constant, Field}
use Rattle.tables.specs.Reads.{room, picked, cell_value, equals_cell, below_extents, indices, cell_fields, table_scope, table_test}
use Rattle.tables.specs.Scans.{cell_has, Reaches, here, there}
use Rattle.tables.proofs.Picking.{reached, block_fields}

-- the fields of the axes
abbrev pub axis_fields : List Axis → List ℕ
axis_fields axes = map (λ ax. ax.field) axes

-- the values b, with the cell's field, if it has one, at v
abbrev at_cell : Cell → ℕ → (ℕ → ℕ) → ℕ → ℕ
at_cell (Constant k) v b f = b f
at_cell (Field g) v b f = cond (eqb f g) v (b f)

-- the values b, with the axes at ds
abbrev at_axes : List Axis → List ℕ → (ℕ → ℕ) → ℕ → ℕ
at_axes [] ds b f = b f
at_axes (ax ∷ axes) [] b f = b f
at_axes (ax ∷ axes) (d ∷ ds) b f = cond (eqb f ax.field) d (at_axes axes ds b f)

-- the line: x at v, the axes at ds, the selected cell at v, and every other field at b
abbrev pub line_of : ℕ → ℕ → List Axis → List ℕ → Cell → (ℕ → ℕ) → ℕ → ℕ
line_of x v axes ds c b f = cond (eqb f x) v (at_axes axes ds (at_cell c v b) f)

not_axis : (axes : List Axis) (ds : List ℕ) (b : ℕ → ℕ) (f : ℕ) → (In f (axis_fields axes) → ⊥) → at_axes axes ds b f ≡ b f
not_axis [] ds b f h = refl
not_axis (ax ∷ axes) [] b f h = refl
not_axis (ax ∷ axes) (d ∷ ds) b f h = cond-false (eqb f ax.field) d (at_axes axes ds b f) (ne_eqb f ax.field (λ e. h (inl e))) ∙ not_axis axes ds b f (λ k. h (inr k))

-- what the line gives x, and a field that is neither x nor an axis
pub line_x : (x v : ℕ) (axes : List Axis) (ds : List ℕ) (c : Cell) (b : ℕ → ℕ) → line_of x v axes ds c b x ≡ v
line_x x v axes ds c b = cond-true (eqb x x) v (at_axes axes ds (at_cell c v b) x) (eq-eqb x x refl)

pub line_cell : (x v : ℕ) (axes : List Axis) (ds : List ℕ) (c : Cell) (b : ℕ → ℕ) (f : ℕ) → (f ≡ x → ⊥) → (In f (axis_fields axes) → ⊥) → line_of x v axes ds c b f ≡ at_cell c v b f
line_cell x v axes ds c b f nx na = cond-false (eqb f x) v (at_axes axes ds (at_cell c v b) f) (ne_eqb f x nx) ∙ not_axis axes ds (at_cell c v b) f na

-- what index values give the axes
module _ {S : Sets} {c : Cell} (b : ℕ → ℕ) where
  -- the axes' own values are ds
  axes_at : {axes : List Axis} {cells : List Cell} {ds : List ℕ} (a : ℕ → ℕ) → Reaches S axes cells ds c → Distinct (axis_fields axes)
      → ((f : ℕ) → In f (axis_fields axes) → a f ≡ at_axes axes ds b f) → indices axes a ≡ ds
  axes_at a here apart same = refl
  axes_at a (there {ax = ax} {axes = axes} {d = d} {ds = ds} l s r) apart same =
      ap₂ ◌∷◌
      (same ax.field (inl refl) ∙ cond-true (eqb ax.field ax.field) d (at_axes axes ds b ax.field) (eq-eqb ax.field ax.field refl))
      (axes_at a r apart.1
      (λ f h. same f (inr h) ∙ cond-false (eqb f ax.field) d (at_axes axes ds b f) (ne_eqb f ax.field (λ e. apart.0 (subst (λ g. In g (axis_fields axes)) e h)))))

  -- they lie below the extents
  axes_below : {axes : List Axis} {cells : List Cell} {ds : List ℕ} (a : ℕ → ℕ) → Reaches S axes cells ds c → indices axes a ≡ ds → below_extents axes a ≡ true
  axes_below a here same = refl
  axes_below a (there {ax = ax} {axes = axes} {d = d} {ds = ds} l s r) same =
      let first : a ax.field ≡ d = cc in
      let rest : indices axes a ≡ ds = cc in
      and_from (ltb (a ax.field) ax.extent) (below_extents axes a) (lt-ltb (a ax.field) ax.extent (omega arith)) (axes_below a r rest)

  -- and in the sets of the axes
  axes_inside : {axes : List Axis} {cells : List Cell} {ds : List ℕ} (f : ℕ) → Reaches S axes cells ds c → In f (axis_fields axes) → S f (at_axes axes ds b f) ≡ true
  axes_inside f here h = absurd h
  axes_inside f (there {ax = ax} {axes = axes} {d = d} {ds = ds} l s r) (inl e) = at_first f ax axes d ds s e
    where
      at_first : (f : ℕ) (ax : Axis) (axes : List Axis) (d : ℕ) (ds : List ℕ) → S ax.field d ≡ true → f ≡ ax.field → S f (at_axes (ax ∷ axes) (d ∷ ds) b f) ≡ true
      at_first f ax axes d ds s e = ap (S f) (cond-true (eqb f ax.field) d (at_axes axes ds b f) (eq-eqb f ax.field e)) ∙ subst (λ g. S g d ≡ true) (sym e) s
  axes_inside f (there {ax = ax} {axes = axes} {d = d} {ds = ds} l s r) (inr h) =
      ⊎_elim
      (λ e. ap (S f) (cond-true (eqb f ax.field) d (at_axes axes ds b f) (eq-eqb f ax.field e)) ∙ subst (λ g. S g d ≡ true) (sym e) s)
      (λ ne. ap (S f) (cond-false (eqb f ax.field) d (at_axes axes ds b f) (ne_eqb f ax.field ne)) ∙ axes_inside f r h)
      (cases_eq f ax.field)

-- a cell that is reached is one of the cells
pub reached_field : {S : Sets} {axes : List Axis} {cells : List Cell} {ds : List ℕ} {g : ℕ} → Reaches S axes cells ds (Field g) → In g (cell_fields cells)
reached_field here = inl refl
reached_field {g = g} (there {axes = axes} {cells = cells} {d = d} l s r) = block_fields (room axes) d cells g (reached_field r)

-- the line that a reached cell makes with a value v of x, and b for the other field cells
module _ (S : Sets) (x v : ℕ) (axes : List Axis) (cells : List Cell) (ds : List ℕ) (c : Cell) (b : ℕ → ℕ)
    (apart : Distinct (table_scope x axes cells)) (reach : Reaches S axes cells ds c) (in_x : S x v ≡ true) (in_Cell : cell_has S c v ≡ true)
    (sound : (f : ℕ) → In f (cell_fields cells) → S f (b f) ≡ true) where
  line : ℕ → ℕ
  line = line_of x v axes ds c b

  not_x : (f : ℕ) → In f (axis_fields axes ++ cell_fields cells) → f ≡ x → ⊥
  not_x f h e = apart.0 (subst (λ g. In g (axis_fields axes ++ cell_fields cells)) e h)

  no_axis : (f : ℕ) → In f (cell_fields cells) → In f (axis_fields axes) → ⊥
  no_axis f h k = halves_apart (axis_fields axes) (cell_fields cells) apart.1 f k h

  -- a field cell has v if it is the one selected, and else its own value
  pub line_at_cell : (f : ℕ) → In f (cell_fields cells) → line_of x v axes ds c b f ≡ at_cell c v b f
  line_at_cell f h = line_cell x v axes ds c b f (not_x f (in_second (axis_fields axes) (cell_fields cells) f h)) (no_axis f h)

  line_at_axis : (f : ℕ) → In f (axis_fields axes) → line_of x v axes ds c b f ≡ at_axes axes ds (at_cell c v b) f
  line_at_axis f h = cond-false (eqb f x) v (at_axes axes ds (at_cell c v b) f) (ne_eqb f x (not_x f (in_first (axis_fields axes) (cell_fields cells) f h)))

  pub line_indices : indices axes (line_of x v axes ds c b) ≡ ds
  line_indices = axes_at (at_cell c v b) (line_of x v axes ds c b) reach (first_distinct (axis_fields axes) (cell_fields cells) apart.1) line_at_axis

  cell_inside : (c : Cell) (f : ℕ) → cell_has S c v ≡ true → S f (b f) ≡ true → S f (at_cell c v b f) ≡ true
  cell_inside (Constant k) f h s = s
  cell_inside (Field g) f h s =
      ⊎_elim
      (λ e. ap (S f) (cond-true (eqb f g) v (b f) (eq-eqb f g e)) ∙ subst (λ u. S u v ≡ true) (sym e) h)
      (λ ne. ap (S f) (cond-false (eqb f g) v (b f) (ne_eqb f g ne)) ∙ s)
      (cases_eq f g)

  -- the line is made of values of S
  pub line_inside : (f : ℕ) → In f (table_scope x axes cells) → S f (line_of x v axes ds c b f) ≡ true
  line_inside f (inl e) = subst (λ g. S g (line_of x v axes ds c b g) ≡ true) (sym e) (ap (S x) (line_x x v axes ds c b) ∙ in_x)
  line_inside f (inr h) =
      ⊎_elim
      (λ k. ap (S f) (line_at_axis f k) ∙ axes_inside (at_cell c v b) f reach k)
      (λ k. ap (S f) (line_at_cell f k) ∙ cell_inside c f in_Cell (sound f k))
      (in_either (axis_fields axes) (cell_fields cells) f h)

  value_is : (c : Cell) → Reaches S axes cells ds c → cell_has S c v ≡ true → ((f : ℕ) → In f (cell_fields cells) → line_of x v axes ds c b f ≡ at_cell c v b f) → cell_value (line_of x v axes ds c b) c ≡ v
  value_is (Constant k) r h at = sym (eqb-true v k h)
  value_is (Field g) r h at = at g (reached_field r) ∙ cond-true (eqb g g) v (b g) (eq-eqb g g refl)

  -- and passes the test
  pub line_passes : table_test x axes cells (line_of x v axes ds c b) ≡ true
  line_passes =
      let a = line_of x v axes ds c b in
      and_from (below_extents axes a) (equals_cell a (a x) (picked axes cells (indices axes a))) (axes_below (at_cell c v b) a reach line_indices)
      (ap (λ cs. equals_cell a (a x) cs) (ap (picked axes cells) line_indices ∙ reached reach)
      ∙ eq-eqb (a x) (cell_value a c) (line_x x v axes ds c b ∙ sym (value_is c reach in_Cell line_at_cell)))
