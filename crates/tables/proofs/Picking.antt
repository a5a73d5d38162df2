-- What a table's line selects. Assumes nothing.
use Rattle.std.proofs.Common.{◌≡◌, ℕ, zero, suc, ◌+◌, ◌*◌, ◌<◌, ◌≤◌, true, ◌&&◌, eqb, ltb, List, [], ◌∷◌, map, length, take, drop, refl, ap, ◌∙◌, ap₂, inl, inr, mul-le-mul_right, suc-mul, arith, length-drop, length-take}
use Rattle.std.proofs.lemmas.Bool.{and_parts, ltb-true}
use Rattle.rules.specs.Rules.{Sets, In}
use Rattle.rules.proofs.Given.{given_line}
use Rattle.rules.proofs.Lists.{in_first, in_second}
use Rattle.tables.specs.declared.record.Axis.{Axis}
use Rattle.tables.specs.declared.record.Cell.{Cell}
use Rattle.tables.specs.declared.record.Cell.TheVariants.{Constant, Field}
use Rattle.tables.specs.Scans.{Reaches, here, there}
use Rattle.tables.specs.Reads.{room, block, picked, equals_cell, below_extents, indices, cell_fields, table_scope, table_test, lookup_rule}

-- ---- which fields a selection can name

-- a front of the cells has only fields of the cells, and so has what lies behind a front
pub front_fields : (m : ℕ) (cells : List Cell) (f : ℕ) → In f (cell_fields (take m cells)) → In f (cell_fields cells)
front_fields zero [] f h = h
front_fields (suc m) [] f h = h
front_fields zero (c ∷ cells) f h = absurd h
front_fields (suc m) (Constant k ∷ cells) f h = front_fields m cells f h
front_fields (suc m) (Field g ∷ cells) f (inl e) = inl e
front_fields (suc m) (Field g ∷ cells) f (inr h) = inr (front_fields m cells f h)

pub back_fields : (m : ℕ) (cells : List Cell) (f : ℕ) → In f (cell_fields (drop m cells)) → In f (cell_fields cells)
back_fields zero [] f h = h
back_fields (suc m) [] f h = h
back_fields zero (c ∷ cells) f h = h
back_fields (suc m) (Constant k ∷ cells) f h = back_fields m cells f h
back_fields (suc m) (Field g ∷ cells) f h = inr (back_fields m cells f h)

pub block_fields : (m d : ℕ) (cells : List Cell) (f : ℕ) → In f (cell_fields (block m d cells)) → In f (cell_fields cells)
block_fields m d cells f h = back_fields (d * m) cells f (front_fields m (drop (d * m) cells) f h)

pub picked_fields : (axes : List Axis) (cells : List Cell) (ds : List ℕ) (f : ℕ) → In f (cell_fields (picked axes cells ds)) → In f (cell_fields cells)
picked_fields [] cells ds f h = h
picked_fields (ax ∷ axes) cells [] f h = absurd h
picked_fields (ax ∷ axes) cells (d ∷ ds) f h = block_fields (room axes) d cells f (picked_fields axes (block (room axes) d cells) ds f h)

-- ---- settings that agree on the scope give one answer

-- each axis, and each field cell, is in the scope
pub axis_in_scope : (x : ℕ) (axes : List Axis) (cells : List Cell) (f : ℕ) → In f (map (λ ax. ax.field) axes) → In f (table_scope x axes cells)
axis_in_scope x axes cells f h = inr (in_first (map (λ ax. ax.field) axes) (cell_fields cells) f h)

pub cell_in_scope : (x : ℕ) (axes : List Axis) (cells : List Cell) (f : ℕ) → In f (cell_fields cells) → In f (table_scope x axes cells)
cell_in_scope x axes cells f h = inr (in_second (map (λ ax. ax.field) axes) (cell_fields cells) f h)

module _ (a b : ℕ → ℕ) where
  extents_agree : (axes : List Axis) → ((f : ℕ) → In f (map (λ ax. ax.field) axes) → a f ≡ b f) → below_extents axes a ≡ below_extents axes b
  extents_agree [] same = refl
  extents_agree (ax ∷ axes) same = ap₂ (λ d r. ltb d ax.extent && r) (same ax.field (inl refl)) (extents_agree axes (λ f h. same f (inr h)))

  pub indices_agree : (axes : List Axis) → ((f : ℕ) → In f (map (λ ax. ax.field) axes) → a f ≡ b f) → indices axes a ≡ indices axes b
  indices_agree [] same = refl
  indices_agree (ax ∷ axes) same = ap₂ ◌∷◌ (same ax.field (inl refl)) (indices_agree axes (λ f h. same f (inr h)))

  cell_agrees : (v : ℕ) (cells : List Cell) → ((f : ℕ) → In f (cell_fields cells) → a f ≡ b f) → equals_cell a v cells ≡ equals_cell b v cells
  cell_agrees v [] same = refl
  cell_agrees v (Constant k ∷ cells) same = refl
  cell_agrees v (Field f ∷ cells) same = ap (eqb v) (same f (inl refl))

  test_agrees : (x : ℕ) (axes : List Axis) (cells : List Cell) → ((f : ℕ) → In f (table_scope x axes cells) → a f ≡ b f) → table_test x axes cells a ≡ table_test x axes cells b
  test_agrees x axes cells same =
      let on-axes : (f : ℕ) → In f (map (λ ax. ax.field) axes) → a f ≡ b f = λ f h. same f (axis_in_scope x axes cells f h) in
      ap₂ ◌&&◌ (extents_agree axes on-axes)
      (ap₂ (λ v ds. equals_cell a v (picked axes cells ds)) (same x (inl refl)) (indices_agree axes on-axes)
      ∙ cell_agrees (b x) (picked axes cells (indices axes b)) (λ f h. same f (cell_in_scope x axes cells f (picked_fields axes cells (indices axes b) f h))))

-- a line is allowed exactly when it passes the test
pub allowed_test : (x : ℕ) (axes : List Axis) (cells : List Cell) (a : ℕ → ℕ) → (lookup_rule x axes cells).allows (map a (table_scope x axes cells)) ≡ table_test x axes cells a
allowed_test x axes cells a = test_agrees _ a x axes cells (given_line (table_scope x axes cells) a)

-- ---- the cells that open index values reach

pub reached : {S : Sets} {axes : List Axis} {cells : List Cell} {ds : List ℕ} {c : Cell} → Reaches S axes cells ds c → picked axes cells ds ≡ c ∷ []
reached here = refl
reached (there l s r) = reached r

-- a block is as long as the axes behind the first need
pub block_length : (ax : Axis) (axes : List Axis) (cells : List Cell) (d : ℕ) → length cells ≡ room (ax ∷ axes) → d < ax.extent → length (block (room axes) d cells) ≡ room axes
block_length ax axes cells d long l =
    let more : suc d * room axes ≤ ax.extent * room axes = mul-le-mul_right (room axes) l in
    let one : suc d * room axes ≡ d * room axes + room axes = suc-mul d (room axes) in
    simp (length-take, length-drop) (omega arith)

-- the indices of a line that passes reach a cell, which equals x
pub line_reaches : (S : Sets) (axes : List Axis) (cells : List Cell) (a : ℕ → ℕ) → length cells ≡ room axes → below_extents axes a ≡ true
    → ((f : ℕ) → In f (map (λ ax. ax.field) axes) → S f (a f) ≡ true) → (c : Cell) × Reaches S axes cells (indices axes a) c
line_reaches S [] [] a long below inside = absurd (omega arith)
line_reaches S [] (c ∷ []) a long below inside = (c, here)
line_reaches S [] (c ∷ (b ∷ cells)) a long below inside = absurd (omega arith)
line_reaches S (ax ∷ axes) cells a long below inside =
    let parts = and_parts (ltb (a ax.field) ax.extent) (below_extents axes a) below in
    let small = ltb-true (a ax.field) ax.extent parts.0 in
    let rest = line_reaches S axes (block (room axes) (a ax.field) cells) a (block_length ax axes cells (a ax.field) long small) parts.1 (λ f h. inside f (inr h)) in
    (rest.0, there small (inside ax.field (inl refl)) rest.1)
