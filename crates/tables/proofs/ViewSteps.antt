-- The steps over the axes and cells of a table, one at a time. Assumes nothing.
use Rattle.std.proofs.Common.{◌≡◌, ℕ, zero, suc, ◌+◌, ◌-◌, ◌*◌, ◌<◌, ◌≤◌, true, false, ◌&&◌, leb, ◌⊎◌, List, [], ◌∷◌, ◌++◌, map, length, get_or, take, drop, sym, refl, ap, ◌∙◌, subst, inl, inr, ⊎_elim, mul_assoc, arith}
use Rattle.std.proofs.lemmas.Nat.{mul-le}
use Rattle.std.proofs.lemmas.List.{length-append, length-map, length-take-le, drop_more, drop_all, get_or-take, get_or-map, get_or_append_left, get_or-append_right}
use Rattle.std.proofs.lemmas.Bool.{cases_lt, cases_Bool, leb-true, lt-leb, and_parts, and_left, and_right}
use Rattle.rows.proofs.Counts.{some_or_none}
use Rattle.rows.specs.Values.{Values, Empty}
use Rattle.rules.specs.Books.{no_rule, rule_at}
use Rattle.rules.specs.Rules.{Rule, In}
use Rattle.tables.specs.declared.record.Axis.{Axis}
use Rattle.tables.specs.declared.record.Cell.{Cell}
use Rattle.tables.specs.declared.record.Cell.TheVariants.{Constant, Field}
use Rattle.tables.specs.Reads.{room, positive, cell_fields, table_scope}

module _ {X : Type 0} (made : X → Rule) where
  -- the rule made from what stands at the place
  pub rule_made : (xs : List X) (k : ℕ) (d : X) → k < length xs → rule_at (map made xs) k ≡ made (get_or xs k d)
  rule_made [] k d h = absurd (omega arith)
  rule_made (x ∷ xs) zero d h = refl
  rule_made (x ∷ xs) (suc k) d h = rule_made xs k d (omega arith)

  -- past the end there is none
  pub rule_past : (xs : List X) (k : ℕ) → length xs ≤ k → rule_at (map made xs) k ≡ no_rule
  rule_past [] k h = refl
  rule_past (x ∷ xs) zero h = absurd (omega arith)
  rule_past (x ∷ xs) (suc k) h = rule_past xs k (omega arith)

-- extents of at least 1 have a product of at least 1
pub room_some : (axes : List Axis) → positive axes ≡ true → 1 ≤ room axes
room_some [] h = omega arith
room_some (ax ∷ axes) h =
    let parts = and_parts (leb 1 ax.extent) (positive axes) h in
    omega (arith, mul-le 1 1 ax.extent (room axes) (leb-true 1 ax.extent parts.0) (room_some axes parts.1))

-- the field of a cell is among those of the cells
pub field_among : (cells : List Cell) (i f : ℕ) (d : Cell) → i < length cells → get_or cells i d ≡ Field f → In f (cell_fields cells)
field_among [] i f d h e = absurd (omega arith)
field_among (Constant k ∷ cells) zero f d h e = let z : ◌≡◌ {A = ℕ} 0 1 = cc in absurd (omega arith)
field_among (Field g ∷ cells) zero f d h e = inl (cc)
field_among (Constant k ∷ cells) (suc i) f d h e = field_among cells i f d (omega arith) e
field_among (Field g ∷ cells) (suc i) f d h e = inr (field_among cells i f d (omega arith) e)

-- there are no more fields than cells
pub fields_few : (cells : List Cell) → length (cell_fields cells) ≤ length cells
fields_few [] = omega arith
fields_few (Constant k ∷ cells) = omega (arith, fields_few cells)
fields_few (Field f ∷ cells) = omega (arith, fields_few cells)

-- a product that comes to 0 or above 1,024 is not told, whatever is left
pub room_over : (r : ℕ) (ax : Axis) (rest : List Axis) → 1 ≤ r → (r * ax.extent ≡ 0) ⊎ (1024 < r * ax.extent) → (positive (ax ∷ rest) && leb (r * room (ax ∷ rest)) 1024) ≡ false
room_over r ax rest some (inl none) =
    and_left (positive (ax ∷ rest)) (leb (r * room (ax ∷ rest)) 1024) (and_left (leb 1 ax.extent) (positive rest) (lt-leb 1 ax.extent
    (⊎_elim (λ zero. zero) (λ one. absurd (omega (arith, none, mul-le 1 1 r ax.extent some one))) (cases_lt ax.extent 1))))
room_over r ax rest some (inr over) =
    ⊎_elim
    (λ all. and_right (positive (ax ∷ rest)) (leb (r * room (ax ∷ rest)) 1024) (lt-leb (r * room (ax ∷ rest)) 1024
    (omega (
      arith,
      over,
      mul_assoc r ax.extent (room rest),
      mul-le (r * ax.extent) 1 (r * ax.extent) (room rest) (omega arith) (room_some rest (and_parts (leb 1 ax.extent) (positive rest) all).1),
    ))))
    (λ none. and_left (positive (ax ∷ rest)) (leb (r * room (ax ∷ rest)) 1024) none)
    (cases_Bool (positive (ax ∷ rest)))

-- the fields of two lists of cells
pub fields_append : (cs ds : List Cell) → cell_fields (cs ++ ds) ≡ cell_fields cs ++ cell_fields ds
fields_append [] ds = refl
fields_append (Constant k ∷ cs) ds = fields_append cs ds
fields_append (Field f ∷ cs) ds = ap (λ fs. f ∷ fs) (fields_append cs ds)

-- what is left once a cell is passed: its field comes first if it has one
pub rest_field : (cells : List Cell) (i f : ℕ) → i < length cells → get_or cells i (Constant 0) ≡ Field f → cell_fields (drop i cells) ≡ f ∷ cell_fields (drop (i + 1) cells)
rest_field cells i f h e = ap cell_fields (drop_more cells i (Constant 0) h) ∙ ap (λ c. cell_fields (c ∷ drop (i + 1) cells)) e

-- and nothing else changes if it has none
pub rest_constant : (cells : List Cell) (i k : ℕ) → i < length cells → get_or cells i (Constant 0) ≡ Constant k → cell_fields (drop i cells) ≡ cell_fields (drop (i + 1) cells)
rest_constant cells i k h e = ap cell_fields (drop_more cells i (Constant 0) h) ∙ ap (λ c. cell_fields (c ∷ drop (i + 1) cells)) e

-- nothing is left at the end
pub rest_none : (cells : List Cell) (i : ℕ) → length cells ≤ i → cell_fields (drop i cells) ≡ []
rest_none cells i h = ap cell_fields (drop_all i cells h)

-- the field of an axis stands in the scope right after x
pub place_axis : (x place count : ℕ) (axes : List Axis) (cells : List Cell) (d : Axis) → (place ≡ 0 → ⊥) → place ≤ count → count ≤ length axes
    → (get_or axes (place - 1) d).field ≡ get_or (table_scope x (take count axes) cells) place 255
place_axis x zero count axes cells d some early enough = absurd (some refl)
place_axis x (suc p) count axes cells d some early enough =
    let few = take count axes in
    let long = length-take-le count axes enough in
    let fields = length-map few (λ ax. ax.field) in
    let before : suc p - 1 ≡ p = omega arith in
    ap (λ k. (get_or axes k d).field) before
    ∙ ap (λ ax. ax.field) (sym (get_or-take count axes p d (omega arith)))
    ∙ sym (get_or-map (λ ax. ax.field) few p d 255 (omega arith))
    ∙ sym (get_or_append_left (map (λ ax. ax.field) few) (cell_fields cells) 255 p (omega arith))

-- and that of a cell after the axes
pub place_cell : (x place count : ℕ) (axes : List Axis) (cells : List Cell) → count < place → count ≤ length axes
    → get_or (cell_fields cells) (place - 1 - count) 255 ≡ get_or (table_scope x (take count axes) cells) place 255
place_cell x zero count axes cells late enough = absurd (omega arith)
place_cell x (suc p) count axes cells late enough =
    let before : suc p - 1 ≡ p = omega arith in
    ap (λ k. get_or (cell_fields cells) (k - count) 255) before
    ∙ sym (get_or-append_right (map (λ ax. ax.field) (take count axes)) (cell_fields cells) count p 255
    (length-map (take count axes) (λ ax. ax.field) ∙ length-take-le count axes enough) (omega arith))

-- how many fields a scope has
pub scope_long : (x count : ℕ) (axes : List Axis) (cells : List Cell) → count ≤ length axes → length (table_scope x (take count axes) cells) ≡ 1 + count + length (cell_fields cells)
scope_long x count axes cells enough =
    omega (
      arith,
      length-append (map (λ ax. ax.field) (take count axes)) (cell_fields cells),
      length-map (take count axes) (λ ax. ax.field),
      length-take-le count axes enough,
    )

-- a product other than 0 has no factor 0
pub factor_some : (r e : ℕ) → (r * e ≡ 0 → ⊥) → 1 ≤ e
factor_some r e h = ⊎_elim (λ none. absurd (h (omega (arith, mul-le r e r 0 (omega arith) (omega arith))))) (λ some. some) (cases_lt e 1)

-- a set of numbers below a span that is not empty has a value
pub some_value : (span : ℕ) (p : Values) → ((v : ℕ) → p v ≡ true → v < span) → (Empty p → ⊥) → (v : ℕ) × (p v ≡ true)
some_value span p inside some =
    ⊎_elim
    (λ found. (found.0, found.2))
    (λ none. absurd (some (λ v. ⊎_elim (λ e. none v (inside v e)) (λ e. e) (cases_Bool (p v)))))
    (some_or_none span p)

-- what holds of the first field and of the rest holds of each
pub each_of : (P : ℕ → Type 0) (f : ℕ) (gs hs : List ℕ) → hs ≡ f ∷ gs → P f → ((g : ℕ) → In g gs → P g) → (g : ℕ) → In g hs → P g
each_of P f gs hs is first rest g h =
    ⊎_elim (λ e. subst P (sym e) first) (rest g) (subst (In g) is h)
