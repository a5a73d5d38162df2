-- A pass over all cells narrows x, the axes and the field cells to exactly their supported values. Assumes nothing.
use Rattle.std.proofs.Common.{◌≡◌, ℕ, zero, suc, ◌+◌, ◌-◌, ◌*◌, ◌<◌, ◌≤◌, true, false, cond, not, ◌&&◌, eqb, ◌⊎◌, List, [], ◌∷◌, length, get_or, take, drop, sym, refl, ap, ◌∙◌, subst, ap₂, inl, inr, ⊎_elim, mul-le-mul_right, suc-mul, zero-add, arith, drop-drop}
use Rattle.std.proofs.lemmas.Bool.{cases_order, cases_eq, cond-true, cond-false, eq-eqb, eqb-true, ne_eqb, and_parts, and_from, both_ways, not-true, not_from_false, false≢true}
use Rattle.rows.specs.Values.{Values}
use Rattle.rules.specs.Rules.{Sets, In, Distinct, Allowed, Supported}
use Rattle.rules.proofs.Lists.{find, second_distinct}
use Rattle.tables.specs.declared.found.Hits.{Hits}
use Rattle.tables.specs.declared.found.Hits.TheVariants.{Nothing, Only, Several}
use Rattle.tables.specs.declared.record.Axis.{Axis}
use Rattle.tables.specs.declared.record.Cell.{Cell}
use Rattle.tables.specs.declared.record.Cell.TheVariants.{Constant, Field}
use Rattle.tables.specs.Reads.{room, block, picked, cell_value, equals_cell, below_extents, indices, cell_fields, table_scope, lookup_rule}
use Rattle.tables.specs.declared.found.Rests.{Rests}
use Rattle.tables.specs.Scans.{unmarked, cell_has, Reaches, here, there, Hit, Tells, Swept}
use Rattle.tables.proofs.Picking.{front_fields, back_fields, allowed_test, reached, line_reaches, axis_in_scope, cell_in_scope}
use Rattle.tables.proofs.Lines.{axis_fields, line_of, line_x, line_indices, line_inside, line_passes, line_at_cell, reached_field}

-- ---- a field is selected at one place only

-- where no field stands twice, none stands twice in what lies behind a front
back_apart : (m : ℕ) (cells : List Cell) → Distinct (cell_fields cells) → Distinct (cell_fields (drop m cells))
back_apart zero [] h = h
back_apart (suc m) [] h = h
back_apart zero (c ∷ cells) h = h
back_apart (suc m) (Constant k ∷ cells) h = back_apart m cells h
back_apart (suc m) (Field g ∷ cells) h = back_apart m cells h.1

-- nor in a front
front_apart : (m : ℕ) (cells : List Cell) → Distinct (cell_fields cells) → Distinct (cell_fields (take m cells))
front_apart zero [] h = h
front_apart (suc m) [] h = h
front_apart zero (c ∷ cells) h = tt
front_apart (suc m) (Constant k ∷ cells) h = front_apart m cells h
front_apart (suc m) (Field g ∷ cells) h = (λ k. h.0 (front_fields m cells g k), front_apart m cells h.1)

-- a front shares no field with what lies behind it
front_back : (m n : ℕ) (cells : List Cell) (f : ℕ) → m ≤ n → Distinct (cell_fields cells) → In f (cell_fields (take m cells)) → In f (cell_fields (drop n cells)) → ⊥
front_back zero n [] f l apart h k = h
front_back (suc m) n [] f l apart h k = h
front_back zero n (c ∷ cells) f l apart h k = h
front_back (suc m) zero (c ∷ cells) f l apart h k = omega arith
front_back (suc m) (suc n) (Constant j ∷ cells) f l apart h k = front_back m n cells f (omega arith) apart h k
front_back (suc m) (suc n) (Field g ∷ cells) f l apart (inl e) k = apart.0 (subst (λ u. In u (cell_fields cells)) e (back_fields n cells f k))
front_back (suc m) (suc n) (Field g ∷ cells) f l apart (inr h) k = front_back m n cells f (omega arith) apart.1 h k

-- a block shares no field with a later one
blocks_apart : (m d e : ℕ) (cells : List Cell) (f : ℕ) → d < e → Distinct (cell_fields cells) → In f (cell_fields (block m d cells)) → In f (cell_fields (block m e cells)) → ⊥
blocks_apart m d e cells f l apart h k =
    let more : suc d * m ≤ e * m = mul-le-mul_right m l in
    let one : suc d * m ≡ d * m + m = suc-mul d m in
    let gap : m ≤ e * m - d * m = omega arith in
    let sum : d * m + (e * m - d * m) ≡ e * m = omega arith in
    let behind : drop (e * m - d * m) (drop (d * m) cells) ≡ drop (e * m) cells = drop-drop (e * m - d * m) (d * m) cells ∙ ap (λ n. drop n cells) sum in
    front_back m (e * m - d * m) (drop (d * m) cells) f gap (back_apart (d * m) cells apart) h
    (subst (λ cs. In f (cell_fields cs)) (sym behind) (front_fields m (drop (e * m) cells) f k))

-- without axes there are no indices
no_axes : {S : Sets} {cells : List Cell} {ds : List ℕ} {c : Cell} → Reaches S [] cells ds c → ds ≡ []
no_axes here = refl

-- the first index of a selection, and the selection in its block
first_index : {S : Sets} {ax : Axis} {axes : List Axis} {cells : List Cell} {ds : List ℕ} {c : Cell} → Reaches S (ax ∷ axes) cells ds c
    → (d : ℕ) × (es : List ℕ) × (ds ≡ d ∷ es) × Reaches S axes (block (room axes) d cells) es c
first_index (there {d = d} {ds = ds} l s r) = (d, ds, refl, r)

-- a field is selected at one place only
pub one_place : {S : Sets} (axes : List Axis) {cells : List Cell} {ds es : List ℕ} {g : ℕ} → Reaches S axes cells ds (Field g) → Reaches S axes cells es (Field g) → Distinct (cell_fields cells) → ds ≡ es
one_place [] r q apart = no_axes r ∙ sym (no_axes q)
one_place {S} (ax ∷ axes) {cells} {ds} {es} {g} r q apart =
    let a = first_index r in
    let b = first_index q in
    let m : ℕ = room axes in
    ⊎_elim
    (λ e. a.2 ∙ ap₂ ◌∷◌ e (one_place axes a.3 (subst (λ d. Reaches S axes (block m d cells) b.1 (Field g)) (sym e) b.3) (front_apart m (drop (a.0 * m) cells) (back_apart (a.0 * m) cells apart))) ∙ sym b.2)
    (λ ne. absurd (⊎_elim
    (λ l. blocks_apart m a.0 b.0 cells g l apart (reached_field a.3) (reached_field b.3))
    (λ l. blocks_apart m b.0 a.0 cells g l apart (reached_field b.3) (reached_field a.3))
    ne))
    (cases_order a.0 b.0)

-- the same indices select the same cell
pub one_cell : {S : Sets} {axes : List Axis} {cells : List Cell} {ds es : List ℕ} {c e : Cell} → Reaches S axes cells ds c → Reaches S axes cells es e → ds ≡ es → c ≡ e
one_cell {axes = axes} {cells = cells} {ds = ds} {es = es} {c = c} {e = e} r q same =
    let both : c ∷ [] ≡ e ∷ [] = sym (reached r) ∙ ap (picked axes cells) same ∙ reached q in
    cc

-- ---- what a line selects

-- the index at place j is the value of the axis at place j
pub index_at : (axes : List Axis) (a : ℕ → ℕ) (j : ℕ) → j < length axes → get_or (indices axes a) j 0 ≡ a (get_or (axis_fields axes) j 0)
index_at [] a j l = absurd (omega arith)
index_at (ax ∷ axes) a zero l = refl
index_at (ax ∷ axes) a (suc j) l = index_at axes a j (omega arith)

-- the axis at place j is one of the axes
pub axis_at : (axes : List Axis) (j : ℕ) → j < length axes → In (get_or (axis_fields axes) j 0) (axis_fields axes)
axis_at [] j l = absurd (omega arith)
axis_at (ax ∷ axes) zero l = inl refl
axis_at (ax ∷ axes) (suc j) l = inr (axis_at axes j (omega arith))

-- the cell that the indices of a line select: it has the value of x
pub record FromLine (S : Sets) (x : ℕ) (axes : List Axis) (cells : List Cell) (line : ℕ → ℕ) : Type 0 where
  pub ds : List ℕ
  pub c : Cell
  pub reach : Reaches S axes cells ds c
  pub same : ds ≡ indices axes line
  pub has : cell_has S c (line x) ≡ true
  pub in_x : S x (line x) ≡ true
  pub value : cell_value line c ≡ line x

module _ (S : Sets) (x : ℕ) (axes : List Axis) (cells : List Cell) (long : length cells ≡ room axes) where
  -- a cell that equals x on a line of values of S can have that value
  value_in : (line : ℕ → ℕ) (c : Cell) → cell_value line c ≡ line x → ((f : ℕ) → c ≡ Field f → S f (line f) ≡ true) → cell_has S c (line x) ≡ true
  value_in line (Constant k) e inside = eq-eqb (line x) k (sym e)
  value_in line (Field f) e inside = subst (λ v. S f v ≡ true) e (inside f refl)

  -- an allowed line of values of S selects a cell that equals x
  pub line_selects : (line : ℕ → ℕ) → ((g : ℕ) → In g (table_scope x axes cells) → S g (line g) ≡ true) → Allowed (lookup_rule x axes cells) line → FromLine S x axes cells line
  line_selects line inside allowed =
      let ds : List ℕ = indices axes line in
      let parts = and_parts (below_extents axes line) (equals_cell line (line x) (picked axes cells ds)) (sym (allowed_test x axes cells line) ∙ allowed) in
      let found = line_reaches S axes cells line long parts.0 (λ f h. inside f (axis_in_scope x axes cells f h)) in
      let value : cell_value line found.0 ≡ line x = sym (eqb-true (line x) (cell_value line found.0) (sym (ap (equals_cell line (line x)) (reached found.1)) ∙ parts.1)) in
      record {
        ds = ds;
        c = found.0;
        reach = found.1;
        same = refl;
        has = value_in line found.0 value (λ f e. inside f (cell_in_scope x axes cells f (reached_field (subst (Reaches S axes cells ds) e found.1))));
        in_x = inside x (inl refl);
        value = value;
      }

  -- a supporting line selects a cell that equals x
  pub from_line : {f v : ℕ} (s : Supported S (lookup_rule x axes cells) f v) → FromLine S x axes cells s.line
  from_line s = line_selects s.line s.inside s.allowed

  -- that cell is a hit
  pub line_hits : {line : ℕ → ℕ} (F : FromLine S x axes cells line) → Hit S (S x) (Reaches S axes cells) F.ds F.c
  line_hits {line} F = (F.reach, (line x, and_from (S x (line x)) (cell_has S F.c (line x)) F.in_x F.has))

  -- without a hit nothing is supported
  pub no_hits : {f v : ℕ} → Tells Nothing (Hit S (S x) (Reaches S axes cells)) → Supported S (lookup_rule x axes cells) f v → ⊥
  no_hits none s = let F = from_line s in none F.ds F.c (line_hits F)

  -- where a field cell has no value, nothing is supported
  pub empty_cell : {f v : ℕ} (g : ℕ) → In g (cell_fields cells) → ((w : ℕ) → S g w ≡ false) → Supported S (lookup_rule x axes cells) f v → ⊥
  empty_cell g h none s = both_ways (S g (s.line g)) (none (s.line g)) (s.inside g (cell_in_scope x axes cells g h))

-- ---- the field cells

-- what is left of the field cell f: where it is the only hit, what it shares with x
abbrev pub cell_new : Hits → Sets → ℕ → ℕ → Values
cell_new Nothing S x f v = false
cell_new (Only (Constant k)) S x f v = S f v
cell_new (Only (Field g)) S x f v = cond (eqb f g) (S f v && S x v) (S f v)
cell_new Several S x f v = S f v

-- a cell holds the field f, or does not
holds_field : (c : Cell) (f : ℕ) → (c ≡ Field f) ⊎ (c ≡ Field f → ⊥)
holds_field (Constant k) f = inr (λ e. let z : ◌≡◌ {A = ℕ} 0 1 = cc in omega arith)
holds_field (Field g) f = ⊎_elim (λ e. inl (ap Field e)) (λ ne. inr (λ e. ne (cc))) (cases_eq g f)

-- a value for each field, which a field of the list has
some_value : (S : Sets) (fs : List ℕ) → ((f : ℕ) → In f fs → (w : ℕ) × (S f w ≡ true)) → (f : ℕ) → (w : ℕ) × (In f fs → S f w ≡ true)
some_value S fs filled f = go (find (λ x. x) f fs)
  where
    go : ((h : ℕ) × In h fs × (h ≡ f)) ⊎ ((h : ℕ) → In h fs → h ≡ f → ⊥) → (w : ℕ) × (In f fs → S f w ≡ true)
    go (inl t) = let p = filled f (subst (λ g. In g fs) t.2 t.1) in (p.0, λ h. p.1)
    go (inr none) = (0, λ h. absurd (none f h refl))

module _ (S : Sets) (x : ℕ) (axes : List Axis) (cells : List Cell) (apart : Distinct (table_scope x axes cells))
    (filled : (f : ℕ) → In f (cell_fields cells) → (w : ℕ) × (S f w ≡ true)) where
  -- a value for each field cell
  base : ℕ → ℕ
  base g = (some_value S (cell_fields cells) filled g).0

  -- which that cell has
  base_sound : (g : ℕ) → In g (cell_fields cells) → S g (base g) ≡ true
  unfolding base
  base_sound g h = (some_value S (cell_fields cells) filled g).1 h

  -- the same, with v for the field f
  abbrev base_with : ℕ → ℕ → ℕ → ℕ
  base_with f v g = cond (eqb g f) v (base g)

  -- still values that the cells have
  with_sound : (f v : ℕ) → S f v ≡ true → (g : ℕ) → In g (cell_fields cells) → S g (base_with f v g) ≡ true
  with_sound f v s g h =
      ⊎_elim
      (λ e. ap (S g) (cond-true (eqb g f) v (base g) (eq-eqb g f e)) ∙ subst (λ u. S u v ≡ true) (sym e) s)
      (λ ne. ap (S g) (cond-false (eqb g f) v (base g) (ne_eqb g f ne)) ∙ base_sound g h)
      (cases_eq g f)

  -- and f has v
  with_at : (f v : ℕ) → base_with f v f ≡ v
  with_at f v = cond-true (eqb f f) v (base f) (eq-eqb f f refl)

  -- the line of a reached cell supports what it gives
  supports : (f v u : ℕ) {ds : List ℕ} {c : Cell} (b : ℕ → ℕ) → Reaches S axes cells ds c → S x u ≡ true → cell_has S c u ≡ true → ((g : ℕ) → In g (cell_fields cells) → S g (b g) ≡ true)
      → line_of x u axes ds c b f ≡ v → Supported S (lookup_rule x axes cells) f v
  supports f v u {ds} {c} b reach in_x in_Cell sound gives = record {
    line = line_of x u axes ds c b;
    gives = gives;
    inside = line_inside S x u axes cells ds c b apart reach in_x in_Cell sound;
    allowed = allowed_test x axes cells (line_of x u axes ds c b) ∙ line_passes S x u axes cells ds c b apart reach in_x in_Cell sound;
  }

  -- a hit that is not the field f leaves f free
  free : (f v : ℕ) → In f (cell_fields cells) → S f v ≡ true → (ds : List ℕ) (c : Cell) → Hit S (S x) (Reaches S axes cells) ds c → (c ≡ Field f → ⊥) → Supported S (lookup_rule x axes cells) f v
  free f v h s ds (Constant k) hit other =
      let u : ℕ = hit.1.0 in
      let parts = and_parts (S x u) (eqb u k) hit.1.1 in
      supports f v u (base_with f v) hit.0 parts.0 parts.1 (with_sound f v s)
      (line_at_cell S x u axes cells ds (Constant k) (base_with f v) apart hit.0 parts.0 parts.1 (with_sound f v s) f h ∙ with_at f v)
  free f v h s ds (Field g) hit other =
      let u : ℕ = hit.1.0 in
      let parts = and_parts (S x u) (S g u) hit.1.1 in
      supports f v u (base_with f v) hit.0 parts.0 parts.1 (with_sound f v s)
      (line_at_cell S x u axes cells ds (Field g) (base_with f v) apart hit.0 parts.0 parts.1 (with_sound f v s) f h
      ∙ cond-false (eqb f g) u (base_with f v f) (ne_eqb f g (λ e. other (ap Field (sym e)))) ∙ with_at f v)

  -- a selected field cell has the values that x has too
  own : (f v : ℕ) → S f v ≡ true → S x v ≡ true → (ds : List ℕ) → Reaches S axes cells ds (Field f) → Supported S (lookup_rule x axes cells) f v
  own f v s in_x ds reach =
      supports f v v base reach in_x s base_sound
      (line_at_cell S x v axes cells ds (Field f) base apart reach in_x s base_sound f (reached_field reach) ∙ cond-true (eqb f f) v (base f) (eq-eqb f f refl))

  -- each value left of a field cell is supported
  pub cell_exact : (hits : Hits) → Tells hits (Hit S (S x) (Reaches S axes cells)) → (f v : ℕ) → In f (cell_fields cells) → cell_new hits S x f v ≡ true → Supported S (lookup_rule x axes cells) f v
  cell_exact Nothing told f v h s = absurd (false≢true s)
  cell_exact (Only (Constant k)) told f v h s = free f v h s told.0 (Constant k) told.1 (λ e. let z : ◌≡◌ {A = ℕ} 0 1 = cc in omega arith)
  cell_exact (Only (Field g)) told f v h s =
      ⊎_elim
      (λ e.
      let parts = and_parts (S f v) (S x v) (sym (cond-true (eqb f g) (S f v && S x v) (S f v) (eq-eqb f g e)) ∙ s) in
      own f v parts.0 parts.1 told.0 (subst (λ u. Reaches S axes cells told.0 (Field u)) (sym e) told.1.0))
      (λ ne. free f v h (sym (cond-false (eqb f g) (S f v && S x v) (S f v) (ne_eqb f g ne)) ∙ s) told.0 (Field g) told.1 (λ e. ne (cc)))
      (cases_eq f g)
  cell_exact Several told f v h s =
      ⊎_elim
      (λ e. ⊎_elim
      (λ d. absurd (told.6 (one_place axes (subst (Reaches S axes cells told.0) e told.4.0) (subst (Reaches S axes cells told.2) d told.5.0) (second_distinct (axis_fields axes) (cell_fields cells) apart.1))))
      (λ other. free f v h s told.2 told.3 told.5 other)
      (holds_field told.3 f))
      (λ other. free f v h s told.0 told.1 told.4 other)
      (holds_field told.1 f)

-- each supported value of a field cell is left
pub cell_exact_back : (S : Sets) (x : ℕ) (axes : List Axis) (cells : List Cell) → length cells ≡ room axes → (hits : Hits) → Tells hits (Hit S (S x) (Reaches S axes cells))
    → (f v : ℕ) → In f (cell_fields cells) → Supported S (lookup_rule x axes cells) f v → cell_new hits S x f v ≡ true
cell_exact_back S x axes cells long hits told f v h s = go hits told
  where
    in_f : S f v ≡ true
    in_f = subst (λ w. S f w ≡ true) s.gives (s.inside f (cell_in_scope x axes cells f h))

    F : FromLine S x axes cells s.line
    F = from_line S x axes cells long s

    hit : Hit S (S x) (Reaches S axes cells) F.ds F.c
    hit = line_hits S x axes cells long F

    go : (hits : Hits) → Tells hits (Hit S (S x) (Reaches S axes cells)) → cell_new hits S x f v ≡ true
    go Nothing told = absurd (told F.ds F.c hit)
    go (Only (Constant k)) told = in_f
    go (Only (Field g)) told =
        ⊎_elim
        (λ e.
        let is : F.c ≡ Field f = one_cell F.reach told.1.0 (told.2 F.ds F.c hit) ∙ ap Field (sym e) in
        let at_x : s.line x ≡ v = sym F.value ∙ ap (cell_value s.line) is ∙ s.gives in
        cond-true (eqb f g) (S f v && S x v) (S f v) (eq-eqb f g e) ∙ and_from (S f v) (S x v) in_f (subst (λ w. S x w ≡ true) at_x F.in_x))
        (λ ne. cond-false (eqb f g) (S f v && S x v) (S f v) (ne_eqb f g ne) ∙ in_f)
        (cases_eq f g)
    go Several told = in_f

-- ---- x and the axes, after a pass that began with their own rows

module _ {R : Type 0} (values : R → Values) (S : Sets) (x : ℕ) (axes : List Axis) (cells : List Cell) (before after : Rests R) (hits : Hits)
    (swept : Swept values S (S x) 0 (length axes) (Reaches S axes cells) before after hits) where
  -- each value that the pass took out of x is supported
  pub x_exact : Distinct (table_scope x axes cells) → ((f : ℕ) → In f (cell_fields cells) → (w : ℕ) × (S f w ≡ true)) → ((v : ℕ) → values before.x v ≡ S x v)
      → (v : ℕ) → (S x v && not (values after.x v)) ≡ true → Supported S (lookup_rule x axes cells) x v
  x_exact apart filled startx v e =
      let parts = and_parts (S x v) (not (values after.x v)) e in
      ⊎_elim
      (λ gone. absurd (both_ways (S x v) (sym (startx v) ∙ gone) parts.0))
      (λ t. supports S x axes cells apart filled x v v (base S x axes cells apart filled) t.2 parts.0 t.3 (base_sound S x axes cells apart filled) (line_x x v axes t.0 t.1 (base S x axes cells apart filled)))
      (swept.x_lost v (not-true (values after.x v) parts.1))

  -- and each supported value of x was taken out
  pub x_exact_back : length cells ≡ room axes → (v : ℕ) → Supported S (lookup_rule x axes cells) x v → (S x v && not (values after.x v)) ≡ true
  x_exact_back long v s =
      let F = from_line S x axes cells long s in
      let gone : values after.x (s.line x) ≡ false = swept.x_gone F.ds F.c (s.line x) F.reach F.has in
      subst (λ w. (S x w && not (values after.x w)) ≡ true) s.gives
      (and_from (S x (s.line x)) (not (values after.x (s.line x))) F.in_x (not_from_false (values after.x (s.line x)) gone))

  -- each index that the pass took out of an axis is supported
  pub axis_exact : Distinct (table_scope x axes cells) → ((f : ℕ) → In f (cell_fields cells) → (w : ℕ) × (S f w ≡ true))
      → ((l w : ℕ) → unmarked before.axes l w ≡ true)
      → (j w : ℕ) → j < length axes → (S (get_or (axis_fields axes) j 0) w && not (unmarked after.axes j w)) ≡ true → Supported S (lookup_rule x axes cells) (get_or (axis_fields axes) j 0) w
  axis_exact apart filled fresh j w l e =
      let g : ℕ = get_or (axis_fields axes) j 0 in
      let parts = and_parts (S g w) (not (unmarked after.axes j w)) e in
      let b = base S x axes cells apart filled in
      let sound = base_sound S x axes cells apart filled in
      ⊎_elim
      (λ gone. absurd (both_ways (unmarked before.axes j w) gone (fresh j w)))
      (λ t.
      let u : ℕ = t.3.1.0 in
      let met = and_parts (S x u) (cell_has S t.1 u) t.3.1.1 in
      let place : t.2 ≡ j = omega arith in
      let at_j : get_or t.0 j 0 ≡ w = ap (λ i. get_or t.0 i 0) (sym place) ∙ t.6 in
      supports S x axes cells apart filled g w u b t.3.0 met.0 met.1 sound
      (sym (index_at axes (line_of x u axes t.0 t.1 b) j l) ∙ ap (λ ds. get_or ds j 0) (line_indices S x u axes cells t.0 t.1 b apart t.3.0 met.0 met.1 sound) ∙ at_j))
      (swept.axis_lost j w (not-true (unmarked after.axes j w) parts.1))

  -- and each supported index was taken out
  pub axis_exact_back : length cells ≡ room axes → (j w : ℕ) → j < length axes → Supported S (lookup_rule x axes cells) (get_or (axis_fields axes) j 0) w
      → (S (get_or (axis_fields axes) j 0) w && not (unmarked after.axes j w)) ≡ true
  axis_exact_back long j w l s =
      let g : ℕ = get_or (axis_fields axes) j 0 in
      let F = from_line S x axes cells long s in
      let at_j : get_or F.ds j 0 ≡ w = ap (λ ds. get_or ds j 0) F.same ∙ index_at axes s.line j l ∙ s.gives in
      let gone : unmarked after.axes j w ≡ false = sym (ap₂ (unmarked after.axes) (zero-add j) at_j) ∙ swept.axis_gone F.ds F.c j (line_hits S x axes cells long F) l in
      and_from (S g w) (not (unmarked after.axes j w))
      (subst (λ u. S g u ≡ true) s.gives (s.inside g (axis_in_scope x axes cells g (axis_at axes j l))))
      (not_from_false (unmarked after.axes j w) gone)
