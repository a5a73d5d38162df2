-- What is left of a table's rows is exactly what is supported. Assumes nothing.
use Rattle.std.proofs.Common.{◌≡◌, ℕ, zero, suc, ◌+◌, ◌<◌, Bool, true, not, ◌&&◌, eqb, List, [], ◌∷◌, ◌++◌, length, get_or, sym, refl, ap, ◌∙◌, subst, inl, inr, ⊎_elim, arith}
use mathlib.Core.Path.{fun_ext}
use Rattle.std.proofs.lemmas.List.{length-map}
use Rattle.std.proofs.lemmas.Bool.{cases_eq, cond-true, cond-false, eq-eqb, ne_eqb, false≢true}
use Rattle.rows.specs.Values.{Values}
use Rattle.rules.specs.Books.{sets, Narrowing}
use Rattle.rules.specs.Rules.{Sets, In, Distinct, Supported}
use Rattle.rules.specs.Writes.{Written, OwnRows, none_left}
use Rattle.rules.proofs.Lists.{in_either, in_first, in_second, halves_apart, first_distinct}
use Rattle.rules.proofs.WrittenBack.{all_written, some_written}
use Rattle.tables.specs.declared.found.Hits.{Hits}
use Rattle.tables.specs.declared.found.Hits.TheVariants.{Nothing, Only, Several}
use Rattle.tables.specs.Scans.{Marks}
use Rattle.tables.specs.declared.record.Axis.{Axis}
use Rattle.tables.specs.declared.record.Cell.{Cell}
use Rattle.tables.specs.declared.record.Cell.TheVariants.{Constant, Field}
use Rattle.tables.specs.Left.{axes_left, cell_left, table_left, hit_fields, cut_scope}
use Rattle.tables.specs.Reads.{room, cell_fields, table_scope, lookup_rule}
use Rattle.tables.specs.declared.found.Rests.{Rests}
use Rattle.tables.specs.Scans.{unmarked, Reaches, Hit, Tells, Swept, Scannable}
use Rattle.tables.proofs.Exact.{axis_at, cell_new, no_hits, cell_exact, cell_exact_back, x_exact, x_exact_back, axis_exact, axis_exact_back}
use Rattle.tables.proofs.Lines.{axis_fields, reached_field}
use Rattle.tables.proofs.Picking.{cell_in_scope}

-- the place of a field in a list
place : (xs : List ℕ) (f : ℕ) → In f xs → (i : ℕ) × (i < length xs) × (get_or xs i 0 ≡ f)
place [] f h = absurd h
place (x ∷ xs) f (inl e) = (0, omega arith, sym e)
place (x ∷ xs) f (inr h) = let t = place xs f h in (suc t.0, omega (arith, t.1), t.2)

module _ (rests : Marks) where
  -- what is left of the axis at place i
  pub axes_at : (S told : Sets) (axes : List Axis) (j i v : ℕ) → i < length axes → Distinct (axis_fields axes)
      → axes_left rests S told axes j (get_or (axis_fields axes) i 0) v ≡ (S (get_or (axis_fields axes) i 0) v && not (unmarked rests (j + i) v))
  axes_at S told [] j i v h apart = absurd (omega arith)
  axes_at S told (ax ∷ axes) j zero v h apart =
      let same : j ≡ j + 0 = omega arith in
      cond-true (eqb ax.field ax.field) _ _ (eq-eqb ax.field ax.field refl) ∙ ap (λ k. S ax.field v && not (unmarked rests k v)) same
  axes_at S told (ax ∷ axes) j (suc i) v h apart =
      let f : ℕ = get_or (axis_fields axes) i 0 in
      let same : suc j + i ≡ j + suc i = omega arith in
      let l : i < length axes = omega arith in
      cond-false (eqb f ax.field) _ _ (ne_eqb f ax.field (λ e. apart.0 (subst (λ u. In u (axis_fields axes)) e (axis_at axes i l))))
      ∙ axes_at S told axes (suc j) i v l apart.1
      ∙ ap (λ k. S f v && not (unmarked rests k v)) same

  -- a field that is no axis
  pub axes_off : (S told : Sets) (axes : List Axis) (j f v : ℕ) → (In f (axis_fields axes) → ⊥) → axes_left rests S told axes j f v ≡ told f v
  axes_off S told [] j f v h = refl
  axes_off S told (ax ∷ axes) j f v h =
      cond-false (eqb f ax.field) _ _ (ne_eqb f ax.field (λ e. h (inl e))) ∙ axes_off S told axes (suc j) f v (λ k. h (inr k))

  -- at an axis, only its own set counts
  pub axes_agree : (S S' told told' : Sets) (axes : List Axis) (j f v : ℕ) → In f (axis_fields axes) → S f v ≡ S' f v → axes_left rests S told axes j f v ≡ axes_left rests S' told' axes j f v
  axes_agree S S' told told' [] j f v h e = absurd h
  axes_agree S S' told told' (ax ∷ axes) j f v h e =
      ⊎_elim
      (λ here. cond-true (eqb f ax.field) _ _ (eq-eqb f ax.field here) ∙ ap (λ b. b && not (unmarked rests j v)) e ∙ sym (cond-true (eqb f ax.field) _ _ (eq-eqb f ax.field here)))
      (λ other. cond-false (eqb f ax.field) _ _ (ne_eqb f ax.field other)
      ∙ axes_agree S S' told told' axes (suc j) f v (elim h [ inl k ↦ absurd (other k) | inr k ↦ k ]) e
      ∙ sym (cond-false (eqb f ax.field) _ _ (ne_eqb f ax.field other)))
      (cases_eq f ax.field)

module _ {R : Type 0} (values : R → Values) (rests : Rests R) (hits : Hits) (S : Sets) (x : ℕ) (axes : List Axis) where
  -- what is left of x
  pub left_x : (v : ℕ) → table_left values rests hits S x axes x v ≡ (S x v && not (values rests.x v))
  left_x v = cond-true (eqb x x) _ _ (eq-eqb x x refl)

  -- of a field other than x
  pub left_other : (f v : ℕ) → (f ≡ x → ⊥) → table_left values rests hits S x axes f v ≡ axes_left rests.axes S (cell_left hits S x) axes 0 f v
  left_other f v other = cond-false (eqb f x) _ _ (ne_eqb f x other)

  -- of the axis at place i
  left_axis : (i v : ℕ) → i < length axes → (In x (axis_fields axes) → ⊥) → Distinct (axis_fields axes)
      → table_left values rests hits S x axes (get_or (axis_fields axes) i 0) v ≡ (S (get_or (axis_fields axes) i 0) v && not (unmarked rests.axes i v))
  left_axis i v l other apart =
      let same : 0 + i ≡ i = omega arith in
      left_other (get_or (axis_fields axes) i 0) v (λ e. other (subst (λ u. In u (axis_fields axes)) e (axis_at axes i l)))
      ∙ axes_at rests.axes S (cell_left hits S x) axes 0 i v l apart
      ∙ ap (λ k. S (get_or (axis_fields axes) i 0) v && not (unmarked rests.axes k v)) same

  -- of a field cell
  pub left_cell : (f v : ℕ) → (f ≡ x → ⊥) → (In f (axis_fields axes) → ⊥) → table_left values rests hits S x axes f v ≡ cell_left hits S x f v
  left_cell f v other off = left_other f v other ∙ axes_off rests.axes S (cell_left hits S x) axes 0 f v off

-- the two ways to tell what is left of a field cell
cell_same : (hits : Hits) (S : Sets) (x f v : ℕ) → cell_left hits S x f v ≡ cell_new hits S x f v
cell_same Nothing S x f v = refl
cell_same (Only (Constant k)) S x f v = refl
cell_same (Only (Field g)) S x f v = refl
cell_same Several S x f v = refl

-- a field cell that is not the only hit keeps its set
cell_kept : (hits : Hits) (S : Sets) (x f v : ℕ) → (hits ≡ Nothing → ⊥) → (In f (hit_fields hits) → ⊥) → cell_left hits S x f v ≡ S f v
cell_kept Nothing S x f v some off = absurd (some refl)
cell_kept (Only (Constant k)) S x f v some off = refl
cell_kept (Only (Field g)) S x f v some off = cond-false (eqb f g) _ _ (ne_eqb f g (λ e. off (inl e)))
cell_kept Several S x f v some off = refl

-- the only hit is a cell of the table
hit_in : (S : Sets) (X : Values) (axes : List Axis) (cells : List Cell) (hits : Hits) → Tells hits (Hit S X (Reaches S axes cells)) → (f : ℕ) → In f (hit_fields hits) → In f (cell_fields cells)
hit_in S X axes cells Nothing told f h = absurd h
hit_in S X axes cells (Only (Constant k)) told f h = absurd h
hit_in S X axes cells (Only (Field g)) told f (inl e) = subst (λ u. In u (cell_fields cells)) (sym e) (reached_field told.1.0)
hit_in S X axes cells (Only (Field g)) told f (inr h) = absurd h
hit_in S X axes cells Several told f h = absurd h

one_hit : (hits : Hits) → Distinct (hit_fields hits)
one_hit Nothing = tt
one_hit (Only (Constant k)) = tt
one_hit (Only (Field g)) = (λ k. k, tt)
one_hit Several = tt

-- fewer fields behind a front
fewer_in : (xs ys zs : List ℕ) → ((f : ℕ) → In f zs → In f ys) → (f : ℕ) → In f (xs ++ zs) → In f (xs ++ ys)
fewer_in xs ys zs sub f h = ⊎_elim (in_first xs ys f) (λ k. in_second xs ys f (sub f k)) (in_either xs zs f h)

fewer_apart : (xs ys zs : List ℕ) → ((f : ℕ) → In f zs → In f ys) → Distinct zs → Distinct (xs ++ ys) → Distinct (xs ++ zs)
fewer_apart [] ys zs sub few apart = few
fewer_apart (x ∷ xs) ys zs sub few apart = (λ k. apart.0 (fewer_in xs ys zs sub x k), fewer_apart xs ys zs sub few apart.1)

module _ {R : Type 0} (values : R → Values) (x : ℕ) (axes : List Axis) (cells : List Cell) (before : List R) (fits : Scannable 0 axes cells (length before)) (below : x < length before)
    (apart : Distinct (table_scope x axes cells)) where
  -- every field of the table has its row
  pub all_own : OwnRows (table_scope x axes cells) (length before)
  all_own = record {
    below = λ f h. elim h [
      | inl e ↦ subst (λ u. u < length before) (sym e) below
      | inr k ↦ ⊎_elim (fits.axis_rows f) (fits.cell_rows f) (in_either (axis_fields axes) (cell_fields cells) f k)
    ];
    distinct = apart;
  }

module _ {R : Type 0} (values : R → Values) (x : ℕ) (axes : List Axis) (cells : List Cell) (before : List R) (long : length cells ≡ room axes) (own : OwnRows (table_scope x axes cells) (length before)) where
  -- no value where nothing is supported
  pub dead_narrows : (after : List R) (changed : Bool) → ((f v : ℕ) → Supported (sets values before) (lookup_rule x axes cells) f v → ⊥)
      → Written values none_left (table_scope x axes cells) (length (table_scope x axes cells)) before after changed → Narrowing values (lookup_rule x axes cells) before after changed
  dead_narrows after changed none w =
      all_written values none_left (table_scope x axes cells) before (lookup_rule x axes cells) after changed refl w (λ f v h e. absurd (false≢true e)) (λ f v h s. absurd (none f v s))

  -- where a field cell has no value, nothing is supported
  pub unfilled : (((f : ℕ) → In f (cell_fields cells) → (v : ℕ) × (sets values before f v ≡ true)) → ⊥) → (f v : ℕ) → Supported (sets values before) (lookup_rule x axes cells) f v → ⊥
  unfilled not-all f v s = not-all (λ g h. (s.line g, s.inside g (cell_in_scope x axes cells g h)))

  module _ (row : R) (start rests : Rests R) (hits : Hits) (reads : (v : ℕ) → sets values before x v ≡ values row v)
      (swept : Swept values (sets values before) (values row) 0 (length axes) (Reaches (sets values before) axes cells) start rests hits) where
    -- the pass was made with the set of x
    by_x : Swept values (sets values before) (sets values before x) 0 (length axes) (Reaches (sets values before) axes cells) start rests hits
    by_x = subst (λ X. Swept values (sets values before) X 0 (length axes) (Reaches (sets values before) axes cells) start rests hits) (sym (fun_ext reads)) swept

    -- nothing is supported without a hit
    pub hitless : hits ≡ Nothing → (f v : ℕ) → Supported (sets values before) (lookup_rule x axes cells) f v → ⊥
    hitless none f v s = no_hits (sets values before) x axes cells long (subst (λ h. Tells h (Hit (sets values before) (sets values before x) (Reaches (sets values before) axes cells))) none by_x.told) s

    -- every field that is cut has its row
    pub cut_own : OwnRows (cut_scope x axes hits) (length before)
    cut_own = record {
      below = λ f h. own.below f (fewer_in (x ∷ axis_fields axes) (cell_fields cells) (hit_fields hits) (hit_in _ _ axes cells hits swept.told) f h);
      distinct = fewer_apart (x ∷ axis_fields axes) (cell_fields cells) (hit_fields hits) (hit_in _ _ axes cells hits swept.told) (one_hit hits) own.distinct;
    }

    -- exactly the supported values are left
    pub live_narrows : (after : List R) (changed : Bool) → (hits ≡ Nothing → ⊥) → ((f : ℕ) → In f (cell_fields cells) → (v : ℕ) × (sets values before f v ≡ true))
        → ((v : ℕ) → values start.x v ≡ sets values before x v) → ((l w : ℕ) → unmarked start.axes l w ≡ true)
        → Written values (table_left values rests hits (sets values before) x axes) (cut_scope x axes hits) (length (cut_scope x axes hits)) before after changed
        → Narrowing values (lookup_rule x axes cells) before after changed
    live_narrows after changed some filled start-x start-axes w =
        some_written values new (cut_scope x axes hits) before (lookup_rule x axes cells) after changed
        (fewer_in (x ∷ axis_fields axes) (cell_fields cells) (hit_fields hits) (hit_in _ _ axes cells hits swept.told))
        (λ f v h off. cell_of f v h off) w (λ f v h e. is_left f v h e) (λ f v h s. is_kept f v h s)
      where
        new : Sets
        new = table_left values rests hits (sets values before) x axes

        apart_axes : Distinct (axis_fields axes)
        apart_axes = first_distinct (axis_fields axes) (cell_fields cells) own.distinct.1

        x_no_axis : In x (axis_fields axes) → ⊥
        x_no_axis h = own.distinct.0 (in_first (axis_fields axes) (cell_fields cells) x h)

        not_x : (f : ℕ) → In f (cell_fields cells) → f ≡ x → ⊥
        not_x f h e = own.distinct.0 (in_second (axis_fields axes) (cell_fields cells) x (subst (λ u. In u (cell_fields cells)) e h))

        not_axis : (f : ℕ) → In f (cell_fields cells) → In f (axis_fields axes) → ⊥
        not_axis f h k = halves_apart (axis_fields axes) (cell_fields cells) own.distinct.1 f k h

        at_cell : (f v : ℕ) → In f (cell_fields cells) → new f v ≡ cell_new hits (sets values before) x f v
        at_cell f v h = left_cell values rests hits (sets values before) x axes f v (not_x f h) (not_axis f h) ∙ cell_same hits (sets values before) x f v

        cell_of : (f v : ℕ) → In f (table_scope x axes cells) → (In f (cut_scope x axes hits) → ⊥) → new f v ≡ sets values before f v
        cell_of f v (inl e) off = absurd (off (inl e))
        cell_of f v (inr h) off = ⊎_elim
            (λ k. absurd (off (inr (in_first (axis_fields axes) (hit_fields hits) f k))))
            (λ k. left_cell values rests hits (sets values before) x axes f v (not_x f k) (not_axis f k)
            ∙ cell_kept hits (sets values before) x f v some (λ j. off (inr (in_second (axis_fields axes) (hit_fields hits) f j))))
            (in_either (axis_fields axes) (cell_fields cells) f h)

        at_axis : (f : ℕ) → In f (axis_fields axes) → (i : ℕ) × (i < length axes) × (get_or (axis_fields axes) i 0 ≡ f)
        at_axis f h = let t = place (axis_fields axes) f h in (t.0, omega (arith, t.1, length-map axes (λ ax. ax.field)), t.2)

        is_left : (f v : ℕ) → In f (table_scope x axes cells) → new f v ≡ true → Supported (sets values before) (lookup_rule x axes cells) f v
        is_left f v (inl e) stays =
            subst (λ u. Supported (sets values before) (lookup_rule x axes cells) u v) (sym e)
            (x_exact values (sets values before) x axes cells start rests hits by_x own.distinct filled start-x v
            (sym (left_x values rests hits (sets values before) x axes v) ∙ subst (λ u. new u v ≡ true) e stays))
        is_left f v (inr h) stays = ⊎_elim
            (λ k. let t = at_axis f k in
            subst (λ u. Supported (sets values before) (lookup_rule x axes cells) u v) t.2
            (axis_exact values (sets values before) x axes cells start rests hits by_x own.distinct filled start-axes t.0 v t.1
            (sym (left_axis values rests hits (sets values before) x axes t.0 v t.1 x_no_axis apart_axes) ∙ subst (λ u. new u v ≡ true) (sym t.2) stays)))
            (λ k. cell_exact (sets values before) x axes cells own.distinct filled hits by_x.told f v k (sym (at_cell f v k) ∙ stays))
            (in_either (axis_fields axes) (cell_fields cells) f h)

        is_kept : (f v : ℕ) → In f (table_scope x axes cells) → Supported (sets values before) (lookup_rule x axes cells) f v → new f v ≡ true
        is_kept f v (inl e) s =
            subst (λ u. new u v ≡ true) (sym e)
            (left_x values rests hits (sets values before) x axes v
            ∙ x_exact_back values (sets values before) x axes cells start rests hits by_x long v (subst (λ u. Supported (sets values before) (lookup_rule x axes cells) u v) e s))
        is_kept f v (inr h) s = ⊎_elim
            (λ k. let t = at_axis f k in
            subst (λ u. new u v ≡ true) t.2
            (left_axis values rests hits (sets values before) x axes t.0 v t.1 x_no_axis apart_axes
            ∙ axis_exact_back values (sets values before) x axes cells start rests hits by_x long t.0 v t.1
            (subst (λ u. Supported (sets values before) (lookup_rule x axes cells) u v) (sym t.2) s)))
            (λ k. at_cell f v k ∙ cell_exact_back (sets values before) x axes cells long hits by_x.told f v k s)
            (in_either (axis_fields axes) (cell_fields cells) f h)
