-- Narrowed sets that have a line are closed under the rules for an array constraint. Assumes nothing.
use Rattle.std.proofs.Common.{◌≡◌, ℕ, true, List, length, get_or, sym, refl, ap, ◌∙◌, subst, inl}
use Rattle.std.proofs.lemmas.Bool.{eqb-true}
use Rattle.rules.specs.Rules.{Sets, In, Distinct, Allowed, Supported, Narrowed}
use Rattle.tables.specs.declared.record.Axis.{Axis}
use Rattle.tables.specs.declared.record.Cell.{Cell}
use Rattle.tables.specs.declared.record.Cell.TheVariants.{Constant, Field}
use Rattle.tables.specs.Closure.{Closed}
use Rattle.tables.specs.Reads.{room, cell_value, table_scope, lookup_rule}
use Rattle.tables.specs.Scans.{cell_has, Reaches}
use Rattle.tables.proofs.Picking.{axis_in_scope, cell_in_scope}
use Rattle.tables.proofs.Lines.{axis_fields, reached_field}
use Rattle.tables.proofs.Exact.{from_line, line_selects, line_hits, index_at, axis_at, one_cell}

module _ (S S' : Sets) (x : ℕ) (axes : List Axis) (cells : List Cell) (narrowed : Narrowed (lookup_rule x axes cells) S S') where
  -- the values of an allowed line are left
  line_left : (a : ℕ → ℕ) → ((g : ℕ) → In g (table_scope x axes cells) → S g (a g) ≡ true) → Allowed (lookup_rule x axes cells) a → (g : ℕ) → In g (table_scope x axes cells) → S' g (a g) ≡ true
  line_left a inside allowed g h = narrowed.kept g (a g) h (record { line = a; gives = refl; inside = inside; allowed = allowed })

  -- so each value left stands in a line of values left
  still : (f v : ℕ) → In f (table_scope x axes cells) → S' f v ≡ true → Supported S' (lookup_rule x axes cells) f v
  still f v h e =
      let s = narrowed.left f v h e in
      record { line = s.line; gives = s.gives; inside = line_left s.line s.inside s.allowed; allowed = s.allowed }

  -- where one index is left, its cell lies within x
  within : length cells ≡ room axes → (a : ℕ → ℕ) → ((g : ℕ) → In g (table_scope x axes cells) → S g (a g) ≡ true) → Allowed (lookup_rule x axes cells) a
      → (ds : List ℕ) (c : Cell) → Reaches S' axes cells ds c → ((es : List ℕ) (e : Cell) → Reaches S' axes cells es e → es ≡ ds) → (v : ℕ) → cell_has S' c v ≡ true → S' x v ≡ true
  within long a inside allowed ds (Constant k) reach only v h =
      let F = line_selects S' x axes cells long a (line_left a inside allowed) allowed in
      let is : F.c ≡ Constant k = one_cell F.reach reach (only F.ds F.c F.reach) in
      let at_x : a x ≡ v = sym F.value ∙ ap (cell_value a) is ∙ sym (eqb-true v k h) in
      subst (λ w. S' x w ≡ true) at_x F.in_x
  within long a inside allowed ds (Field f) reach only v h =
      let s = still f v (cell_in_scope x axes cells f (reached_field reach)) h in
      let F = from_line S' x axes cells long s in
      let is : F.c ≡ Field f = one_cell F.reach reach (only F.ds F.c F.reach) in
      let at_x : s.line x ≡ v = sym F.value ∙ ap (cell_value s.line) is ∙ s.gives in
      subst (λ w. S' x w ≡ true) at_x F.in_x

-- narrowed sets that have a line are closed
pub closes : (S S' : Sets) (x : ℕ) (axes : List Axis) (cells : List Cell) → length cells ≡ room axes → Distinct (table_scope x axes cells) → Narrowed (lookup_rule x axes cells) S S'
    → (a : ℕ → ℕ) → ((g : ℕ) → In g (table_scope x axes cells) → S g (a g) ≡ true) → Allowed (lookup_rule x axes cells) a → Closed S' x axes cells
closes S S' x axes cells long apart narrowed a inside allowed = record {
  x_in_cells = λ v e.
      let s = still S S' x axes cells narrowed x v (inl refl) e in
      let F = from_line S' x axes cells long s in
      (F.ds, F.c, F.reach, subst (λ w. cell_has S' F.c w ≡ true) s.gives F.has);
  index_meets = λ j w l e.
      let g : ℕ = get_or (axis_fields axes) j 0 in
      let s = still S S' x axes cells narrowed g w (axis_in_scope x axes cells g (axis_at axes j l)) e in
      let F = from_line S' x axes cells long s in
      (F.ds, F.c, F.reach, ap (λ ds. get_or ds j 0) F.same ∙ index_at axes s.line j l ∙ s.gives, (line_hits S' x axes cells long F).1);
  last_cell = within S S' x axes cells narrowed long a inside allowed;
}
