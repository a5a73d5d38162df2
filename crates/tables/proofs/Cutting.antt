-- The rows of x, of the axes and of the only hit, cut one after the other. Assumes nothing.
use Rattle.std.proofs.Common.{◌≡◌, ℕ, ◌<◌, Bool, not, ◌&&◌, ◌||◌, eqb, List, [], ◌∷◌, ◌++◌, length, set, Decides, sym, refl, ap, ◌∙◌, subst, ap₂, inl, inr, arith, length-set}
use Rattle.std.proofs.lemmas.List.{append-nil}
use Rattle.std.proofs.lemmas.Bool.{cond-true, eq-eqb}
use Rattle.rows.specs.Values.{Values}
use Rattle.rules.specs.Books.{sets, Loses}
use Rattle.rules.specs.Rules.{In}
use Rattle.rules.specs.Writes.{Written, OwnRows}
use Rattle.rules.proofs.Lists.{halves_apart, in_first, in_second, first_distinct}
use Rattle.rules.proofs.WrittenBack.{one_written, written_append, written_same, still_old}
use Rattle.tables.specs.declared.found.Hits.{Hits}
use Rattle.tables.specs.declared.found.Hits.TheVariants.{Only}
use Rattle.tables.specs.declared.record.Axis.{Axis}
use Rattle.tables.specs.declared.record.Cell.TheVariants.{Field}
use Rattle.tables.specs.declared.found.Rests.{Rests}
use Rattle.tables.specs.Left.{axes_left, cell_left, table_left, hit_fields, cut_scope}
use Rattle.tables.proofs.LeftExact.{axes_agree, left_x, left_other, left_cell}
use Rattle.tables.proofs.Lines.{axis_fields}

module _ {R : Type 0} (values : R → Values) (rests : Rests R) (hits : Hits) (x : ℕ) (axes : List Axis) (before : List R) (own : OwnRows (cut_scope x axes hits) (length before)) where
  -- the axes have their rows once x is written
  pub axes_own : (row : R) (first : List R) → first ≡ set before x row → OwnRows (axis_fields axes) (length first)
  axes_own row first is =
      let long : length first ≡ length before = ap length is ∙ length-set before x row in
      record {
        below = λ f h. omega (arith, long, own.below f (inr (in_first (axis_fields axes) (hit_fields hits) f h)));
        distinct = first_distinct (axis_fields axes) (hit_fields hits) own.distinct.1;
      }

  -- the only hit has its row
  pub hit_below : (f : ℕ) → hits ≡ Only (Field f) → f < length before
  hit_below f e = own.below f (inr (in_second (axis_fields axes) (hit_fields hits) f (subst (λ h. In f (hit_fields h)) (sym e) (inl refl))))

  module _ (row cut : R) (first second : List R) (lost-x lost-axes : Bool) (reads : (v : ℕ) → sets values before x v ≡ values row v)
      (less : (v : ℕ) → values cut v ≡ (values row v && not (values rests.x v))) (is : first ≡ set before x cut) (loss : Decides lost-x (Loses values before x (values cut)))
      (w : Written values (axes_left rests.axes (sets values first) (sets values first) axes 0) (axis_fields axes) (length (axis_fields axes)) first second lost-axes) where
    x_written : Written values (table_left values rests hits (sets values before) x axes) (x ∷ []) 1 before first lost-x
    x_written = one_written values (table_left values rests hits (sets values before) x axes) x cut before first lost-x (own.below x (inl refl))
        (λ v. less v ∙ ap (λ b. b && not (values rests.x v)) (sym (reads v)) ∙ sym (left_x values rests hits (sets values before) x axes v)) is loss

    -- an axis is not x
    other : (f : ℕ) → In f (axis_fields axes) → f ≡ x → ⊥
    other f h e = own.distinct.0 (in_first (axis_fields axes) (hit_fields hits) x (subst (λ u. In u (axis_fields axes)) e h))

    -- x and the axes are cut
    pub front_written : Written values (table_left values rests hits (sets values before) x axes) (x ∷ axis_fields axes) (length (x ∷ axis_fields axes)) before second (lost-x || lost-axes)
    front_written =
        written_append values (table_left values rests hits (sets values before) x axes) (x ∷ []) (axis_fields axes) before first second lost-x lost-axes
        (λ f h k. elim h [ inl e ↦ other f k e | inr none ↦ none ]) x_written
        (written_same values (axes_left rests.axes (sets values first) (sets values first) axes 0) (table_left values rests hits (sets values before) x axes) (axis_fields axes) first second lost-axes
        (λ f v h.
        axes_agree rests.axes (sets values first) (sets values before) (sets values first) (cell_left hits (sets values before) x) axes 0 f v h
        (still_old values (table_left values rests hits (sets values before) x axes) (x ∷ []) before first lost-x x_written f v (λ k. elim k [ inl e ↦ other f h e | inr none ↦ none ]))
        ∙ sym (left_other values rests hits (sets values before) x axes f v (other f h)))
        w)

    -- no other row is cut where no field is the only hit
    pub no_hit_cut : hit_fields hits ≡ []
        → Written values (table_left values rests hits (sets values before) x axes) (cut_scope x axes hits) (length (cut_scope x axes hits)) before second (lost-x || lost-axes)
    no_hit_cut none =
        subst (λ fs. Written values (table_left values rests hits (sets values before) x axes) (x ∷ fs) (length (x ∷ fs)) before second (lost-x || lost-axes))
        (sym (ap (λ hs. axis_fields axes ++ hs) none ∙ append-nil (axis_fields axes))) front_written

    -- the only hit is cut to what it shares with x
    pub hit_cut : (f : ℕ) → hits ≡ Only (Field f) → (old left : R) (third : List R) (lost : Bool) → ((v : ℕ) → sets values second f v ≡ values old v)
        → ((v : ℕ) → values left v ≡ (values old v && values row v)) → third ≡ set second f left → Decides lost (Loses values second f (values left))
        → Written values (table_left values rests hits (sets values before) x axes) (cut_scope x axes hits) (length (cut_scope x axes hits)) before third ((lost-x || lost-axes) || lost)
    hit_cut f e old left third lost here shared is-third loss-third =
        subst (λ hs. Written values (table_left values rests hits (sets values before) x axes) (x ∷ (axis_fields axes ++ hs)) (length (x ∷ (axis_fields axes ++ hs))) before third ((lost-x || lost-axes) || lost))
        (sym only)
        (written_append values (table_left values rests hits (sets values before) x axes) (x ∷ axis_fields axes) (f ∷ []) before second third (lost-x || lost-axes) lost
        (λ g h k. elim k [ inl s ↦ apart (subst (λ u. In u (x ∷ axis_fields axes)) s h) | inr none ↦ none ]) front_written
        (one_written values (table_left values rests hits (sets values before) x axes) f left second third lost
        (subst (λ n. f < n) (sym front_written.long) (hit_below f e))
        (λ v. shared v
        ∙ ap₂ ◌&&◌ (sym (here v) ∙ still_old values (table_left values rests hits (sets values before) x axes) (x ∷ axis_fields axes) before second (lost-x || lost-axes) front_written f v apart) (sym (reads v))
        ∙ sym (cond-true (eqb f f) _ _ (eq-eqb f f refl))
        ∙ ap (λ h. cell_left h (sets values before) x f v) (sym e)
        ∙ sym (left_cell values rests hits (sets values before) x axes f v (λ s. apart (inl s)) (λ h. apart (inr h))))
        is-third loss-third))
      where
        only : hit_fields hits ≡ f ∷ []
        only = ap hit_fields e

        apart : In f (x ∷ axis_fields axes) → ⊥
        apart h = halves_apart (x ∷ axis_fields axes) (hit_fields hits) own.distinct f h (subst (λ hs. In f hs) (sym only) (inl refl))
