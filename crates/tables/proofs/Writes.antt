-- The rows of a table, written one by one. Assumes nothing.
use Rattle.std.proofs.Common.{◌≡◌, ℕ, ◌+◌, ◌<◌, Bool, false, not, ◌&&◌, ◌||◌, ltb, List, [], ◌∷◌, ◌++◌, length, get_or, take, drop, set, Decides, sym, ap, ◌∙◌, subst, ap₂, inl, inr, arith, length-drop}
use Rattle.std.proofs.lemmas.List.{length-map, get_or-map, take-map, map_more, drop_more}
use Rattle.std.proofs.Math.Bool.{not-not}
use Rattle.rows.specs.Values.{Values}
use Rattle.rules.specs.Books.{sets, Loses}
use Rattle.rules.specs.Rules.{Sets, In, Distinct}
use Rattle.rules.proofs.Fields.{front_apart}
use Rattle.rules.specs.Writes.{Written, OwnRows}
use Rattle.rules.proofs.WrittenBack.{one_written, written_append, still_old}
use Rattle.tables.specs.declared.record.Axis.{Axis}
use Rattle.tables.specs.Scans.{Marks, unmarked}
use Rattle.tables.proofs.Blocks.{no_axis}
use Rattle.tables.proofs.Exact.{axis_at}
use Rattle.tables.proofs.Lines.{axis_fields}

-- one field more is written
more : {R : Type 0} (values : R → Values) (new : Sets) (xs : List ℕ) (f : ℕ) (before after after' : List R) (changed lost : Bool) (row : R) → (In f xs → ⊥) → f < length before
    → Written values new xs (length xs) before after changed → ((v : ℕ) → values row v ≡ new f v) → after' ≡ set after f row → Decides lost (Loses values after f (values row))
    → Written values new (xs ++ f ∷ []) (length (xs ++ f ∷ [])) before after' (changed || lost)
more values new xs f before after after' changed lost row fresh below w reads is loss =
    written_append values new xs (f ∷ []) before after after' changed lost
    (λ g h k. elim k [ inl e ↦ fresh (subst (λ u. In u xs) e h) | inr none ↦ none ]) w
    (one_written values new f row after after' lost (subst (λ n. f < n) (sym w.long) below) reads is loss)

module _ (axes : List Axis) (i : ℕ) (within : i < length axes) where
  -- the field of the axis at place i
  pub field_is : get_or (axis_fields axes) i 0 ≡ (get_or axes i no_axis).field
  field_is = get_or-map (λ ax. ax.field) axes i no_axis 0 within

  pub field_in : In (get_or axes i no_axis).field (axis_fields axes)
  field_in = subst (λ f. In f (axis_fields axes)) field_is (axis_at axes i within)

  -- it is not among the earlier ones
  field_fresh : Distinct (axis_fields axes) → In (get_or axes i no_axis).field (axis_fields (take i axes)) → ⊥
  field_fresh apart h =
      let long : i < length (axis_fields axes) = omega (arith, length-map axes (λ ax. ax.field)) in
      let same : (get_or axes i no_axis).field ≡ get_or (axis_fields axes) i 0 = sym field_is in
      front_apart (axis_fields axes) i 0 long apart (subst (λ f. In f (take i (axis_fields axes))) same (subst (In (get_or axes i no_axis).field) (sym (take-map (λ ax. ax.field) i axes)) h))

  module _ {R : Type 0} (values : R → Values) (new : Sets) (before after : List R) (changed : Bool) (own : OwnRows (axis_fields axes) (length before))
      (w : Written values new (axis_fields (take i axes)) (length (axis_fields (take i axes))) before after changed) where
    -- the row of axis i is the one of the start
    pub axis_not_yet : (v : ℕ) → sets values after (get_or axes i no_axis).field v ≡ sets values before (get_or axes i no_axis).field v
    axis_not_yet v = still_old values new (axis_fields (take i axes)) before after changed w (get_or axes i no_axis).field v (field_fresh own.distinct)

    -- and gets its new set
    pub axis_written : (after' : List R) (lost : Bool) (row : R) → ((v : ℕ) → values row v ≡ new (get_or axes i no_axis).field v)
        → after' ≡ set after (get_or axes i no_axis).field row → Decides lost (Loses values after (get_or axes i no_axis).field (values row))
        → Written values new (axis_fields (take (i + 1) axes)) (length (axis_fields (take (i + 1) axes))) before after' (changed || lost)
    axis_written after' lost row reads is loss =
        subst (λ xs. Written values new xs (length xs) before after' (changed || lost)) (sym (map_more (λ ax. ax.field) axes i no_axis within))
        (more values new (axis_fields (take i axes)) (get_or axes i no_axis).field before after after' changed lost row (field_fresh own.distinct) (own.below _ field_in) w reads is loss)

-- what comes next of a list that is taken from the front
pub taken_at : {X : Type 0} (xs rest : List X) (i : ℕ) (x d : X) → x ∷ rest ≡ drop i xs → (i < length xs) × (get_or xs i d ≡ x) × (rest ≡ drop (i + 1) xs)
taken_at xs rest i x d is =
    let within : i < length xs = omega (arith, ap length is, length-drop i xs) in
    let both : x ∷ rest ≡ get_or xs i d ∷ drop (i + 1) xs = is ∙ drop_more xs i d within in
    (within, cc, cc)

-- the values that are kept at a level are those that are not unmarked there
pub kept_marks : (marks : Marks) (i : ℕ) (indices : List Bool) → get_or marks i [] ≡ indices → (a b : Bool) → a ≡ b → (v : ℕ) → (a && (ltb v 256 && get_or indices v false)) ≡ (b && not (unmarked marks i v))
kept_marks marks i indices is a b same v =
    ap₂ ◌&&◌ same (ap (λ row. ltb v 256 && get_or row v false) (sym is) ∙ sym (not-not (ltb v 256 && get_or (get_or marks i []) v false)))
