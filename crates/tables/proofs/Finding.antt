-- The first field among the cells that an iterator has left. Assumes nothing.
use Rattle.std.proofs.Common.{◌≡◌, ℕ, suc, true, List, [], ◌∷◌, ◌++◌, map, length, Option, Some, None, Iter, sym, refl, ap, ◌∙◌, ap₂, subst, arith}
use Rattle.std.proofs.lemmas.List.{nil_from_length}
use denote.Param.Members.{Mut, Called}
use denote.Ref.{Bor}
use Rattle.std.specs.Bool.{IsTrue}
use Rattle.std.specs.Iterator.{Yields, FindsMapped, YieldsFirst, MakesProgress, item_count}
use Rattle.std.specs.Iterator.Runs.{Run, YieldsRun, SomeRun, AllItemsGive}
use Rattle.std.specs.List.{FoldsTo, slice_get, cons_option}
use Rattle.std.specs.Option.{MatchOption, IfSome}
use Rattle.std.specs.Slice.Iter.{iter_rest, iter_steps}
use Rattle.tables.specs.Cells.{held_field}
use Rattle.tables.specs.Reads.{cell_fields}
use Rattle.tables.specs.Scopes.{fields_left}
use Rattle.tables.specs.declared.scope.Scope.{Scope}
use Rattle.tables.specs.declared.record.Cell.{Cell}
use Rattle.tables.specs.declared.record.Cell.TheVariants.{Constant, Field}

-- the fields of a cell and of others
pub fields_first : (c : Cell) (cells : List Cell) → cell_fields (c ∷ cells) ≡ cons_option (held_field c) (cell_fields cells)
fields_first (Constant k) cells = refl
fields_first (Field f) cells = refl

-- no cell, no field
no_cells : (cells : List Cell) → length cells ≡ 0 → cell_fields cells ≡ []
no_cells [] none = refl
no_cells (c ∷ cells) none = absurd (omega arith)

-- where the cells that come hold no field, there is none
none_held : (items : List (Bor Cell)) (s t u : Iter Cell) → Yields iter_steps s items t → iter_steps t None u → ((k : ℕ) → IfSome (slice_get items k) (λ x. held_field x.now ≡ None)) → cell_fields (iter_rest s) ≡ []
none_held [] s t u came end none = ap (λ i. cell_fields (iter_rest i)) came ∙ no_cells (iter_rest t) end.0
none_held (x ∷ items) s t u came end none =
    ap cell_fields came.1 ∙ fields_first x.now (iter_rest came.0) ∙ ap (λ o. cons_option o (cell_fields (iter_rest came.0))) (none 0)
    ∙ none_held items came.0 t u came.2 end (λ k. none (suc k))

-- what holds of an item holds if more follows from it
if_some : {A : Type 0} (P Q : A → Type 0) (o : Option A) → ((x : A) → P x → Q x) → IfSome o P → IfSome o Q
if_some P Q None more p = p
if_some P Q (Some x) more p = more x p

-- a closure that answers the field of each cell, and stays as it is
module _ {F : Type 0} (g : Mut F (Bor Cell × Unit {0}) (Option ℕ)) (f : F) (told : (x : Bor Cell) (r : Option ℕ) (q : F) → Called g f (x, tt) r q → (q ≡ f) × (r ≡ held_field x.now)) where
  -- the cells that it answered `None` at hold no field
  passed : (xs : List (Bor Cell)) (s t : Iter Cell) (q : F) → Yields iter_steps s xs t → FoldsTo (λ p x r. Called g p (x, tt) None r) f xs q → (q ≡ f) × (cell_fields (iter_rest s) ≡ cell_fields (iter_rest t))
  passed [] s t q came folds = (sym folds, ap (λ i. cell_fields (iter_rest i)) came)
  passed (x ∷ xs) s t q came folds =
      let here = told x None folds.0 folds.1 in
      let rest = passed xs came.0 t q came.2 (subst (λ p. FoldsTo (λ p x r. Called g p (x, tt) None r) p xs q) here.0 folds.2) in (
        rest.0,
        ap cell_fields came.1 ∙ fields_first x.now (iter_rest came.0) ∙ ap (λ o. cons_option o (cell_fields (iter_rest came.0))) (sym here.1) ∙ rest.1,
      )

  -- where it answered so at all of them, no field is left
  none_found : (s : Iter Cell) (p : Run (iter_steps {A = Cell})) → p.from ≡ s → p.whole ≡ true → AllItemsGive p g f None → cell_fields (iter_rest s) ≡ []
  unfolding YieldsRun
  none_found s p from whole none =
      let each = none (λ a r q call. (told a.0 r q call).0) in
      let end = p.gave.0.2 whole in
      subst (λ i. cell_fields (iter_rest i) ≡ []) from
      (none_held p.items p.from p.gave.0.0 end.0 p.gave.0.1 end.1
      (λ k. if_some _ (λ x. held_field x.now ≡ None) (slice_get p.items k) (λ x call. sym (told x None f call).1) (subst (λ o. IfSome o (λ x. Called g f (x, tt) None f)) (p.gave.1 k) (each k))))

  -- the answer at the last cell
  last_found : (r : Option ℕ) (o : Option ℕ) (fs us : List ℕ) → r ≡ o → fs ≡ cons_option o us → (r ≡ None → fs ≡ []) → MatchOption r ((fs ≡ []) × (us ≡ [])) (λ y. fs ≡ y ∷ us)
  last_found None None fs us same is none = (none refl, sym is ∙ none refl)
  last_found None (Some z) fs us same is none = cc
  last_found (Some y) None fs us same is none = cc
  last_found (Some y) (Some z) fs us same is none = cc

  -- `find_map` gives the first field, and leaves the others
  pub first_found : (s u : Iter Cell) (r : Option ℕ) (Q : Run (iter_steps {A = Cell}) → ℕ → Type 0) → FindsMapped iter_steps g s f r u → SomeRun iter_steps s (λ p. MatchOption r (IsTrue p.whole × AllItemsGive p g f None) (Q p))
      → MatchOption r ((cell_fields (iter_rest s) ≡ []) × (cell_fields (iter_rest u) ≡ [])) (λ y. cell_fields (iter_rest s) ≡ y ∷ cell_fields (iter_rest u))
  first_found s u r Q found run = go found.0 found.1 found.2 found.3.0 found.3.1 found.3.2 found.4 found.5
    where
      whole : r ≡ None → cell_fields (iter_rest s) ≡ []
      whole e =
          let both = subst (λ o. MatchOption o (IsTrue run.0.whole × AllItemsGive run.0 g f None) (Q run.0)) e run.2 in
          none_found s run.0 run.1 both.0 both.1

      go : (xs : List (Bor Cell)) (o : Option (Bor Cell)) (q : F) (t : Iter Cell) → Yields iter_steps s xs t → iter_steps t o u → FoldsTo (λ p x r. Called g p (x, tt) None r) f xs q
          → MatchOption o (r ≡ None) (λ x. (h : F) × Called g q (x, tt) r h)
          → MatchOption r ((cell_fields (iter_rest s) ≡ []) × (cell_fields (iter_rest u) ≡ [])) (λ y. cell_fields (iter_rest s) ≡ y ∷ cell_fields (iter_rest u))
      go xs None q t came last folds stop =
          last_found r None _ _ stop ((passed xs s t q came folds).1 ∙ ap (λ i. cell_fields (iter_rest i)) (sym last.1)) whole
      go xs (Some x) q t came last folds stop =
          let before = passed xs s t q came folds in
          last_found r (held_field x.now) _ _ (told x r stop.0 (subst (λ p. Called g p (x, tt) r stop.0) before.0 stop.1)).1 (before.1 ∙ ap cell_fields last ∙ fields_first x.now (iter_rest u)) whole

-- once x and the axes are given, the fields of the cells are left
cells_left : (s : Scope) → s.x ≡ None → length (iter_rest s.axes) ≡ 0 → fields_left s ≡ cell_fields (iter_rest s.cells)
cells_left s given none = ap₂ (λ o axes. cons_option o (map (λ ax. ax.field) axes ++ cell_fields (iter_rest s.cells))) given (nil_from_length (iter_rest s.axes) none)

pub last_gives : (s t : Scope) (r : Option ℕ) → s.x ≡ None → t.x ≡ None → length (iter_rest s.axes) ≡ 0 → t.axes ≡ s.axes
    → MatchOption r ((cell_fields (iter_rest s.cells) ≡ []) × (cell_fields (iter_rest t.cells) ≡ [])) (λ y. cell_fields (iter_rest s.cells) ≡ y ∷ cell_fields (iter_rest t.cells))
    → YieldsFirst fields_left s r t
last_gives s t None given given' none same next =
    (cells_left s given none ∙ next.0, cells_left t given' (ap (λ a. length (iter_rest a)) same ∙ none) ∙ next.1)
last_gives s t (Some y) given given' none same next =
    cells_left s given none ∙ next ∙ ap (λ fs. y ∷ fs) (sym (cells_left t given' (ap (λ a. length (iter_rest a)) same ∙ none)))

-- a field that is given is one less
pub one_less : (s t : Scope) (r : Option ℕ) → YieldsFirst fields_left s r t → MakesProgress (λ _. Unit {0}) (item_count fields_left) s r t
one_less s t None gives = record { on = λ _. tt; keeps = tt; rests = λ _. tt }
one_less s t (Some y) gives = record { on = λ _. (tt, tt, omega (arith, ap length gives)); keeps = tt; rests = λ _. tt }
