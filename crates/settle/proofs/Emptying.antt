-- The first rows of a list: whether one is empty, and how they are emptied. Assumes nothing.
use Rattle.std.proofs.Common.{◌≡◌, ℕ, zero, suc, ◌+◌, ◌-◌, ◌<◌, ◌≤◌, Bool, true, false, List, [], ◌∷◌, ◌++◌, length, get_or, take, drop, set, Decides, MatchBool, sym, refl, ap, ◌∙◌, subst, ⊎_elim, arith, length-set}
use Rattle.std.specs.List.{HoldsAt, AllWithin, FoldsTo}
use Rattle.std.proofs.lemmas.Bool.{cases_eq, false≢true}
use Rattle.std.proofs.lemmas.Grind.{common_steps}
use Rattle.std.proofs.lemmas.List.{get_or_append_left, get_or-append_right, get_or-drop, get_or-set_other}
use Rattle.rows.specs.Values.{Values, Empty}
use Rattle.rules.specs.Books.{sets}
use Rattle.rules.proofs.RowSets.{sets_same, sets_written}
use Rattle.settle.specs.Passes.{Emptied}
use Rattle.settle.specs.Rounds.{SomeEmpty}

-- what each step of a fold says of its item holds of all items
each_step : {P A : Type 0} (R : P → A → P → Type 0) (Q : A → Type 0) → ((p q : P) (x : A) → R p x q → Q x) → (xs : List A) (p q : P) → FoldsTo R p xs q → (k : ℕ) (d : A) → k < length xs → Q (get_or xs k d)
each_step R Q says [] p q steps k d l = absurd (omega arith)
each_step R Q says (x ∷ xs) p q (j, step, steps) zero d l = says p j x step
each_step R Q says (x ∷ xs) p q (j, step, steps) (suc k) d l = each_step R Q says xs j q steps k d (omega arith)

module _ {R : Type 0} (values : R → Values) where
  -- the set of the row at a place
  row_at : (rows : List R) (f : ℕ) (d : R) → f < length rows → (v : ℕ) → sets values rows f v ≡ values (get_or rows f d) v
  row_at [] f d l v = absurd (omega arith)
  row_at (r ∷ rs) zero d l v = refl
  row_at (r ∷ rs) (suc f) d l v = row_at rs f d (omega arith) v

  -- the sets of the first rows
  front_sets : (rows : List R) (n f : ℕ) → f < n → (v : ℕ) → sets values (take n rows) f v ≡ sets values rows f v
  front_sets rows zero f l v = absurd (omega arith)
  front_sets [] (suc n) f l v = refl
  front_sets (r ∷ rs) (suc n) zero l v = refl
  front_sets (r ∷ rs) (suc n) (suc f) l v = front_sets rs n f (omega arith) v

  -- a row of a list is one to fall back on
  with_default : (rows : List R) (f : ℕ) → f < length rows → R
  with_default [] f l = absurd (omega arith)
  with_default (r ∷ rs) f l = r

  -- a search for an empty row among the first rows finds whether there is one
  pub some_empty : (rows : List R) (n : ℕ) (found : Bool) → n ≤ length rows
      → MatchBool found ((k : ℕ) × (k < length (take n rows)) × HoldsAt (λ row. Empty (values row)) (take n rows) k) (AllWithin (λ row. Empty (values row) → ⊥) (take n rows) 0 (length (take n rows)))
      → Decides found (SomeEmpty n (sets values rows))
  some_empty rows n true enough (k, l, empty) = (
    λ _.
        let low : k < n = grind (arith, common_steps) in
        let d = with_default (take n rows) k l in
        (k, low, λ v. sym (front_sets rows n k low v) ∙ row_at (take n rows) k d l v ∙ empty d v),
    λ _. refl,
  )
  some_empty rows n false enough none = (
    λ e. absurd (false≢true e),
    λ some.
        let l : some.0 < length (take n rows) = grind (arith, common_steps) in
        let d = with_default (take n rows) some.0 l in
        absurd (none some.0 d (omega arith) l (λ v. sym (row_at (take n rows) some.0 d l v) ∙ front_sets rows n some.0 some.1 v ∙ some.2 v)),
  )

  -- rows that are put in the place of the first, each of them empty
  pub emptied : {P : Type 0} (S : P → R → P → Type 0) → ((p q : P) (row : R) → S p row q → Empty (values row)) → (before fresh : List R) (n : ℕ) (p q : P) → n ≤ length before → length fresh ≡ length (take n before) → FoldsTo S p fresh q → Emptied values n before (fresh ++ drop n before)
  emptied S says before fresh n p q enough long steps =
      let as_many : length fresh ≡ n = grind (arith, common_steps) in
      record {
        all = λ f v l.
            let low : f < length fresh = omega arith in
            let d = with_default fresh f low in
            row_at (fresh ++ drop n before) f d (grind (arith, common_steps)) v
            ∙ ap (λ row. values row v) (get_or_append_left fresh (drop n before) d f low)
            ∙ each_step S (λ row. Empty (values row)) says fresh p q steps f d low v;
        beyond = λ f d l. get_or-append_right fresh (drop n before) n f d as_many l ∙ get_or-drop n before (f - n) d ∙ ap (λ k. get_or before k d) (omega arith);
      }

-- rows that are emptied one by one
module _ {R : Type 0} (values : R → Values) (before : List R) where
  pub emptied_none : Emptied values 0 before before
  emptied_none = record { all = λ f v l. absurd (omega arith); beyond = λ f d l. refl }

  pub emptied_more : (f : ℕ) (mid : List R) (row : R) → f < length mid → Emptied values f before mid → Empty (values row) → Emptied values (f + 1) before (set mid f row)
  emptied_more f mid row within so empty = record {
    all = λ g v l. ⊎_elim
        (λ e. subst (λ h. sets values (set mid f row) h v ≡ false) (sym e) (sets_written values mid f row within v ∙ empty v))
        (λ ne. sets_same values mid (set mid f row) g (length-set mid f row) (λ d. get_or-set_other mid f g row d ne) v ∙ so.all g v (omega arith))
        (cases_eq g f);
    beyond = λ g d l. get_or-set_other mid f g row d (λ e. omega arith) ∙ so.beyond g d (omega arith);
  }
