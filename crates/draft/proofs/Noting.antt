-- Noting fields decides whether they are all different. Assumes nothing.
use Rattle.std.proofs.Common.{◌≡◌, ℕ, ◌+◌, ◌<◌, ◌≤◌, Bool, true, false, not, ◌||◌, eqb, ltb, List, [], ◌∷◌, ◌++◌, get_or, sym, refl, ◌∙◌, subst, inl, inr, ⊎_elim, arith}
use Rattle.std.proofs.lemmas.Bool.{true≢false, ltb-true, and_parts, and_from, or_right, eq-eqb, not_from_false, cases_Bool}
use Rattle.rules.specs.Rules.{In, Distinct}
use Rattle.rules.specs.Seen.{was_seen, NotesBytes}
use Rattle.rules.specs.Tree.{member}
use Rattle.rules.specs.declared.marks.Seen.{Seen}
use Rattle.rules.proofs.Lists.{member_in}
use Rattle.rules.proofs.NewFields.{one_noted, then_noted, refused_noted, noted_new, refused_old}
use Rattle.draft.specs.Lists.{distinct}
use Rattle.draft.proofs.FieldTests.{apart_from_test}

-- no field at all
pub nothing_noted : (s : Seen) → NotesBytes [] 256 s s true
nothing_noted s n byte = record { refused = λ e. absurd (true≢false e); onward = λ _ gs all. all; back = λ _ gs all. all }

-- some fields, then others
pub noted_then : (fs gs : List ℕ) (a b c : Seen) (new : Bool) → NotesBytes fs 256 a b true → NotesBytes gs 256 b c new → NotesBytes (fs ++ gs) 256 a c new
noted_then fs gs a b c new first second n byte = then_noted n fs gs a b c new (first n byte) (second n byte)

-- fields that are not new, then any others
pub old_then : (fs gs : List ℕ) (a b c : Seen) → NotesBytes fs 256 a b false → NotesBytes (fs ++ gs) 256 a c false
old_then fs gs a b c first n byte = refused_noted n fs gs a b c (first n byte)

-- one field
module _ (f : ℕ) (s t : Seen) (new : Bool) (told : new ≡ not (was_seen s f)) (after : (g : ℕ) → was_seen t g ≡ (was_seen s g || eqb g f)) where
  -- what has been met is a byte
  small : f < 256
  small = ltb-true f 256 (and_parts (ltb f 256) (get_or t.marks f false) (after f ∙ or_right (was_seen s f) (eqb f f) (eq-eqb f f refl))).0

  pub one_field : NotesBytes (f ∷ []) 256 s t new
  one_field n byte = one_noted n f s t new (omega (arith, small, byte)) told after

  -- in front of others
  pub field_noted : (fs : List ℕ) → new ≡ true → (last : Seen) (answer : Bool) → NotesBytes fs 256 t last answer → NotesBytes (f ∷ fs) 256 s last answer
  field_noted fs e last answer rest = noted_then (f ∷ []) fs s t last answer (subst (NotesBytes (f ∷ []) 256 s t) e one_field) rest

  pub field_old : (fs : List ℕ) → new ≡ false → NotesBytes (f ∷ fs) 256 s t false
  field_old fs e = old_then (f ∷ []) fs s t t (subst (NotesBytes (f ∷ []) 256 s t) e one_field)

-- the test whether no field stands twice
pub so_distinct : (xs : List ℕ) → Distinct xs → distinct xs ≡ true
so_distinct [] d = refl
so_distinct (x ∷ xs) d = and_from (not (member x xs)) (distinct xs) (not_from_false (member x xs) (⊎_elim (λ e. absurd (d.0 (member_in x xs e))) (λ e. e) (cases_Bool (member x xs)))) (so_distinct xs d.1)

-- a number that no field of the list is above
total : List ℕ → ℕ
total [] = 0
total (f ∷ fs) = f + total fs

in_total : (fs : List ℕ) (f : ℕ) → In f fs → f ≤ total fs
unfolding total
in_total [] f i = absurd i
in_total (g ∷ gs) f (inl e) = omega arith
in_total (g ∷ gs) f (inr i) = omega (arith, in_total gs f i)

-- noting fields where none has been met, each that is a byte, tells whether one stands twice
pub noted_distinct : (fs : List ℕ) (s t : Seen) → ((f : ℕ) → was_seen s f ≡ false) → (new : Bool) → NotesBytes fs 256 s t new → new ≡ distinct fs
noted_distinct fs s t clear true notes = sym (so_distinct fs (noted_new 256 fs s t (notes 256 refl)).apart)
noted_distinct fs s t clear false notes =
    ⊎_elim
    (λ e.
    let n = 257 + total fs in
    absurd (refused_old n fs s t (notes n (omega arith)) (record { below = λ f i. omega (arith, in_total fs f i); fresh = λ f _. clear f; apart = apart_from_test fs e })))
    sym
    (cases_Bool (distinct fs))
