-- What is told of a table's scope, by an iterator that gives its fields. Assumes nothing.
use Rattle.std.proofs.Common.{◌≡◌, ℕ, suc, ◌+◌, ◌≤◌, Bool, true, false, List, [], ◌∷◌, ◌++◌, map, length, slice_get, get_or, Option, Decides, sym, refl, ap, ◌∙◌, arith}
use Rattle.std.proofs.lemmas.Bool.{false≢true}
use Rattle.std.proofs.lemmas.Bool.Decides.{nat_tests}
use Rattle.std.proofs.lemmas.Iterator.{YieldsList}
use Rattle.std.proofs.lemmas.Iterator.Adapters.{option_map_id}
use Rattle.std.proofs.lemmas.Iterator.Consumers.{YieldsList-from_first, nth_from_yields_List}
use Rattle.std.proofs.lemmas.List.{length-append, length-map}
use Rattle.std.proofs.lemmas.Option.{unwrap_or-slice_get}
use Rattle.std.specs.Iterator.{YieldsFirst, SkipsThenYields}
use Rattle.std.specs.Option.{unwrap_or}
use Rattle.rules.specs.Books.{told}
use Rattle.rules.specs.Rules.{LawfulRule}
use Rattle.rules.specs.Seen.{was_seen, Notes}
use Rattle.rules.specs.declared.marks.Seen.{Seen}
use Rattle.rules.proofs.NewFields.{lawful_like, noted_new, refused_old}
use Rattle.tables.specs.declared.scope.Scope.{Scope}
use Rattle.tables.specs.declared.record.Axis.{Axis}
use Rattle.tables.specs.declared.record.Cell.{Cell}
use Rattle.tables.specs.Reads.{cell_fields, table_scope}
use Rattle.tables.specs.Scopes.{fields_left}
use Rattle.tables.proofs.ViewSteps.{fields_few}

-- the iterator gives the fields that it has left
pub gives : (s : Scope) (fs : List ℕ) → fields_left s ≡ fs → YieldsList (YieldsFirst fields_left) (λ f. f) s fs
gives s fs is = YieldsList-from_first (λ f. f) fields_left fs is

-- where nothing had been met, the fields of a scope are noted exactly if the scope is lawful
pub lawful_noted : (n x : ℕ) (gs : List ℕ) (allows : List ℕ → Bool) (s t : Seen) (answer : Bool) → ((f : ℕ) → was_seen s f ≡ false)
    → Notes (x ∷ gs) n s t answer → Decides answer (LawfulRule n (record { scope = x ∷ gs; allows = allows }))
lawful_noted n x gs allows s t true none notes = (λ _. (lawful_like n x gs allows s none).0 (noted_new n (x ∷ gs) s t notes), λ _. refl)
lawful_noted n x gs allows s t false none notes = (
  λ e. absurd (false≢true e),
  λ lawful. absurd (refused_old n (x ∷ gs) s t notes ((lawful_like n x gs allows s none).1 lawful)),
)

-- a scope is not longer than its axes and its cells
pub scope_short : (x : ℕ) (axes : List Axis) (cells : List Cell) → length (table_scope x axes cells) ≤ 1 + length axes + length cells
scope_short x axes cells =
    omega (arith, length-append (map (λ ax. ax.field) axes) (cell_fields cells), length-map axes (λ ax. ax.field), fields_few cells)

-- the field at a place, and 255 past the end, as a book tells it
pub field_told : (s u : Scope) (fs : List ℕ) (place : ℕ) (r : Option ℕ) → fields_left s ≡ fs → SkipsThenYields (YieldsFirst fields_left) s place r u
    → unwrap_or r 255 ≤ 255 → unwrap_or r 255 ≡ told (get_or fs place 255)
field_told s u fs place r is ran byte =
    let at : unwrap_or r 255 ≡ get_or fs place 255 =
    ap (λ o. unwrap_or o 255) (sym (option_map_id r) ∙ nth_from_yields_List r u place ran (gives s fs is)) ∙ unwrap_or-slice_get fs place 255
    in
    grind (arith, nat_tests)

-- what stands behind the first part of a list
past : (xs ys : List ℕ) (k : ℕ) → slice_get (xs ++ ys) (length xs + k) ≡ slice_get ys k
past [] ys k =
    let here : 0 + k ≡ k = omega arith in
    ap (λ i. slice_get ys i) here
past (x ∷ xs) ys k =
    let next : length (x ∷ xs) + k ≡ suc (length xs + k) = omega arith in
    ap (λ i. slice_get (x ∷ (xs ++ ys)) i) next ∙ past xs ys k

-- the fields of a scope behind x and those of the axes
pub behind : (x : ℕ) (axes cells : List ℕ) (k : ℕ) → slice_get (x ∷ (axes ++ cells)) (1 + length axes + k) ≡ slice_get cells k
behind x axes cells k =
    let next : 1 + length axes + k ≡ suc (length axes + k) = omega arith in
    ap (λ i. slice_get (x ∷ (axes ++ cells)) i) next ∙ past axes cells k
