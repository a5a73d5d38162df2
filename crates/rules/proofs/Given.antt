-- What a line gives the fields of its scope. Assumes nothing.
use Rattle.std.proofs.Common.{◌≡◌, ℕ, cond, List, [], ◌∷◌, map, sym, ap, ◌∙◌, inl, inr, ⊎_elim}
use Rattle.std.proofs.lemmas.Bool.{cases_eq, eq-eqb, ne_eqb}
use Rattle.rules.specs.Rules.{In, given}

first_place : (g : ℕ) (gs : List ℕ) (a : ℕ → ℕ) (f : ℕ) → f ≡ g → given (g ∷ gs) (map a (g ∷ gs)) f ≡ a f
first_place g gs a f e = ap (λ b. cond b (a g) (given gs (map a gs) f)) (eq-eqb f g e) ∙ ap a (sym e)

-- the line made of the values a gives each field of the scope its value
pub given_line : (scope : List ℕ) (a : ℕ → ℕ) (f : ℕ) → In f scope → given scope (map a scope) f ≡ a f
given_line [] a f h = absurd h
given_line (g ∷ gs) a f (inl e) = first_place g gs a f e
given_line (g ∷ gs) a f (inr k) =
    ⊎_elim
    (first_place g gs a f)
    (λ ne. ap (λ b. cond b (a g) (given gs (map a gs) f)) (ne_eqb f g ne) ∙ given_line gs a f k)
    (cases_eq f g)
