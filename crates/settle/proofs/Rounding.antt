-- What rounds keep, what they take, and where they end. Assumes nothing.
use Rattle.std.proofs.Common.{◌≡◌, ℕ, ◌+◌, ◌<◌, ◌≤◌, true, false, ◌⊎◌, List, [], ◌∷◌, sym, refl, ◌∙◌, subst, inl, inr, ⊎_elim, arith}
use Rattle.std.proofs.lemmas.Bool.{cases_Bool}
use Rattle.rows.proofs.Counts.{some_or_none}
use Rattle.rules.specs.Rules.{Sets, Rule, In, EachRule, LawfulRule, Supported, Narrowed, StandsBy, Standing, Within}
use Rattle.rules.proofs.Extend.{narrowing_keeps}
use Rattle.rules.proofs.Lists.{find}
use Rattle.settle.specs.Rounds.{Round, Rounds, last, more, SomeEmpty, total}
use Rattle.settle.proofs.Totals.{total_mono, moved_less}

-- a field is in a scope or not
pub in_or_not : (f : ℕ) (gs : List ℕ) → In f gs ⊎ (In f gs → ⊥)
in_or_not f gs = elim (find (λ x. x) f gs) [
  | inl t ↦ inl (subst (λ x. In x gs) t.2 t.1)
  | inr k ↦ inr (λ i. k f i refl)
]

pub narrowed_shrinks : (r : Rule) (S S' : Sets) → Narrowed r S S' → (f v : ℕ) → S' f v ≡ true → S f v ≡ true
narrowed_shrinks r S S' N f v e =
    ⊎_elim
    (λ i. let s = N.left f v i e in subst (λ w. S f w ≡ true) s.gives (s.inside f i))
    (λ out. sym (N.others f v out) ∙ e)
    (in_or_not f r.scope)

pub round_shrinks : (rules : List Rule) (S S'' : Sets) → Round rules S S'' → (f v : ℕ) → S'' f v ≡ true → S f v ≡ true
round_shrinks [] S S'' R f v e = sym (R f v) ∙ e
round_shrinks (r ∷ rs) S S'' R f v e = narrowed_shrinks r S R.0 R.1 f v (round_shrinks rs R.0 S'' R.2 f v e)

-- a standing choice survives a round
round_keeps : (n : ℕ) (rules : List Rule) (C S S'' : Sets) → EachRule (LawfulRule n) rules → EachRule (StandsBy C) rules → Within n C S → Round rules S S'' → Within n C S''
round_keeps n [] C S S'' law stands w R = λ f v l e. R f v ∙ w f v l e
round_keeps n (r ∷ rs) C S S'' law stands w R =
    round_keeps n rs C R.0 S'' law.1 stands.1 (narrowing_keeps n r C S R.0 law.0 stands.0 w R.1) R.2

-- a round that takes nothing from Z stands at Z
round_stands : (n : ℕ) (rules : List Rule) (Z S S'' : Sets) → EachRule (LawfulRule n) rules → Within n S Z → Within n Z S'' → Round rules S S'' → EachRule (StandsBy Z) rules
round_stands n [] Z S S'' law a b R = tt
round_stands n (r ∷ rs) Z S S'' law a b R = (
  here,
  round_stands n rs Z R.0 S'' law.1 (λ f v l e. a f v l (narrowed_shrinks r S R.0 R.1 f v e)) b R.2,
)
  where
    here : StandsBy Z r
    here f v i e =
        let s : Supported S r f v = R.1.left f v i (round_shrinks rs R.0 S'' R.2 f v (b f v (law.0.below f i) e)) in
        record { line = s.line; gives = s.gives; inside = λ g j. a g (s.line g) (law.0.below g j) (s.inside g j); allowed = s.allowed }

-- the values of the n fields lie below the span
abbrev pub Below : ℕ → ℕ → Sets → Type 0
Below span n S = (f v : ℕ) → f < n → S f v ≡ true → v < span

pub rounds_shrink : {n : ℕ} {rules : List Rule} {S S'' : Sets} {r : ℕ} → Rounds n rules S r S'' → Within n S'' S
rounds_shrink {n} {rules} (last {S = S} {S' = S'} R _) f v l e = round_shrinks rules S S' R f v e
rounds_shrink {n} {rules} (more {S = S} {S' = S'} R _ _ Q) f v l e = round_shrinks rules S S' R f v (rounds_shrink Q f v l e)

pub rounds_keep : {n : ℕ} {rules : List Rule} {S S'' : Sets} {r : ℕ} → EachRule (LawfulRule n) rules → (C : Sets) → Standing n rules C → Rounds n rules S r S'' → Within n C S → Within n C S''
rounds_keep {n} {rules} law C st (last {S = S} {S' = S'} R _) w = round_keeps n rules C S S' law st.supported w R
rounds_keep {n} {rules} law C st (more {S = S} {S' = S'} R _ _ Q) w = rounds_keep law C st Q (round_keeps n rules C S S' law st.supported w R)

-- where every field has a value at the end, what is left stands
pub rounds_stand : {n : ℕ} {rules : List Rule} {S S'' : Sets} {r : ℕ} → EachRule (LawfulRule n) rules → Rounds n rules S r S'' → (SomeEmpty n S'' → ⊥) → EachRule (StandsBy S'') rules
rounds_stand {n} {rules} law (last R (inl some)) alive = absurd (alive some)
rounds_stand {n} {rules} law (last {S = S} {S' = S'} R (inr same)) alive = round_stands n rules S' S S' law (λ f v l e. same f v l ∙ e) (λ f v l e. e) R
rounds_stand {n} {rules} law (more R _ _ Q) alive = rounds_stand law Q alive

-- each round but the last takes a value
pub rounds_few : {span n : ℕ} {rules : List Rule} {S S'' : Sets} {r : ℕ} → Below span n S → Rounds n rules S r S'' → r + total span n S'' ≤ 1 + total span n S
rounds_few {span} {n} {rules} low (last {S = S} {S' = S'} R _) = omega (arith, total_mono span S S' n (λ f v l e. round_shrinks rules S S' R f v e))
rounds_few {span} {n} {rules} low (more {S = S} {S' = S'} R _ moved Q) =
    let w : Within n S' S = λ f v l e. round_shrinks rules S S' R f v e in
    let less = moved_less span S S' n low w moved in
    omega (arith, less, rounds_few (λ f v l e. low f v l (w f v l e)) Q)

-- where no field is without a value, each has one
pub some_values : (span n : ℕ) (S : Sets) → Below span n S → (SomeEmpty n S → ⊥) → (f : ℕ) → f < n → (v : ℕ) × (S f v ≡ true)
some_values span n S low alive f l = go (some_or_none span (S f))
  where
    go : ((v : ℕ) × (v < span) × (S f v ≡ true)) ⊎ ((v : ℕ) → v < span → S f v ≡ false) → (v : ℕ) × (S f v ≡ true)
    go (inl t) = (t.0, t.2)
    go (inr none) = absurd (alive (f, l, λ v. ⊎_elim (λ e. none v (low f v l e)) (λ e. e) (cases_Bool (S f v))))
