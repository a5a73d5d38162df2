-- How many values a set has. Assumes nothing.
use Rattle.std.proofs.Common.{◌≡◌, ℕ, zero, suc, ◌+◌, ◌<◌, ◌≤◌, Bool, true, false, cond, not, ◌&&◌, ◌⊎◌, sym, refl, ap, ◌∙◌, subst, ap₂, inl, inr, ⊎_elim, add_assoc, add_comm, suc-add, zero-add, arith}
use Rattle.std.proofs.lemmas.Bool.{and_right, cases_eq, cases_Bool, cond-true, cond-false, false≢true, eq-eqb, ne_eqb}
use Rattle.rows.specs.Values.{Values, without, how_many}

-- what one number counts for
abbrev pub one_if : Bool → ℕ
one_if b = cond b 1 0

one_if_le : (b : Bool) → one_if b ≤ 1
one_if_le true = omega arith
one_if_le false = omega arith

one_if_mono : (a b : Bool) → (b ≡ true → a ≡ true) → one_if b ≤ one_if a
one_if_mono true b h = one_if_le b
one_if_mono false true h = absurd (false≢true (h refl))
one_if_mono false false h = omega arith

-- no more than there are numbers
pub how_many_le : (n : ℕ) (p : Values) → how_many n p ≤ n
unfolding how_many
how_many_le zero p = omega arith
how_many_le (suc v) p = omega (arith, one_if_le (p v), how_many_le v p)

-- equal sets have equal sizes
pub how_many_same : (n : ℕ) (p q : Values) → ((v : ℕ) → v < n → p v ≡ q v) → how_many n p ≡ how_many n q
unfolding how_many
how_many_same zero p q h = refl
how_many_same (suc v) p q h = ap₂ (λ b k. one_if b + k) (h v (omega arith)) (how_many_same v p q (λ w l. h w (omega arith)))

-- a smaller set has no larger size
pub how_many_mono : (n : ℕ) (p q : Values) → ((v : ℕ) → q v ≡ true → p v ≡ true) → how_many n q ≤ how_many n p
unfolding how_many
how_many_mono zero p q h = omega arith
how_many_mono (suc v) p q h = omega (arith, one_if_mono (p v) (q v) (h v), how_many_mono v p q h)

pub how_many_none : (n : ℕ) (p : Values) → ((v : ℕ) → v < n → p v ≡ false) → how_many n p ≡ 0
unfolding how_many
how_many_none zero p h = refl
how_many_none (suc v) p h = ap₂ (λ b k. one_if b + k) (h v (omega arith)) (how_many_none v p (λ w l. h w (omega arith)))

-- what is there counts
pub how_many_some : (n : ℕ) (p : Values) (w : ℕ) → w < n → p w ≡ true → 0 < how_many n p
unfolding how_many
how_many_some zero p w l e = omega arith
how_many_some (suc v) p w l e =
    ⊎_elim
    (λ same.
    let one : one_if (p v) ≡ 1 = cond-true (p v) 1 0 (subst (λ u. p u ≡ true) same e) in
    omega arith)
    (λ other.
    let low : w < v = omega arith in
    omega (arith, how_many_some v p w low e))
    (cases_eq w v)

-- two stretches of numbers are counted apart
pub how_many_add : (m n : ℕ) (p : Values) → how_many (m + n) p ≡ how_many m (λ k. p (n + k)) + how_many n p
unfolding how_many
how_many_add zero n p = ap (λ k. how_many k p) (zero-add n) ∙ sym (zero-add (how_many n p))
how_many_add (suc m) n p =
    ap (λ k. how_many k p) (suc-add m n) ∙ ap₂ (λ v k. one_if (p v) + k) (add_comm m n) (how_many_add m n p)
    ∙ sym (add_assoc (one_if (p (n + m))) (how_many m (λ k. p (n + k))) (how_many n p))

-- where no number from n on is in the set, those below n are all
pub how_many_wider : (m n : ℕ) (p : Values) → ((v : ℕ) → n ≤ v → p v ≡ false) → how_many (m + n) p ≡ how_many n p
how_many_wider m n p none = how_many_add m n p ∙ ap (λ k. k + how_many n p) (how_many_none m (λ k. p (n + k)) (λ k _. none (n + k) (omega arith))) ∙ zero-add (how_many n p)

-- a set of numbers below n has one, or it has none
pub some_or_none : (n : ℕ) (p : Values) → ((v : ℕ) × (v < n) × (p v ≡ true)) ⊎ ((v : ℕ) → v < n → p v ≡ false)
some_or_none zero p = inr (λ v l. absurd (omega arith))
some_or_none (suc n) p = go (cases_Bool (p n)) (some_or_none n p)
  where
    go : ((p n ≡ true) ⊎ (p n ≡ false)) → ((v : ℕ) × (v < n) × (p v ≡ true)) ⊎ ((v : ℕ) → v < n → p v ≡ false)
        → ((v : ℕ) × (v < suc n) × (p v ≡ true)) ⊎ ((v : ℕ) → v < suc n → p v ≡ false)
    go (inl here) rest = inl (n, omega arith, here)
    go (inr gone) (inl some) = inl (some.0, omega (arith, some.1), some.2)
    go (inr gone) (inr none) = inr (λ v l. ⊎_elim (λ e. subst (λ u. p u ≡ false) (sym e) gone) (λ ne. none v (omega arith)) (cases_eq v n))

and_true : (b : Bool) → (b && true) ≡ b
and_true true = refl
and_true false = refl

pub without_other : (p : Values) (x v : ℕ) → (v ≡ x → ⊥) → without p x v ≡ p v
without_other p x v ne = ap (λ b. p v && not b) (ne_eqb v x ne) ∙ and_true (p v)

pub without_same : (p : Values) (x v : ℕ) → v ≡ x → without p x v ≡ false
without_same p x v e = ap (λ b. p v && not b) (eq-eqb v x e) ∙ and_right (p v) false refl

-- taking out a value that is there lowers the size by one
pub how_many_without : (n : ℕ) (p : Values) (x : ℕ) → x < n → p x ≡ true → how_many n p ≡ how_many n (without p x) + 1
unfolding how_many
how_many_without zero p x l e = absurd (omega arith)
how_many_without (suc v) p x l e =
    ⊎_elim
    (λ same.
    let one : one_if (p v) ≡ 1 = cond-true (p v) 1 0 (subst (λ u. p u ≡ true) same e) in
    let none : one_if (without p x v) ≡ 0 = cond-false (without p x v) 1 0 (without_same p x v (sym same)) in
    let rest = how_many_same v p (without p x) (λ w m. sym (without_other p x w (λ k. omega arith))) in
    omega arith)
    (λ other.
    let low : x < v = omega arith in
    let here : one_if (without p x v) ≡ one_if (p v) = ap one_if (without_other p x v (λ k. other (sym k))) in
    omega (arith, how_many_without v p x low e))
    (cases_eq x v)
