-- The first fields of a list. Assumes nothing.
use Rattle.std.proofs.Common.{◌≡◌, ℕ, zero, suc, ◌+◌, ◌<◌, ◌⊎◌, List, [], ◌∷◌, length, get_or, take, sym, refl, subst, inl, inr, add-one, arith}
use Rattle.rules.specs.Rules.{In, Distinct}

-- the field at a place is in the list
pub in_at : (xs : List ℕ) (i d : ℕ) → i < length xs → In (get_or xs i d) xs
in_at [] i d h = absurd (omega arith)
in_at (x ∷ xs) zero d h = inl refl
in_at (x ∷ xs) (suc i) d h = inr (in_at xs i d (omega arith))

-- a front of the list has only fields of the list
pub in_front : (xs : List ℕ) (i f : ℕ) → In f (take i xs) → In f xs
in_front [] zero f h = h
in_front [] (suc i) f h = h
in_front (x ∷ xs) zero f h = absurd h
in_front (x ∷ xs) (suc i) f (inl e) = inl e
in_front (x ∷ xs) (suc i) f (inr h) = inr (in_front xs i f h)

split_suc : (xs : List ℕ) (i d f : ℕ) → i < length xs → In f (take (suc i) xs) → In f (take i xs) ⊎ (f ≡ get_or xs i d)
split_suc [] i d f h k = absurd (omega arith)
split_suc (x ∷ xs) zero d f h (inl e) = inr e
split_suc (x ∷ xs) zero d f h (inr k) = absurd k
split_suc (x ∷ xs) (suc i) d f h (inl e) = inl (inl e)
split_suc (x ∷ xs) (suc i) d f h (inr k) = elim (split_suc xs i d f (omega arith) k) [ inl j ↦ inl (inr j) | inr e ↦ inr e ]

-- a field of the first i + 1 is one of the first i, or the one at place i
pub front_more : (xs : List ℕ) (i d f : ℕ) → i < length xs → In f (take (i + 1) xs) → In f (take i xs) ⊎ (f ≡ get_or xs i d)
front_more xs i d f h k = split_suc xs i d f h (subst (λ n. In f (take n xs)) (add-one i) k)

keep_suc : (xs : List ℕ) (i f : ℕ) → In f (take i xs) → In f (take (suc i) xs)
keep_suc [] zero f h = h
keep_suc [] (suc i) f h = h
keep_suc (x ∷ xs) zero f h = absurd h
keep_suc (x ∷ xs) (suc i) f (inl e) = inl e
keep_suc (x ∷ xs) (suc i) f (inr h) = inr (keep_suc xs i f h)

last_suc : (xs : List ℕ) (i d : ℕ) → i < length xs → In (get_or xs i d) (take (suc i) xs)
last_suc [] i d h = absurd (omega arith)
last_suc (x ∷ xs) zero d h = inl refl
last_suc (x ∷ xs) (suc i) d h = inr (last_suc xs i d (omega arith))

-- and both kinds are among them
pub front_old : (xs : List ℕ) (i f : ℕ) → In f (take i xs) → In f (take (i + 1) xs)
front_old xs i f h = subst (λ n. In f (take n xs)) (sym (add-one i)) (keep_suc xs i f h)

pub front_new : (xs : List ℕ) (i d : ℕ) → i < length xs → In (get_or xs i d) (take (i + 1) xs)
front_new xs i d h = subst (λ n. In (get_or xs i d) (take n xs)) (sym (add-one i)) (last_suc xs i d h)

-- where no field stands twice, the one at place i is not among the first i
pub front_apart : (xs : List ℕ) (i d : ℕ) → i < length xs → Distinct xs → In (get_or xs i d) (take i xs) → ⊥
front_apart [] i d h apart k = omega arith
front_apart (x ∷ xs) zero d h apart k = k
front_apart (x ∷ xs) (suc i) d h apart (inl e) = apart.0 (subst (λ y. In y xs) e (in_at xs i d (omega arith)))
front_apart (x ∷ xs) (suc i) d h apart (inr k) = front_apart xs i d (omega arith) apart.1 k
