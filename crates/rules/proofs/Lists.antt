-- Lists of fields: what stands in them, and lists with nothing twice.
use Rattle.std.proofs.Common.{◌≡◌, ℕ, ◌<◌, Bool, true, false, cond, eqb, ◌⊎◌, List, [], ◌∷◌, ◌++◌, map, length, sym, refl, ap, ◌∙◌, subst, ap₂, inl, inr, ⊎_elim, not-suc-le-zero}
use Rattle.std.proofs.lemmas.Bool.{cases_eq, cond-true, eq-eqb, eqb-true, false≢true}
use Rattle.rules.specs.Rules.{In, Distinct}
use Rattle.rules.specs.Tree.{member}

-- an x of the list with L x ≡ c, or none
pub find : (L : ℕ → ℕ) (c : ℕ) (xs : List ℕ) → ((h : ℕ) × In h xs × (L h ≡ c)) ⊎ ((h : ℕ) → In h xs → L h ≡ c → ⊥)
find L c [] = inr (λ h i e. i)
find L c (x ∷ xs) = step (cases_eq (L x) c) (find L c xs)
  where
    step : (L x ≡ c) ⊎ (L x ≡ c → ⊥) → ((h : ℕ) × In h xs × (L h ≡ c)) ⊎ ((h : ℕ) → In h xs → L h ≡ c → ⊥) → ((h : ℕ) × In h (x ∷ xs) × (L h ≡ c)) ⊎ ((h : ℕ) → In h (x ∷ xs) → L h ≡ c → ⊥)
    step (inl e) rest = inl (x, inl refl, e)
    step (inr k) (inl t) = inl (t.0, inr t.1, t.2)
    step (inr k) (inr t) = inr (λ h i e. elim i [ inl p ↦ k (sym (ap L p) ∙ e) | inr j ↦ t h j e ])

pub some_in : (xs : List ℕ) → 0 < length xs → (g : ℕ) × In g xs
some_in [] h = absurd (not-suc-le-zero h)
some_in (x ∷ xs) h = (x, inl refl)

pub in_map : (L : ℕ → ℕ) (x : ℕ) (xs : List ℕ) → In x xs → In (L x) (map L xs)
in_map L x [] i = i
in_map L x (y ∷ ys) (inl e) = inl (ap L e)
in_map L x (y ∷ ys) (inr i) = inr (in_map L x ys i)

pub from_map : (L : ℕ → ℕ) (c : ℕ) (xs : List ℕ) → In c (map L xs) → (h : ℕ) × In h xs × (L h ≡ c)
from_map L c [] i = absurd i
from_map L c (y ∷ ys) (inl e) = (y, inl refl, sym e)
from_map L c (y ∷ ys) (inr i) = let t = from_map L c ys i in (t.0, inr t.1, t.2)

-- where L takes no label twice, it tells the elements apart
pub label_apart : (L : ℕ → ℕ) (xs : List ℕ) → Distinct (map L xs) → (x y : ℕ) → In x xs → In y xs → L x ≡ L y → x ≡ y
label_apart L [] d x y i j e = absurd i
label_apart L (z ∷ zs) d x y (inl p) (inl q) e = p ∙ sym q
label_apart L (z ∷ zs) d x y (inl p) (inr j) e = absurd (d.0 (subst (λ c. In c (map L zs)) (sym e ∙ ap L p) (in_map L y zs j)))
label_apart L (z ∷ zs) d x y (inr i) (inl q) e = absurd (d.0 (subst (λ c. In c (map L zs)) (e ∙ ap L q) (in_map L x zs i)))
label_apart L (z ∷ zs) d x y (inr i) (inr j) e = label_apart L zs d.1 x y i j e

pub member_true : (x : ℕ) (xs : List ℕ) → In x xs → member x xs ≡ true
member_true x [] i = absurd i
member_true x (y ∷ ys) (inl e) = cond-true (eqb x y) true (member x ys) (eq-eqb x y e)
member_true x (y ∷ ys) (inr i) = go (eqb x y) (member_true x ys i)
  where
    go : (b : Bool) → member x ys ≡ true → cond b true (member x ys) ≡ true
    go true e = refl
    go false e = e

pub member_in : (x : ℕ) (xs : List ℕ) → member x xs ≡ true → In x xs
member_in x [] e = absurd (false≢true e)
member_in x (y ∷ ys) e = go (eqb x y) refl e (member_in x ys)
  where
    go : (b : Bool) → eqb x y ≡ b → cond b true (member x ys) ≡ true → (member x ys ≡ true → In x ys) → In x (y ∷ ys)
    go true p q k = inl (eqb-true x y p)
    go false p q k = inr (k q)

-- maps that agree on the list
pub map_same : (a b : ℕ → ℕ) (xs : List ℕ) → ((x : ℕ) → In x xs → a x ≡ b x) → map a xs ≡ map b xs
map_same a b [] h = refl
map_same a b (x ∷ xs) h = ap₂ {C = List ℕ} (λ y ys. y ∷ ys) (h x (inl refl)) (map_same a b xs (λ y i. h y (inr i)))

-- ---- two lists, one behind the other

-- a field of two lists is in one of them
pub in_either : (xs ys : List ℕ) (f : ℕ) → In f (xs ++ ys) → In f xs ⊎ In f ys
in_either [] ys f h = inr h
in_either (x ∷ xs) ys f (inl e) = inl (inl e)
in_either (x ∷ xs) ys f (inr h) = ⊎_elim (λ k. inl (inr k)) (λ k. inr k) (in_either xs ys f h)

pub in_first : (xs ys : List ℕ) (f : ℕ) → In f xs → In f (xs ++ ys)
in_first [] ys f h = absurd h
in_first (x ∷ xs) ys f (inl e) = inl e
in_first (x ∷ xs) ys f (inr h) = inr (in_first xs ys f h)

pub in_second : (xs ys : List ℕ) (f : ℕ) → In f ys → In f (xs ++ ys)
in_second [] ys f h = h
in_second (x ∷ xs) ys f h = inr (in_second xs ys f h)

-- where no field stands twice in two lists, they share none
pub halves_apart : (xs ys : List ℕ) → Distinct (xs ++ ys) → (f : ℕ) → In f xs → In f ys → ⊥
halves_apart [] ys apart f h k = h
halves_apart (x ∷ xs) ys apart f (inl e) k = apart.0 (in_second xs ys x (subst (λ u. In u ys) e k))
halves_apart (x ∷ xs) ys apart f (inr h) k = halves_apart xs ys apart.1 f h k

-- nor does one stand twice in the first
pub first_distinct : (xs ys : List ℕ) → Distinct (xs ++ ys) → Distinct xs
first_distinct [] ys apart = tt
first_distinct (x ∷ xs) ys apart = (λ k. apart.0 (in_first xs ys x k), first_distinct xs ys apart.1)

-- or in the second
pub second_distinct : (xs ys : List ℕ) → Distinct (xs ++ ys) → Distinct ys
second_distinct [] ys apart = apart
second_distinct (x ∷ xs) ys apart = second_distinct xs ys apart.1
