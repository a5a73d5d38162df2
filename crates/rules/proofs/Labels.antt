-- Labels: a rule's fields come under one label, and what one merge joins.
use Rattle.std.proofs.Common.{◌≡◌, ℕ, zero, suc, Bool, true, false, cond, ◌⊎◌, List, [], ◌∷◌, map, sym, refl, ap, ◌∙◌, inl, inr}
use Rattle.std.proofs.lemmas.Bool.{cond-true}
use Rattle.rules.specs.Rules.{Rule, In, EachRule}
use Rattle.rules.specs.Rings.{scope_at}
use Rattle.rules.specs.Tree.{member, merge, labels}
use Rattle.rules.proofs.Lists.{in_map, from_map, member_true, member_in}

-- the merge asks only for a field's label
abbrev pub joins : (ℕ → ℕ) → List ℕ → ℕ → ℕ
joins L [] c = c
joins L (g ∷ gs) c = cond (member c (map L gs)) (L g) c

pub merge_joins : (L : ℕ → ℕ) (xs : List ℕ) (f : ℕ) → merge L xs f ≡ joins L xs (L f)
merge_joins L [] f = refl
merge_joins L (g ∷ gs) f = refl

-- fields of one label stay together
pub merge_keeps : (L : ℕ → ℕ) (xs : List ℕ) (x y : ℕ) → L x ≡ L y → merge L xs x ≡ merge L xs y
merge_keeps L xs x y e = merge_joins L xs x ∙ ap (joins L xs) e ∙ sym (merge_joins L xs y)

-- the scope's fields come under the label of the first
pub merge_first : (L : ℕ → ℕ) (g : ℕ) (gs : List ℕ) (x : ℕ) → In x (g ∷ gs) → merge L (g ∷ gs) x ≡ L g
merge_first L g gs x (inl e) = go (member (L x) (map L gs))
  where
    go : (b : Bool) → cond b (L g) (L x) ≡ L g
    go true = refl
    go false = ap L e
merge_first L g gs x (inr i) = cond-true (member (L x) (map L gs)) (L g) (L x) (member_true (L x) (map L gs) (in_map L x gs i))

abbrev pub OneLabel : (ℕ → ℕ) → List ℕ → Type 0
OneLabel L xs = (x y : ℕ) → In x xs → In y xs → L x ≡ L y

pub merge_one : (L : ℕ → ℕ) (xs : List ℕ) → OneLabel (merge L xs) xs
merge_one L [] x y i j = absurd i
merge_one L (g ∷ gs) x y i j = merge_first L g gs x i ∙ sym (merge_first L g gs y j)

pub each_map : (P Q : Rule → Type 0) → ((r : Rule) → P r → Q r) → (rules : List Rule) → EachRule P rules → EachRule Q rules
each_map P Q k [] h = tt
each_map P Q k (r ∷ rs) h = (k r h.0, each_map P Q k rs h.1)

pub one_label : (rules : List Rule) → EachRule (λ r. OneLabel (labels rules) r.scope) rules
one_label [] = tt
one_label (r ∷ rs) = (merge_one (labels rs) r.scope, each_map (λ q. OneLabel (labels rs) q.scope) (λ q. OneLabel (labels (r ∷ rs)) q.scope) (λ q h x y i j. merge_keeps (labels rs) r.scope x y (h x y i j)) rs (one_label rs))

pub each_at : (Q : List ℕ → Type 0) (rules : List Rule) → EachRule (λ r. Q r.scope) rules → Q [] → (p : ℕ) → Q (scope_at rules p)
each_at Q [] h e p = e
each_at Q (r ∷ rs) h e zero = h.0
each_at Q (r ∷ rs) h e (suc p) = each_at Q rs h.1 e p

-- the fields of the scope at one place come under one label
pub one_label_at : (rules : List Rule) (p : ℕ) → OneLabel (labels rules) (scope_at rules p)
one_label_at rules p = each_at (OneLabel (labels rules)) rules (one_label rules) (λ x y i j. absurd i) p

abbrev pub Touches : (ℕ → ℕ) → List ℕ → ℕ → ℕ → Type 0
Touches L xs x y = (s : ℕ) × (s' : ℕ) × In s xs × In s' xs × (L s ≡ L x) × (L s' ≡ L y)

-- what a merge joins: fields of one label, or of labels that the scope touches
pub merge_cases : (L : ℕ → ℕ) (xs : List ℕ) (x y : ℕ) → merge L xs x ≡ merge L xs y → (L x ≡ L y) ⊎ Touches L xs x y
merge_cases L [] x y e = inl e
merge_cases L (g ∷ gs) x y e = go (member (L x) (map L gs)) (member (L y) (map L gs)) (λ t. from_map L (L x) gs (member_in (L x) (map L gs) t)) (λ t. from_map L (L y) gs (member_in (L y) (map L gs) t)) e
  where
    go : (b c : Bool) → (b ≡ true → (h : ℕ) × In h gs × (L h ≡ L x)) → (c ≡ true → (h : ℕ) × In h gs × (L h ≡ L y)) → cond b (L g) (L x) ≡ cond c (L g) (L y) → (L x ≡ L y) ⊎ Touches L (g ∷ gs) x y
    go true true m k q = inr ((m refl).0, (k refl).0, inr (m refl).1, inr (k refl).1, (m refl).2, (k refl).2)
    go true false m k q = inr ((m refl).0, g, inr (m refl).1, inl refl, (m refl).2, q)
    go false true m k q = inr (g, (k refl).0, inl refl, inr (k refl).1, sym q, (k refl).2)
    go false false m k q = inl q
