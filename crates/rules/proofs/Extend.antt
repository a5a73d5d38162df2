-- Of rules that make a tree, every value of a standing choice is part of a full setting.
use Rattle.std.proofs.Common.{◌≡◌, ℕ, ◌<◌, ◌≤◌, true, ◌⊎◌, List, [], ◌∷◌, map, sym, refl, ap, ◌∙◌, subst, inl, inr, arith}
use Rattle.std.proofs.lemmas.Bool.{cases_eq, cases_lt}
use Rattle.rules.specs.Rules.{Sets, Rule, In, Distinct, EachRule, LawfulRule, Allowed, Supported, StandsBy, Setting, Inside, Standing}
use Rattle.rules.specs.Theorems.{NarrowingKeeps, RinglessExtends}
use Rattle.rules.specs.Tree.{labels, Tree}
use Rattle.rules.proofs.Lists.{find, some_in, label_apart, map_same}
use Rattle.rules.proofs.Labels.{OneLabel, one_label}
use Rattle.rules.proofs.Decided.{tree_or_ring}

pub narrowing_keeps : NarrowingKeeps
narrowing_keeps n r C S S' law stands w N f v l e = go (find (λ x. x) f r.scope)
  where
    go : ((h : ℕ) × In h r.scope × (h ≡ f)) ⊎ ((h : ℕ) → In h r.scope → h ≡ f → ⊥) → S' f v ≡ true
    go (inl t) =
        let i : In f r.scope = subst (λ x. In x r.scope) t.2 t.1 in
        let s : Supported C r f v = stands f v i e in
        N.kept f v i (record { line = s.line; gives = s.gives; inside = λ g j. w g (s.line g) (law.below g j) (s.inside g j); allowed = s.allowed })
    go (inr k) = N.others f v (λ i. k f i refl) ∙ w f v l e

-- one assignment for each label gives an assignment that every rule under one label allows
glue : (L : ℕ → ℕ) (pick : ℕ → ℕ → ℕ) (qs : List Rule) → EachRule (λ q. OneLabel L q.scope) qs → ((c : ℕ) → Setting qs (pick c)) → Setting qs (λ x. pick (L x) x)
glue L pick [] one s = tt
glue L pick (q ∷ qs) one s = (here q.scope one.0 (λ xs. q.allows xs ≡ true) (λ c. (s c).0), glue L pick qs one.1 (λ c. (s c).1))
  where
    here : (xs : List ℕ) → OneLabel L xs → (P : List ℕ → Type 0) → ((c : ℕ) → P (map (pick c) xs)) → P (map (λ x. pick (L x) x) xs)
    here [] o P k = k 0
    here (x ∷ xs) o P k = subst P (map_same (pick (L x)) (λ y. pick (L y) y) (x ∷ xs) (λ y i. ap (λ c. pick c y) (o x y (inl refl) i))) (k (L x))

abbrev Extended : ℕ → List Rule → Sets → ℕ → ℕ → Type 0
Extended n rules S f v = (a : ℕ → ℕ) × (a f ≡ v) × Setting rules a × Inside n S a

start : (n : ℕ) (S : Sets) → ((f : ℕ) → f < n → (v : ℕ) × (S f v ≡ true)) → (f v : ℕ) → S f v ≡ true → Extended n [] S f v
start n S some f v e = (λ x. (at x).0, (at f).1 refl, tt, λ x. (at x).2)
  where
    at : (x : ℕ) → (y : ℕ) × (x ≡ f → y ≡ v) × (x < n → S x y ≡ true)
    at x = go (cases_eq x f) (cases_lt x n)
      where
        go : (x ≡ f) ⊎ (x ≡ f → ⊥) → (x < n) ⊎ (n ≤ x) → (y : ℕ) × (x ≡ f → y ≡ v) × (x < n → S x y ≡ true)
        go (inl p) _ = (v, λ _. refl, λ _. subst (λ z. S z v ≡ true) (sym p) e)
        go (inr k) (inl l) = ((some x l).0, λ p. absurd (k p), λ _. (some x l).1)
        go (inr k) (inr m) = (0, λ p. absurd (k p), λ l. absurd (omega arith))

-- one rule more: its scope has no two fields under one label
module _ (n : ℕ) (r : Rule) (rs : List Rule) (S : Sets) (below : (g : ℕ) → In g r.scope → g < n) (first : (g : ℕ) × In g r.scope) (apart : Distinct (map (labels rs) r.scope)) (sup : StandsBy S r) (ext : (f v : ℕ) → f < n → S f v ≡ true → Extended n rs S f v) where
  -- an allowed line that has the value of A at the scope's field under the label of f
  line : (f v : ℕ) (A : Extended n rs S f v) → (l : ℕ → ℕ) × ((h : ℕ) → In h r.scope → S h (l h) ≡ true) × Allowed r l × ((h : ℕ) → In h r.scope → labels rs h ≡ labels rs f → A.0 h ≡ l h)
  line f v A = go (find (labels rs) (labels rs f) r.scope)
    where
      at : (g : ℕ) → In g r.scope → Supported S r g (A.0 g)
      at g i = sup g (A.0 g) i (A.3 g (below g i))

      go : ((h : ℕ) × In h r.scope × (labels rs h ≡ labels rs f)) ⊎ ((h : ℕ) → In h r.scope → labels rs h ≡ labels rs f → ⊥) → (l : ℕ → ℕ) × ((h : ℕ) → In h r.scope → S h (l h) ≡ true) × Allowed r l × ((h : ℕ) → In h r.scope → labels rs h ≡ labels rs f → A.0 h ≡ l h)
      go (inl (g, i, e)) =
          let s = at g i in
          (s.line, s.inside, s.allowed, λ h j p. subst (λ z. A.0 z ≡ s.line z) (label_apart (labels rs) r.scope apart g h i j (e ∙ sym p)) (sym s.gives))
      go (inr k) =
          let s = at first.0 first.1 in
          (s.line, s.inside, s.allowed, λ h j p. absurd (k h j p))

  -- for each label an assignment that fits the line and f
  choose : (f v : ℕ) (A : Extended n rs S f v) (c : ℕ) → (B : ℕ → ℕ) × Setting rs B × Inside n S B × ((h : ℕ) → In h r.scope → labels rs h ≡ c → B h ≡ (line f v A).0 h) × (labels rs f ≡ c → B f ≡ v)
  choose f v A c = go (cases_eq (labels rs f) c) (find (labels rs) c r.scope)
    where
      go : (labels rs f ≡ c) ⊎ (labels rs f ≡ c → ⊥) → ((h : ℕ) × In h r.scope × (labels rs h ≡ c)) ⊎ ((h : ℕ) → In h r.scope → labels rs h ≡ c → ⊥) → (B : ℕ → ℕ) × Setting rs B × Inside n S B × ((h : ℕ) → In h r.scope → labels rs h ≡ c → B h ≡ (line f v A).0 h) × (labels rs f ≡ c → B f ≡ v)
      go (inl e) _ = (A.0, A.2, A.3, λ h i p. (line f v A).3 h i (p ∙ sym e), λ _. A.1)
      go (inr k) (inl (g, i, e)) =
          let B = ext g ((line f v A).0 g) (below g i) ((line f v A).1 g i) in
          (B.0, B.2, B.3, λ h j p. subst (λ z. B.0 z ≡ (line f v A).0 z) (label_apart (labels rs) r.scope apart g h i j (e ∙ sym p)) B.1, λ p. absurd (k p))
      go (inr k) (inr m) = (A.0, A.2, A.3, λ h i p. absurd (m h i p), λ _. A.1)

  more : (f v : ℕ) → f < n → S f v ≡ true → Extended n (r ∷ rs) S f v
  more f v l e =
      let A = ext f v l e in
      let B = choose f v A in
      let a : ℕ → ℕ = λ x. (B (labels rs x)).0 x in
      let same = map_same (line f v A).0 a r.scope (λ h i. sym ((B (labels rs h)).3 h i refl)) in
      (a, (B (labels rs f)).4 refl, (subst (λ xs. r.allows xs ≡ true) same (line f v A).2, glue (labels rs) (λ c. (B c).0) rs (one_label rs) (λ c. (B c).1)), λ x m. (B (labels rs x)).2 x m)

-- rules that make a tree extend every value of a standing choice
trees_extend : (n : ℕ) (rules : List Rule) (S : Sets) → EachRule (LawfulRule n) rules → Tree rules → Standing n rules S
    → (f v : ℕ) → f < n → S f v ≡ true → Extended n rules S f v
trees_extend n [] S law tree st f v l e = start n S st.some_value f v e
trees_extend n (r ∷ rs) S law tree st f v l e =
    more n r rs S law.0.below (some_in r.scope law.0.names_some) tree.0 st.supported.0
    (trees_extend n rs S law.1 tree.1 (record { some_value = st.some_value; supported = st.supported.1 })) f v l e

pub ringless_extends : RinglessExtends
ringless_extends n rules C law no-ring st =
    elim (tree_or_ring n rules law) [ inl tree ↦ trees_extend n rules C law.each tree st | inr ring ↦ absurd (no-ring ring) ]
