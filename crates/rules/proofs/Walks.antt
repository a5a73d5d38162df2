-- Walks from field to field through scopes, with no field and no place twice.
use Rattle.std.proofs.Common.{◌≡◌, ℕ, zero, suc, ◌<◌, ◌⊎◌, List, [], ◌∷◌, ◌++◌, map, length, get_or, sym, refl, ap, ◌∙◌, subst, inl, inr, le_of_suc-le-suc, not-suc-le-zero, arith}
use native.Mathlib.Nat.{suc_inj}
use Rattle.std.proofs.lemmas.Bool.{cases_eq}
use Rattle.rules.specs.Rules.{Rule, In, Distinct}
use Rattle.rules.specs.Rings.{scope_at}
use Rattle.rules.specs.Tree.{labels}
use Rattle.rules.proofs.Lists.{from_map, in_either}
use Rattle.rules.proofs.Labels.{one_label_at, merge_keeps, merge_one, merge_cases, Touches}

distinct_append : (xs ys : List ℕ) → Distinct xs → Distinct ys → ((x : ℕ) → In x xs → In x ys → ⊥) → Distinct (xs ++ ys)
distinct_append [] ys d e k = e
distinct_append (x ∷ xs) ys d e k = (λ i. elim (in_either xs ys x i) [ inl j ↦ d.0 j | inr j ↦ k x (inl refl) j ], distinct_append xs ys d.1 e (λ z i j. k z (inr i) j))

in_suc : (x : ℕ) (xs : List ℕ) → In (suc x) (map suc xs) → In x xs
in_suc x xs i = let t = from_map suc (suc x) xs i in subst (λ z. In z xs) (suc_inj t.2) t.1

pub distinct_suc : (xs : List ℕ) → Distinct xs → Distinct (map suc xs)
distinct_suc [] d = tt
distinct_suc (x ∷ xs) d = (λ i. d.0 (in_suc x xs i), distinct_suc xs d.1)

pub no_zero : (xs : List ℕ) → In 0 (map suc xs) → ⊥
no_zero xs i = let e = (from_map suc 0 xs i).2 in omega arith

-- from g over the fields hs to z, each step in the scope at a place of ps
pub data Walk (rules : List Rule) : ℕ → List ℕ → List ℕ → ℕ → Type 0 where
  stop : {g : ℕ} → Walk rules g [] [] g
  step : {g h p z : ℕ} {hs ps : List ℕ} → p < length rules → In g (scope_at rules p) → In h (scope_at rules p) → Walk rules h hs ps z → Walk rules g (h ∷ hs) (p ∷ ps) z

pub shift : (r : Rule) {rs : List Rule} {g z : ℕ} {hs ps : List ℕ} → Walk rs g hs ps z → Walk (r ∷ rs) g hs (map suc ps) z
shift r stop = stop
shift r (step l i j w) = step (omega arith) i j (shift r w)

join : {rules : List Rule} {g s z : ℕ} {hs ps is qs : List ℕ} → Walk rules g hs ps s → Walk rules s is qs z → Walk rules g (hs ++ is) (ps ++ qs) z
join stop v = v
join (step l i j w) v = step l i j (join w v)

-- a place of the walk has a field of the walk in its scope
met : {rules : List Rule} {g z : ℕ} {hs ps : List ℕ} → Walk rules g hs ps z → (p : ℕ) → In p ps → (x : ℕ) × In x (g ∷ hs) × In x (scope_at rules p)
met stop p i = absurd i
met {rules} {g} (step l i j w) p (inl e) = (g, inl refl, subst (λ q. In g (scope_at rules q)) (sym e) i)
met (step l i j w) p (inr k) = let t = met w p k in (t.0, inr t.1, t.2)

pub as_long : {rules : List Rule} {g z : ℕ} {hs ps : List ℕ} → Walk rules g hs ps z → length hs ≡ length ps
as_long stop = refl
as_long (step l i j w) = ap suc (as_long w)

pub not_still : {rules : List Rule} {g z : ℕ} {hs ps : List ℕ} → Walk rules g hs ps z → (g ≡ z → ⊥) → 0 < length ps
not_still stop k = absurd (k refl)
not_still (step l i j w) k = omega arith

pub step_at : {rules : List Rule} {g z : ℕ} {hs ps : List ℕ} → Walk rules g hs ps z → (i : ℕ) → i < length ps → (get_or ps i 0 < length rules) × In (get_or hs i 0) (scope_at rules (get_or ps i 0)) × In (get_or (g ∷ hs) i 0) (scope_at rules (get_or ps i 0))
step_at stop i h = absurd (not-suc-le-zero h)
step_at (step l a b w) zero h = (l, b, a)
step_at (step l a b w) (suc i) h = step_at w i (le_of_suc-le-suc h)

pub ends_at : {rules : List Rule} {g z : ℕ} {hs ps : List ℕ} → Walk rules g hs ps z → get_or (g ∷ hs) (length ps) 0 ≡ z
ends_at stop = refl
ends_at (step l a b w) = ends_at w

-- a walk with nothing twice, under one label
pub record Way (rules : List Rule) (g z : ℕ) : Type 0 where
  pub hs : List ℕ
  pub ps : List ℕ
  pub walk : Walk rules g hs ps z
  pub hs_apart : Distinct (g ∷ hs)
  pub ps_apart : Distinct ps
  pub under : (x : ℕ) → In x (g ∷ hs) → labels rules x ≡ labels rules g

later : (r : Rule) (rs : List Rule) (g z : ℕ) → Way rs g z → Way (r ∷ rs) g z
later r rs g z W = record {
  hs = W.hs;
  ps = map suc W.ps;
  walk = shift r W.walk;
  hs_apart = W.hs_apart;
  ps_apart = distinct_suc W.ps W.ps_apart;
  under = λ x i. merge_keeps (labels rs) r.scope x g (W.under x i);
}

through : (r : Rule) (rs : List Rule) (g s s' z : ℕ) → Way rs g s → Way rs s' z → In s r.scope → In s' r.scope → labels rs s ≡ labels rs g → (labels rs g ≡ labels rs s' → ⊥) → Way (r ∷ rs) g z
through r rs g s s' z V W i j e k = record {
  hs = V.hs ++ (s' ∷ W.hs);
  ps = map suc V.ps ++ (0 ∷ map suc W.ps);
  walk = join (shift r V.walk) (step (omega arith) i j (shift r W.walk));
  hs_apart = distinct_append (g ∷ V.hs) (s' ∷ W.hs) V.hs_apart W.hs_apart (λ x a b. k (sym (V.under x a) ∙ W.under x b));
  ps_apart = distinct_append (map suc V.ps) (0 ∷ map suc W.ps) (distinct_suc V.ps V.ps_apart) (no_zero W.ps, distinct_suc W.ps W.ps_apart) places;
  under = λ x a. elim (in_either (g ∷ V.hs) (s' ∷ W.hs) x a) [ inl b ↦ keep x g (V.under x b) | inr b ↦ keep x s' (W.under x b) ∙ merge_one (labels rs) r.scope s' s j i ∙ keep s g e ];
}
  where
    keep : (x y : ℕ) → labels rs x ≡ labels rs y → labels (r ∷ rs) x ≡ labels (r ∷ rs) y
    keep x y q = merge_keeps (labels rs) r.scope x y q

    apart : (p : ℕ) → In p V.ps → In p W.ps → ⊥
    apart p a b =
        let x = met V.walk p a in
        let y = met W.walk p b in
        k (sym (V.under x.0 x.1) ∙ one_label_at rs p x.0 y.0 x.2 y.2 ∙ W.under y.0 y.1)

    places : (p : ℕ) → In p (map suc V.ps) → In p (0 ∷ map suc W.ps) → ⊥
    places p a (inl q) = no_zero V.ps (subst (λ c. In c (map suc V.ps)) q a)
    places p a (inr b) =
        let t = from_map suc p V.ps a in
        apart t.0 t.1 (in_suc t.0 W.ps (subst (λ c. In c (map suc W.ps)) (sym t.2) b))

pub way : (rules : List Rule) (g z : ℕ) → labels rules g ≡ labels rules z → Way rules g z
way [] g z e = record {
  hs = [];
  ps = [];
  walk = subst (λ y. Walk [] g [] [] y) e stop;
  hs_apart = (λ i. i, tt);
  ps_apart = tt;
  under = λ x i. elim i [ inl q ↦ q | inr j ↦ absurd j ];
}
way (r ∷ rs) g z e = go (cases_eq (labels rs g) (labels rs z)) (merge_cases (labels rs) r.scope g z e) (way rs)
  where
    go : (labels rs g ≡ labels rs z) ⊎ (labels rs g ≡ labels rs z → ⊥) → (labels rs g ≡ labels rs z) ⊎ Touches (labels rs) r.scope g z → ((x y : ℕ) → labels rs x ≡ labels rs y → Way rs x y) → Way (r ∷ rs) g z
    go (inl q) m f = later r rs g z (f g z q)
    go (inr k) (inl q) f = absurd (k q)
    go (inr k) (inr (s, s', i, j, a, b)) f = through r rs g s s' z (f g s (sym a)) (f s' z b) i j a (λ q. k (q ∙ b))
