-- Rules make a tree or have a ring.
use Rattle.std.proofs.Common.{◌≡◌, ℕ, zero, suc, ◌<◌, ◌⊎◌, List, [], ◌∷◌, map, length, get_or, sym, refl, ap, ◌∙◌, subst, inl, inr, le_of_suc-le-suc, arith}
use Rattle.std.proofs.lemmas.Bool.{cases_eq}
use Rattle.rules.specs.Rules.{Rule, In, Distinct, EachRule, LawfulRule, Lawful}
use Rattle.rules.specs.Rings.{Ring, scope_at, next}
use Rattle.rules.specs.Theorems.{RingsDecided}
use Rattle.rules.specs.Tree.{labels, Tree}
use Rattle.rules.proofs.Lists.{find, from_map}
use Rattle.rules.proofs.Labels.{each_map}
use Rattle.rules.proofs.Loops.{next_inner, next_last, tree_no_ring}
use Rattle.rules.proofs.Walks.{Walk, shift, as_long, not_still, step_at, ends_at, Way, way, distinct_suc, no_zero}

abbrev Clash : (ℕ → ℕ) → List ℕ → Type 0
Clash L xs = (x : ℕ) × (y : ℕ) × In x xs × In y xs × (x ≡ y → ⊥) × (L x ≡ L y)

apart_or_clash : (L : ℕ → ℕ) (xs : List ℕ) → Distinct xs → Distinct (map L xs) ⊎ Clash L xs
apart_or_clash L [] d = inl tt
apart_or_clash L (x ∷ xs) d = go (find L (L x) xs) (apart_or_clash L xs d.1)
  where
    go : ((h : ℕ) × In h xs × (L h ≡ L x)) ⊎ ((h : ℕ) → In h xs → L h ≡ L x → ⊥) → Distinct (map L xs) ⊎ Clash L xs → Distinct (map L (x ∷ xs)) ⊎ Clash L (x ∷ xs)
    go (inl (h, i, e)) m = inr (x, h, inl refl, inr i, (λ q. d.0 (subst (λ z. In z xs) (sym q) i)), sym e)
    go (inr k) (inl m) = inl ((λ i. let t = from_map L (L x) xs i in k t.0 t.1 t.2), m)
    go (inr k) (inr (y, z, i, j, d', e)) = inr (y, z, inr i, inr j, d', e)

-- a walk from g to z that the scope at p closes
record Round (rules : List Rule) : Type 0 where
  g : ℕ
  z : ℕ
  p : ℕ
  hs : List ℕ
  ps : List ℕ
  walk : Walk rules g hs ps z
  below : p < length rules
  from : In g (scope_at rules p)
  to : In z (scope_at rules p)
  moves : g ≡ z → ⊥
  hs_apart : Distinct (g ∷ hs)
  ps_apart : Distinct (p ∷ ps)

behind : (r : Rule) (rs : List Rule) → Round rs → Round (r ∷ rs)
behind r rs R = record {
  g = R.g;
  z = R.z;
  p = suc R.p;
  hs = R.hs;
  ps = map suc R.ps;
  walk = shift r R.walk;
  below = omega (arith, R.below);
  from = R.from;
  to = R.to;
  moves = R.moves;
  hs_apart = R.hs_apart;
  ps_apart = distinct_suc (R.p ∷ R.ps) R.ps_apart;
}

closed : (r : Rule) (rs : List Rule) (x y : ℕ) → In x r.scope → In y r.scope → (x ≡ y → ⊥) → Way rs x y → Round (r ∷ rs)
closed r rs x y i j k W = record {
  g = x;
  z = y;
  p = 0;
  hs = W.hs;
  ps = map suc W.ps;
  walk = shift r W.walk;
  below = omega arith;
  from = i;
  to = j;
  moves = k;
  hs_apart = W.hs_apart;
  ps_apart = (no_zero W.ps, distinct_suc W.ps W.ps_apart);
}

round_ring : (rules : List Rule) → Round rules → Ring rules
round_ring rules R = record {
  places = R.p ∷ R.ps;
  fields = R.g ∷ R.hs;
  as_many = ap suc (as_long R.walk);
  two = let l = not_still R.walk R.moves in omega arith;
  places_apart = R.ps_apart;
  fields_apart = R.hs_apart;
  within = within_at;
  here = here_at;
  there = there_at;
}
  where
    within_at : (i : ℕ) → i < suc (length R.ps) → get_or (R.p ∷ R.ps) i 0 < length rules
    within_at zero h = R.below
    within_at (suc i) h = (step_at R.walk i (le_of_suc-le-suc h)).0

    here_at : (i : ℕ) → i < suc (length R.ps) → In (get_or (R.g ∷ R.hs) i 0) (scope_at rules (get_or (R.p ∷ R.ps) i 0))
    here_at zero h = R.from
    here_at (suc i) h = (step_at R.walk i (le_of_suc-le-suc h)).1

    there_at : (i : ℕ) → i < suc (length R.ps) → In (get_or (R.g ∷ R.hs) i 0) (scope_at rules (get_or (R.p ∷ R.ps) (next (suc (length R.ps)) i) 0))
    there_at i h = go (cases_eq i (length R.ps))
      where
        goal : ℕ → Type 0
        goal q = In (get_or (R.g ∷ R.hs) i 0) (scope_at rules (get_or (R.p ∷ R.ps) q 0))

        go : (i ≡ length R.ps) ⊎ (i ≡ length R.ps → ⊥) → goal (next (suc (length R.ps)) i)
        go (inl e) = subst goal (sym (next_last (suc (length R.ps)) i (ap suc e))) (subst (λ y. In y (scope_at rules R.p)) (sym (ap (λ q. get_or (R.g ∷ R.hs) q 0) e ∙ ends_at R.walk)) R.to)
        go (inr k) = subst goal (sym (next_inner (suc (length R.ps)) i (omega arith))) (step_at R.walk i (omega arith)).2

tree_or_round : (rules : List Rule) → EachRule (λ r. Distinct r.scope) rules → Tree rules ⊎ Round rules
tree_or_round [] d = inl tt
tree_or_round (r ∷ rs) d = go (tree_or_round rs d.1) (apart_or_clash (labels rs) r.scope d.0)
  where
    go : Tree rs ⊎ Round rs → Distinct (map (labels rs) r.scope) ⊎ Clash (labels rs) r.scope → Tree (r ∷ rs) ⊎ Round (r ∷ rs)
    go (inr R) m = inr (behind r rs R)
    go (inl t) (inl m) = inl (m, t)
    go (inl t) (inr (x, y, i, j, k, e)) = inr (closed r rs x y i j k (way rs x y e))

pub tree_or_ring : (n : ℕ) (rules : List Rule) → Lawful n rules → Tree rules ⊎ Ring rules
tree_or_ring n rules law = go (tree_or_round rules (each_map (LawfulRule n) (λ r. Distinct r.scope) (λ r h. h.apart) rules law.each))
  where
    go : Tree rules ⊎ Round rules → Tree rules ⊎ Ring rules
    go (inl t) = inl t
    go (inr R) = inr (round_ring rules R)

pub rings_decided : RingsDecided
rings_decided n rules law = (tree_no_ring rules, λ no-tree. elim (tree_or_ring n rules law) [ inl t ↦ absurd (no-tree t) | inr R ↦ R ])
