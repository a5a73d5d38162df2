-- Labels from the last rule to the first tell whether rules have a ring. Assumes nothing.
use Rattle.std.proofs.Common.{◌≡◌, ℕ, zero, suc, ◌<◌, ◌≤◌, true, false, cond, List, [], ◌∷◌, map, length, drop, sym, refl, ap, ◌∙◌, subst, ap₂, inl, inr, arith, drop_of_length-le}
use Rattle.rules.specs.Books.{rule_at}
use Rattle.rules.specs.Rings.{Ring}
use Rattle.rules.specs.Rules.{Rule, In, Distinct, LawfulRule, Lawful}
use Rattle.rules.specs.Tree.{member, merge, labels, Tree}
use Rattle.rules.proofs.Decided.{rings_decided}
use Rattle.rules.proofs.Lists.{map_same}
use Rattle.rules.proofs.Telling.{place_by_each}
use Rattle.settle.specs.Labels.{label_of, Labelled, Joins}
use Rattle.settle.specs.declared.labels.Labels.{Labels}

-- with no rule yet, each field has its own label
pub labels_start : (rules : List Rule) (k : ℕ) (kept : Labels) → length rules ≤ k → Labelled kept (λ f. f) → Tree (drop k rules) × Labelled kept (labels (drop k rules))
labels_start rules k kept done own =
    let over : drop k rules ≡ [] = drop_of_length-le rules done in
    subst (λ rs. Tree rs × Labelled kept (labels rs)) (sym over) (tt, own)

rules_from : (rules : List Rule) (j : ℕ) → j < length rules → drop j rules ≡ rule_at rules j ∷ drop (suc j) rules
rules_from [] j l = absurd (omega arith)
rules_from (r ∷ rs) zero l = refl
rules_from (r ∷ rs) (suc j) l = rules_from rs j (omega arith)

tree_behind : (rules : List Rule) (j : ℕ) → Tree rules → Tree (drop j rules)
tree_behind [] zero t = t
tree_behind [] (suc j) t = t
tree_behind (r ∷ rs) zero t = t
tree_behind (r ∷ rs) (suc j) t = tree_behind rs j t.1

merge_same : (L M : ℕ → ℕ) (scope : List ℕ) (f : ℕ) → ((x : ℕ) → In x scope → L x ≡ M x) → L f ≡ M f → merge L scope f ≡ merge M scope f
merge_same L M [] f same at = at
merge_same L M (g ∷ gs) f same at =
    let ls = map_same L M gs (λ x i. same x (inr i)) in
    ap₂ (λ c cs. cond (member c cs) (L g) c) at ls ∙ ap (λ c. cond (member (M f) (map M gs)) c (M f)) (same g (inl refl))

-- rule j in front of those behind it
module _ (rules : List Rule) (n : ℕ) (known : n ≤ 254) (law : Lawful n rules) (k j : ℕ) (next : k ≡ suc j) (within : j < length rules) (before after : Labels) (tree : Tree (drop k rules)) (kept : Labelled before (labels (drop k rules))) where
  scope : List ℕ
  scope = (rule_at rules j).scope

  rest : List Rule
  rest = drop (suc j) rules

  now_kept : Labelled before (labels rest)
  unfolding rest
  now_kept = subst (λ i. Labelled before (labels (drop i rules))) next kept

  same : (x : ℕ) → In x scope → label_of before x ≡ labels rest x
  unfolding scope
  same x i = now_kept x (omega (arith, (place_by_each (LawfulRule n) rules law.each j within).below x i))

  pub joined_tree : Joins (label_of before) (rule_at rules j).scope after true → Tree (drop j rules) × Labelled after (labels (drop j rules))
  unfolding scope rest
  joined_tree joins =
      let apart = subst Distinct (map_same (label_of before) (labels rest) scope same) joins.0 in
      let behind = subst (λ i. Tree (drop i rules)) next tree in
      subst (λ rs. Tree rs × Labelled after (labels rs)) (sym (rules_from rules j within))
      ((apart, behind), λ f l. joins.1 f l ∙ merge_same (label_of before) (labels rest) scope f same (now_kept f l))

  pub clash_ring : Joins (label_of before) (rule_at rules j).scope after false → Ring rules
  unfolding scope rest
  clash_ring joins =
      (rings_decided n rules law).1
      (λ whole.
      let here = subst Tree (rules_from rules j within) (tree_behind rules j whole) in
      joins (subst Distinct (sym (map_same (label_of before) (labels rest) scope same)) here.0))

-- no rule is left
pub whole_tree : (rules : List Rule) (k : ℕ) → k ≤ 0 → Tree (drop k rules) → Tree rules
whole_tree [] k none t = tt
whole_tree (r ∷ rs) zero none t = t
whole_tree (r ∷ rs) (suc k) none t = absurd (omega arith)
