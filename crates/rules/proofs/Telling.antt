-- What a book tells of a rule says whether the rule is lawful. Assumes nothing.
use Rattle.std.proofs.Common.{◌≡◌, ℕ, zero, suc, ◌<◌, ◌≤◌, true, false, eqb, ◌⊎◌, List, [], ◌∷◌, length, get_or, sym, refl, ap, ◌∙◌, subst, inl, inr, ⊎_elim, arith}
use Rattle.std.proofs.lemmas.List.{get_or_default}
use Rattle.std.proofs.lemmas.Bool.{cases_eq, cases_lt, cases_Bool, eq-eqb, ne_eqb, cond-true, cond-false}
use Rattle.std.proofs.lemmas.Bool.Decides.{nat_tests}
use Rattle.rows.specs.Values.{Values, how_many, without}
use Rattle.rows.proofs.Counts.{how_many_le, how_many_same, how_many_without, without_other, without_same}
use Rattle.rules.specs.Books.{no_rule, rule_at, told, told_count, told_size, told_field}
use Rattle.rules.specs.Rules.{Rule, In, Distinct, EachRule, LawfulRule}
use Rattle.rules.specs.Tree.{member}
use Rattle.rules.proofs.Lists.{member_in}

-- the fields of a list, as a set
abbrev named : List ℕ → Values
named xs f = member f xs

-- with the first field taken out, those of the rest are left
rest_named : (x : ℕ) (xs : List ℕ) → (In x xs → ⊥) → (f : ℕ) → without (named (x ∷ xs)) x f ≡ named xs f
rest_named x xs fresh f =
    ⊎_elim
    (λ e. without_same (named (x ∷ xs)) x f e ∙ sym (absent (cases_Bool (member f xs)) e))
    (λ ne. without_other (named (x ∷ xs)) x f ne ∙ cond-false (eqb f x) true (member f xs) (ne_eqb f x ne))
    (cases_eq f x)
  where
    absent : (member f xs ≡ true) ⊎ (member f xs ≡ false) → f ≡ x → member f xs ≡ false
    absent (inl here) e = absurd (fresh (subst (λ g. In g xs) e (member_in f xs here)))
    absent (inr gone) e = gone

-- a list of fields below n, none twice, has at most n of them
counted : (n : ℕ) (xs : List ℕ) → ((f : ℕ) → In f xs → f < n) → Distinct xs → length xs ≤ how_many n (named xs)
counted n [] below apart = omega arith
counted n (x ∷ xs) below apart =
    let rest = counted n xs (λ f h. below f (inr h)) apart.1 in
    let here : named (x ∷ xs) x ≡ true = cond-true (eqb x x) true (member x xs) (eq-eqb x x refl) in
    let one = how_many_without n (named (x ∷ xs)) x (below x (inl refl)) here in
    let same = how_many_same n (without (named (x ∷ xs)) x) (named xs) (λ f _. rest_named x xs apart.0 f) in
    omega arith

short : (n : ℕ) (xs : List ℕ) → ((f : ℕ) → In f xs → f < n) → Distinct xs → length xs ≤ n
short n xs below apart = omega (arith, counted n xs below apart, how_many_le n (named xs))

pub past_rule : (rules : List Rule) (k : ℕ) → length rules ≤ k → rule_at rules k ≡ no_rule
past_rule [] k h = refl
past_rule (r ∷ rs) zero h = absurd (omega arith)
past_rule (r ∷ rs) (suc k) h = past_rule rs k (omega arith)

module _ (rules : List Rule) (k n : ℕ) (reach : k ≤ 1023) (small : n ≤ 254) where
  past_many : length rules ≤ k → length (rule_at rules k).scope ≡ 0
  past_many h = ap (λ r. length r.scope) (past_rule rules k h)

  -- a rule that names no field, or that is told as 255, is not lawful
  pub unlawful_size : (told_size rules k ≡ 0) ⊎ (told_size rules k ≡ 255) → LawfulRule n (rule_at rules k) → ⊥
  unlawful_size size lawful =
      let few = short n (rule_at rules k).scope lawful.below lawful.apart in
      let some = lawful.names_some in
      ⊎_elim
      (λ within. elim size [ inl none ↦ grind (arith, nat_tests) | inr lots ↦ grind (arith, nat_tests) ])
      (λ past. let none = past_many past in omega arith)
      (cases_lt k (length rules))

  -- any other told size is the size
  pub whole_size : (told_size rules k ≡ 255 → ⊥) → told_size rules k ≡ length (rule_at rules k).scope
  whole_size known = grind (arith, nat_tests)

  -- a field that is told as one below n is that field
  pub field_is : (place : ℕ) → place < length (rule_at rules k).scope → told_field rules k place < n → told_field rules k place ≡ get_or (rule_at rules k).scope place 0
  field_is place within h = let same = get_or_default (rule_at rules k).scope place 255 0 within in grind (arith, nat_tests)

  -- a field that is told as none below n is none
  pub field_large : (place : ℕ) → place < length (rule_at rules k).scope → n ≤ told_field rules k place → n ≤ get_or (rule_at rules k).scope place 0
  field_large place within h = let same = get_or_default (rule_at rules k).scope place 255 0 within in grind (arith, nat_tests)

-- a told count of at most 1,024 is the count
pub whole_count : (rules : List Rule) (count : ℕ) → count ≡ told_count rules → count ≤ 1024 → length rules ≡ count
whole_count rules count told few = grind (arith, nat_tests)

-- every rule of a list, by its place
pub each_by_place : (P : Rule → Type 0) (rules : List Rule) → ((k : ℕ) → k < length rules → P (rule_at rules k)) → EachRule P rules
each_by_place P [] h = tt
each_by_place P (r ∷ rs) h = (h 0 (omega arith), each_by_place P rs (λ k l. h (suc k) (omega arith)))

pub place_by_each : (P : Rule → Type 0) (rules : List Rule) → EachRule P rules → (k : ℕ) → k < length rules → P (rule_at rules k)
place_by_each P [] h k l = absurd (omega arith)
place_by_each P (r ∷ rs) h zero l = h.0
place_by_each P (r ∷ rs) h (suc k) l = place_by_each P rs h.1 k (omega arith)
