-- The labels of a rule's fields, by what a book tells of the rule. Assumes nothing.
use Rattle.std.proofs.Common.{◌≡◌, ℕ, ◌+◌, ◌<◌, ◌≤◌, Bool, true, false, cond, eqb, ltb, List, [], ◌∷◌, ◌++◌, map, length, get_or, sym, refl, ap, ◌∙◌, subst, inl, inr, ⊎_elim, arith}
use lib.ListN.{length-map}
use Rattle.std.specs.Bool.{then_some}
use Rattle.std.specs.List.{range_with_len}
use Rattle.std.proofs.lemmas.Bool.{cases_Bool, cases_lt, ltb-true, and_parts, both_ways, eqb-true}
use Rattle.std.proofs.lemmas.Bool.Decides.{same_from_decides}
use Rattle.std.proofs.lemmas.List.{get_or-map}
use Rattle.std.proofs.lemmas.List.FromFn.{fill_by_all}
use Rattle.rules.specs.Books.{rule_at, told_size, told_field}
use Rattle.rules.specs.Rules.{Rule, In, Distinct, LawfulRule, Lawful}
use Rattle.rules.specs.Seen.{was_seen, New, Notes, NotesBytes}
use Rattle.rules.specs.Tree.{member, merge}
use Rattle.rules.specs.declared.marks.Seen.{Seen}
use Rattle.rules.proofs.Fields.{in_at}
use Rattle.rules.proofs.Lists.{member_true, member_in, in_either, halves_apart}
use Rattle.rules.proofs.NewFields.{noted_new, refused_old}
use Rattle.rules.proofs.Telling.{unlawful_size, whole_size, field_is, field_large, place_by_each}
use Rattle.settle.specs.Labels.{replaced, MeetsLabels}
use Rattle.settle.proofs.Rounding.{in_or_not}

-- what is told of a lawful rule is its scope
module _ (rules : List Rule) (k : ℕ) (reach : k ≤ 1023) (law : LawfulRule 254 (rule_at rules k)) where
  pub size_is : told_size rules k ≡ length (rule_at rules k).scope
  size_is = whole_size rules k 254 reach (omega arith) (λ e. unlawful_size rules k 254 reach (omega arith) (inr e) law)

  pub field_told : (place : ℕ) → place < length (rule_at rules k).scope → told_field rules k place ≡ get_or (rule_at rules k).scope place 0
  field_told place within =
      ⊎_elim
      (field_is rules k 254 reach (omega arith) place within)
      (λ large. absurd (let far = field_large rules k 254 reach (omega arith) place within large in omega (arith, law.below _ (in_at (rule_at rules k).scope place 0 within))))
      (cases_lt (told_field rules k place) 254)

-- and so it is of each rule of a lawful book
module _ (rules : List Rule) (n k : ℕ) (known : n ≤ 254) (lawful : Lawful n rules) (there : k < length rules) where
  pub rule_lawful : LawfulRule n (rule_at rules k)
  rule_lawful = place_by_each (LawfulRule n) rules lawful.each k there

  reach : k ≤ 1023
  reach = omega (arith, lawful.few)

  wide : LawfulRule 254 (rule_at rules k)
  wide = record { names_some = rule_lawful.names_some; below = λ f i. omega (arith, rule_lawful.below f i); apart = rule_lawful.apart }

  pub book_size : told_size rules k ≡ length (rule_at rules k).scope
  book_size = size_is rules k reach wide

  pub book_field : (place : ℕ) → place < length (rule_at rules k).scope → told_field rules k place ≡ get_or (rule_at rules k).scope place 0
  book_field = field_told rules k reach wide

  -- the labels of its fields, place by place
  pub labels_told : (L : ℕ → ℕ) (size : ℕ) → size ≡ told_size rules k → map L (rule_at rules k).scope ≡ map (λ place. L (told_field rules k place)) (range_with_len 0 size)
  labels_told L size told =
      let scope = (rule_at rules k).scope in
      let long : length scope ≡ size = omega (arith, book_size) in
      fill_by_all (λ place. L (told_field rules k place)) (map L scope) size 0 (rw length-map long)
      (λ place l. get_or-map L scope place 0 0 (omega arith) ∙ ap L (sym (book_field place (omega arith))))

-- a list with one field more, which is not in it
one_more_apart : (xs : List ℕ) (c : ℕ) → Distinct xs → (In c xs → ⊥) → Distinct (xs ++ c ∷ [])
one_more_apart [] c apart out = (λ h. h, tt)
one_more_apart (x ∷ xs) c apart out = (
  λ h. ⊎_elim apart.0 (λ last. elim last [ inl e ↦ out (inl (sym e)) | inr none ↦ none ]) (in_either xs (c ∷ []) x h),
  one_more_apart xs c apart.1 (λ h. out (inr h)),
)

-- labels that are noted are all different, and just they have been met
module _ (cs : List ℕ) (none met : Seen) (clear : (c : ℕ) → was_seen none c ≡ false) (notes : Notes cs 256 none met true) where
  noted_met : (c : ℕ) → In c cs → was_seen met c ≡ true
  noted_met c h = ⊎_elim (λ e. e) (λ fresh. absurd (halves_apart cs (c ∷ []) (notes.back refl (c ∷ []) (one fresh)).apart c h (inl refl))) (cases_Bool (was_seen met c))
    where
      one : was_seen met c ≡ false → New met 256 (c ∷ [])
      one fresh = record {
        below = λ f i. elim i [ inl e ↦ subst (λ u. u < 256) (sym e) ((noted_new 256 cs none met notes).below c h) | inr k ↦ absurd k ];
        fresh = λ f i. elim i [ inl e ↦ subst (λ u. was_seen met u ≡ false) (sym e) fresh | inr k ↦ absurd k ];
        apart = (λ k. k, tt);
      }

  met_noted : (c : ℕ) → was_seen met c ≡ true → In c cs
  met_noted c e = ⊎_elim (λ h. h) (λ out. absurd (both_ways (was_seen met c) ((notes.onward refl (c ∷ []) (more out)).fresh c (inl refl)) e)) (in_or_not c cs)
    where
      more : (In c cs → ⊥) → New none 256 (cs ++ c ∷ [])
      more out =
          let all = noted_new 256 cs none met notes in
          record {
            below = λ f h. ⊎_elim (all.below f) (λ last. elim last [ inl i ↦ subst (λ u. u < 256) (sym i) (ltb-true c 256 (and_parts (ltb c 256) _ e).0) | inr k ↦ absurd k ]) (in_either cs (c ∷ []) f h);
            fresh = λ f _. clear f;
            apart = one_more_apart cs c all.apart out;
          }

-- above all of a list's numbers, and no byte
limit : List ℕ → ℕ
limit [] = 256
limit (x ∷ xs) = x + 1 + limit xs

limit_bytes : (xs : List ℕ) → 256 ≤ limit xs
unfolding limit
limit_bytes [] = omega arith
limit_bytes (x ∷ xs) = omega (arith, limit_bytes xs)

limit_above : (xs : List ℕ) (x : ℕ) → In x xs → x < limit xs
unfolding limit
limit_above [] x h = absurd h
limit_above (y ∷ ys) x (inl e) = omega arith
limit_above (y ∷ ys) x (inr h) = omega (arith, limit_above ys x h)

-- noting the labels of a scope, as they are told, meets them all, or finds two fields under one
pub labels_noted : (L : ℕ → ℕ) (scope : List ℕ) (none met : Seen) (different : Bool) (fs : List ℕ) → map L scope ≡ fs → ((c : ℕ) → was_seen none c ≡ false) → NotesBytes fs 256 none met different
    → MeetsLabels L scope (then_some different met)
labels_noted L scope none met different fs is clear notes = noted different (subst (λ gs. NotesBytes gs 256 none met different) (sym is) notes)
  where
    noted : (different : Bool) → NotesBytes (map L scope) 256 none met different → MeetsLabels L scope (then_some different met)
    noted true all =
        let bytes = all 256 refl in (
          (noted_new 256 (map L scope) none met bytes).apart,
          λ c. same_from_decides (was_seen met c) (member c (map L scope)) (met_noted (map L scope) none met clear bytes c, noted_met (map L scope) none met clear bytes c)
              (member_in c (map L scope), member_true c (map L scope)),
        )
    noted false all = λ apart.
        let many = limit (map L scope) in
        refused_old many (map L scope) none met (all many (omega (arith, limit_bytes (map L scope))))
        (record { below = limit_above (map L scope); fresh = λ f _. clear f; apart = apart })

-- replacing the labels met by that of the first field brings the scope under one label
pub merged : (L : ℕ → ℕ) (scope : List ℕ) (met : Seen) → ((c : ℕ) → was_seen met c ≡ member c (map L scope)) → 0 < length scope → (f : ℕ) → replaced met (L (get_or scope 0 0)) L f ≡ merge L scope f
merged L [] met noted some f = absurd (omega arith)
merged L (g ∷ gs) met noted some f = ap (λ b. cond b (L g) (L f)) (noted (L f)) ∙ go (eqb (L f) (L g)) refl (member (L f) (map L gs))
  where
    go : (b : Bool) → eqb (L f) (L g) ≡ b → (rest : Bool) → cond (cond b true rest) (L g) (L f) ≡ cond rest (L g) (L f)
    go true e true = refl
    go true e false = sym (eqb-true (L f) (L g) e)
    go false e rest = refl

-- a scope of one field joins nothing
pub merge_one_field : (L : ℕ → ℕ) (scope : List ℕ) → length scope ≤ 1 → (f : ℕ) → merge L scope f ≡ L f
merge_one_field L [] few f = refl
merge_one_field L (g ∷ []) few f = refl
merge_one_field L (g ∷ (h ∷ hs)) few f = absurd (omega arith)
