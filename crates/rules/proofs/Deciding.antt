-- Noting a rule's told fields decides whether it is lawful. Assumes nothing.
use Rattle.std.proofs.Common.{◌≡◌, ℕ, suc, ◌+◌, ◌<◌, ◌≤◌, Bool, true, false, ◌||◌, eqb, ◌⊎◌, List, [], ◌∷◌, map, length, get_or, Decides, sym, refl, ap, ap₂, ◌∙◌, subst, inl, inr, arith}
use Rattle.std.proofs.lemmas.Bool.{false≢true}
use Rattle.std.proofs.lemmas.Bool.Decides.{nat_tests}
use Rattle.std.specs.List.{range_with_len}
use Rattle.rules.specs.Books.{rule_at, told, told_size, told_field}
use Rattle.rules.specs.Rules.{Rule, In, LawfulRule}
use Rattle.rules.specs.Seen.{was_seen, New, Notes}
use Rattle.rules.specs.declared.marks.Seen.{Seen}
use Rattle.rules.proofs.NewFields.{noted_new, refused_old}
use Rattle.rules.proofs.Noting.{Noted, more_noted, all_noted, not_noted}
use Rattle.rules.proofs.Telling.{whole_size, field_is, field_large}

-- what is told place by place is what is told of each field
told_each : (xs : List ℕ) (a : ℕ) (f : ℕ → ℕ) → ((i : ℕ) → i < length xs → f (a + i) ≡ told (get_or xs i 255)) → map f (range_with_len a (length xs)) ≡ map told xs
told_each [] a f each = refl
told_each (x ∷ xs) a f each =
    ap₂ (λ y ys. y ∷ ys) (ap f (omega arith) ∙ each 0 (omega arith))
    (told_each xs (a + 1) f (λ i l. ap f (omega arith) ∙ each (suc i) (omega arith)))

module _ (n : ℕ) (small : n ≤ 254) where
  told_same : (x : ℕ) → x < n → told x ≡ x
  told_same x l = grind (arith, nat_tests)

  told_is : (x : ℕ) → told x < n → told x ≡ x
  told_is x l = grind (arith, nat_tests)

  -- fields that lie below n are told as they are
  all_same : (xs : List ℕ) → ((f : ℕ) → In f xs → f < n) → map told xs ≡ xs
  all_same [] below = refl
  all_same (x ∷ xs) below = ap₂ (λ y ys. y ∷ ys) (told_same x (below x (inl refl))) (all_same xs (λ f h. below f (inr h)))

  -- and so are those that are told as fields below n
  all_are : (xs : List ℕ) → ((f : ℕ) → In f (map told xs) → f < n) → map told xs ≡ xs
  all_are [] below = refl
  all_are (x ∷ xs) below = ap₂ (λ y ys. y ∷ ys) (told_is x (below (told x) (inl refl))) (all_are xs (λ f h. below f (inr h)))

module _ (rules : List Rule) (k n : ℕ) (reach : k ≤ 1023) (small : n ≤ 254) (size : ℕ) (told-size : size ≡ told_size rules k) (some : size ≡ 0 → ⊥) (known : size ≡ 255 → ⊥) where
  -- the fields that a book tells of rule k, in order
  abbrev fields_told : List ℕ
  fields_told = map (told_field rules k) (range_with_len 0 size)

  whole : size ≡ length (rule_at rules k).scope
  whole = told-size ∙ whole_size rules k n reach small (λ e. known (told-size ∙ e))

  -- one field more
  pub noted_more : (seen seen' : Seen) (place field : ℕ) → place < size → field ≡ told_field rules k place → field < n → was_seen seen field ≡ false
      → ((f : ℕ) → was_seen seen' f ≡ (was_seen seen f || eqb f field)) → Noted seen (rule_at rules k).scope n place → Noted seen' (rule_at rules k).scope n (place + 1)
  noted_more seen seen' place field within tells-field below new after noted =
      let long = whole in
      let inside : place < length (rule_at rules k).scope = omega arith in
      let is : field ≡ get_or (rule_at rules k).scope place 0 = tells-field ∙ field_is rules k n reach small place inside (subst (λ f. f < n) tells-field below) in
      more_noted (rule_at rules k).scope n seen seen' place 0 inside noted (subst (λ f. f < n) is below) (ap (was_seen seen) (sym is) ∙ new)
      (λ f. after f ∙ ap (λ h. was_seen seen f || eqb f h) is)

  -- a field that breaks the rule
  pub broken : (seen : Seen) (place field : ℕ) → place < size → field ≡ told_field rules k place → (n ≤ field) ⊎ ((field < n) × (was_seen seen field ≡ true))
      → Noted seen (rule_at rules k).scope n place → LawfulRule n (rule_at rules k) → ⊥
  broken seen place field within tells-field fault noted lawful =
      let long = whole in
      let inside : place < length (rule_at rules k).scope = omega arith in
      not_noted (rule_at rules k).scope n seen place 0 inside noted (which inside fault) lawful.below lawful.apart
    where
      which : place < length (rule_at rules k).scope → (n ≤ field) ⊎ ((field < n) × (was_seen seen field ≡ true))
          → (n ≤ get_or (rule_at rules k).scope place 0) ⊎ (was_seen seen (get_or (rule_at rules k).scope place 0) ≡ true)
      which inside (inl large) = inl (field_large rules k n reach small place inside (subst (λ f. n ≤ f) tells-field large))
      which inside (inr (below, old)) =
          inr (ap (was_seen seen) (sym (tells-field ∙ field_is rules k n reach small place inside (subst (λ f. f < n) tells-field below))) ∙ old)

  -- all fields are noted
  pub all_lawful : (seen : Seen) (place : ℕ) → size ≤ place → Noted seen (rule_at rules k).scope n place → LawfulRule n (rule_at rules k)
  all_lawful seen place done noted =
      let long = whole in
      let all = all_noted (rule_at rules k).scope n seen place (omega arith) noted in
      record { names_some = omega (arith, some); below = all.0; apart = all.1 }

  told_scope : fields_told ≡ map told (rule_at rules k).scope
  told_scope =
      ap (λ m. map (told_field rules k) (range_with_len 0 m)) whole
      ∙ told_each (rule_at rules k).scope 0 (told_field rules k) (λ i l. grind (arith, nat_tests))

  -- noting them says whether the rule is lawful
  pub noted_lawful : (none after : Seen) (answer : Bool) → ((f : ℕ) → was_seen none f ≡ false) → Notes fields_told n none after answer → Decides answer (LawfulRule n (rule_at rules k))
  noted_lawful none after true clear notes =
      let new = subst (New none n) told_scope (noted_new n fields_told none after notes) in
      let is = all_are n small (rule_at rules k).scope new.below in
      let lawful = subst (New none n) is new in
      let long = whole in (
        λ _. record { names_some = omega (arith, some); below = lawful.below; apart = lawful.apart },
        λ _. refl,
      )
  noted_lawful none after false clear notes = (
    λ e. absurd (false≢true e),
    λ lawful. absurd (refused_old n fields_told none after notes (subst (New none n) (sym (told_scope ∙ all_same n small (rule_at rules k).scope lawful.below))
        (record { below = lawful.below; fresh = λ f _. clear f; apart = lawful.apart }))),
  )
