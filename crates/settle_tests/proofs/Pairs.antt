-- Two rows from which every value goes that has no other beside it are narrowed. Assumes nothing.
use Rattle.std.proofs.Common.{◌≡◌, ℕ, ◌<◌, ◌≤◌, Bool, true, cond, ◌||◌, eqb, List, [], ◌∷◌, length, set, Decides, sym, refl, ap, ◌∙◌, subst, inl, inr, arith, length-set}
use Rattle.std.proofs.lemmas.Bool.{eq-eqb, ne_eqb, eqb-false, cond-true, cond-false, not-true, not_from_false}
use Rattle.rows.specs.Values.{Values}
use Rattle.rules.specs.Books.{sets, rule_at, Loses, FitsRule, Narrowing}
use Rattle.rules.specs.Rules.{Sets, In, Supported}
use Rattle.rules.proofs.WrittenBack.{all_written, one_written, written_append}
use Rattle.rules.proofs.MadeRules.{rule_past}
use Rattle.settle_tests.specs.Differ.{differ_rule, pair_rule, differ_rules, Stays, Beside}
use Rattle.settle_tests.specs.declared.record.Differing.{Differing}

-- a for field `one`, b for every other
abbrev for_one : {A : Type 0} → ℕ → A → A → ℕ → A
for_one one a b f = cond (eqb f one) a b

module _ (one other : ℕ) (apart : one ≡ other → ⊥) where
  at_one : {A : Type 0} (a b : A) → for_one one a b one ≡ a
  at_one a b = cond-true (eqb one one) a b (eq-eqb one one refl)

  at_other : {A : Type 0} (a b : A) → for_one one a b other ≡ b
  at_other a b = cond-false (eqb other one) a b (ne_eqb other one (λ e. apart (sym e)))

  module _ (S : Sets) where
    -- two values that differ make an allowed line
    line_of : (a b : ℕ) → S one a ≡ true → S other b ≡ true → (a ≡ b → ⊥) → (f v : ℕ) → for_one one a b f ≡ v → Supported S (differ_rule one other) f v
    line_of a b has-a has-b differ f v gives = record {
      line = for_one one a b;
      gives = gives;
      inside = inside;
      allowed = not_from_false _ (ne_eqb _ _ (λ e. differ (sym (at_one a b) ∙ e ∙ at_other a b)));
    }
      where
        inside : (g : ℕ) → In g (one ∷ (other ∷ [])) → S g (for_one one a b g) ≡ true
        inside g (inl e) = subst (λ x. S x (for_one one a b x) ≡ true) (sym e) (ap (S one) (at_one a b) ∙ has-a)
        inside g (inr (inl e)) = subst (λ x. S x (for_one one a b x) ≡ true) (sym e) (ap (S other) (at_other a b) ∙ has-b)
        inside g (inr (inr none)) = absurd none

    -- an allowed line has two values that differ
    line_differs : (f v : ℕ) (s : Supported S (differ_rule one other) f v) → s.line one ≡ s.line other → ⊥
    line_differs f v s = eqb-false _ _ (not-true _ s.allowed)

    module _ (p q : Values) (left_one : Beside (S one) (S other) p) (left_other : Beside (S other) (S one) q) where
      left_stands : (f v : ℕ) → In f (one ∷ (other ∷ [])) → for_one one p q f v ≡ true → Supported S (differ_rule one other) f v
      left_stands f v (inl e) left =
          let stays : Stays (S one) (S other) v = (left_one v).0 (sym (ap (λ s. s v) (ap (for_one one p q) e ∙ at_one p q)) ∙ left) in
          line_of v stays.1.0 stays.0 stays.1.1 stays.1.2 f v (ap (for_one one _ _) e ∙ at_one v stays.1.0)
      left_stands f v (inr (inl e)) left =
          let stays : Stays (S other) (S one) v = (left_other v).0 (sym (ap (λ s. s v) (ap (for_one one p q) e ∙ at_other p q)) ∙ left) in
          line_of stays.1.0 v stays.1.1 stays.0 (λ same. stays.1.2 (sym same)) f v (ap (for_one one _ _) e ∙ at_other stays.1.0 v)
      left_stands f v (inr (inr none)) left = absurd none

      stands_left : (f v : ℕ) → In f (one ∷ (other ∷ [])) → Supported S (differ_rule one other) f v → for_one one p q f v ≡ true
      stands_left f v (inl e) s =
          ap (λ t. t v) (ap (for_one one p q) e ∙ at_one p q)
          ∙ subst (λ u. p u ≡ true) (ap s.line (sym e) ∙ s.gives)
          ((left_one (s.line one)).1 (s.inside one (inl refl), (s.line other, s.inside other (inr (inl refl)), line_differs f v s)))
      stands_left f v (inr (inl e)) s =
          ap (λ t. t v) (ap (for_one one p q) e ∙ at_other p q)
          ∙ subst (λ u. q u ≡ true) (ap s.line (sym e) ∙ s.gives)
          ((left_other (s.line other)).1 (s.inside other (inr (inl refl)), (s.line one, s.inside one (inl refl), λ same. line_differs f v s (sym same))))
      stands_left f v (inr (inr none)) s = absurd none

  pub pair_narrows : {R : Type 0} (values : R → Values) (before between after : List R) (row row' : R) (lost lost' : Bool) → one < length before → other < length before
      → Beside (sets values before one) (sets values before other) (values row) → Beside (sets values before other) (sets values before one) (values row')
      → between ≡ set before one row → Decides lost (Loses values before one (values row))
      → after ≡ set between other row' → Decides lost' (Loses values between other (values row'))
      → Narrowing values (differ_rule one other) before after (lost || lost')
  pair_narrows values before between after row row' lost lost' below below' left_one left_other is loss is' loss' =
      all_written values new (one ∷ (other ∷ [])) before (differ_rule one other) after (lost || lost') refl
      (written_append values new (one ∷ []) (other ∷ []) before between after lost lost' share
      (one_written values new one row before between lost below (λ v. sym (ap (λ s. s v) (at_one (values row) (values row')))) is loss)
      (one_written values new other row' between after lost' (subst (λ n. other < n) (sym (ap length is ∙ length-set before one row)) below') (λ v. sym (ap (λ s. s v) (at_other (values row) (values row')))) is' loss'))
      (left_stands (sets values before) (values row) (values row') left_one left_other)
      (stands_left (sets values before) (values row) (values row') left_one left_other)
    where
      new : Sets
      new = for_one one (values row) (values row')

      share : (f : ℕ) → In f (one ∷ []) → In f (other ∷ []) → ⊥
      share f (inl e) (inl e') = apart (sym e ∙ e')
      share f (inl e) (inr none) = none
      share f (inr none) k = none

-- a rule that is not there fits nothing
pub past_unfit : (book : Differing) (k n rows : ℕ) → (k ≤ 1023 → length book.pairs.now ≤ k) → FitsRule (rule_at (differ_rules book) k) k n rows → ⊥
past_unfit book k n rows past fits =
    omega (arith, fits.lawful.names_some, ap (λ r. length r.scope) (rule_past pair_rule book.pairs.now k (past fits.reach)))
