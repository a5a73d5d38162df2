-- Rows after their rounds are settled. Assumes nothing.
use Rattle.std.proofs.Common.{◌≡◌, ℕ, ◌<◌, true, ◌⊎◌, List, sym, ◌∙◌, subst, inl, inr}
use Rattle.rows.specs.Values.{Values}
use Rattle.rules.specs.Books.{sets}
use Rattle.rules.specs.Rings.{Ring}
use Rattle.rules.specs.Rules.{Rule, Lawful}
use Rattle.settle.specs.Answers.{Settled}
use Rattle.settle.specs.Passes.{Beyond, Rounded, Emptied}
use Rattle.settle.specs.Rounds.{Rounds, SomeEmpty, Settling, at_once, emptied, ringed, ringless}
use Rattle.settle.specs.declared.outcome.Grade.{Grade}
use Rattle.settle.specs.declared.outcome.Grade.TheVariants.{Exact, Local, Nothing}
use Rattle.settle.proofs.Going.{sets_below}
use Rattle.settle.proofs.Worth.{leaves, left_largest, left_exactly, left_few}

module _ {R : Type 0} (values : R → Values) (span : ℕ) (inside : (r : R) (v : ℕ) → values r v ≡ true → v < span) (rules : List Rule) (n : ℕ) (before : List R) (law : Lawful n rules) where
  settled_by : (after : List R) (g : Grade) (r : ℕ) → Settling n rules (sets values before) g r (sets values after) → Beyond n before after
      → Settled values span rules n before after (record { grade = g; rounds = r })
  settled_by after g r settling beyond =
      let B = sets values before in
      let S = sets values after in
      let left = leaves law (λ f v l. sets_below values span inside before f v) settling in
      record {
        settling = settling;
        beyond = beyond;
        largest = left_largest span n rules B B S g r law (λ f v l e. e) (λ C st w. w) left;
        exactly = left_exactly span n rules B B S g r law (λ f v l e. e) (λ C st w. w) left;
        few_rounds = left_few span n rules B B S g r law (λ f v l e. e) (λ C st w. w) left;
      }

  -- a row is empty after the rounds, and all were emptied
  pub settled_none : (mid after : List R) (r : ℕ) → Rounded values rules n before mid r → SomeEmpty n (sets values mid) → Emptied values n mid after
      → Settled values span rules n before after (record { grade = Nothing; rounds = r })
  settled_none mid after r rounded some gone = settled_by after Nothing r (go rounded.made) (λ f d l. gone.beyond f d l ∙ rounded.beyond f d l)
    where
      go : (SomeEmpty n (sets values before) × (r ≡ 0)) ⊎ ((SomeEmpty n (sets values before) → ⊥) × Rounds n rules (sets values before) r (sets values mid))
          → Settling n rules (sets values before) Nothing r (sets values after)
      go (inl (at-start, none)) = subst (λ k. Settling n rules (sets values before) Nothing k (sets values after)) (sym none) (at_once at-start gone.all)
      go (inr (alive, R)) = emptied alive R some gone.all

  -- every row has a value after the rounds
  module _ (after : List R) (r : ℕ) (rounded : Rounded values rules n before after r) (full : SomeEmpty n (sets values after) → ⊥) where
    ran : (SomeEmpty n (sets values before) → ⊥) × Rounds n rules (sets values before) r (sets values after)
    ran = go rounded.made
      where
        go : (SomeEmpty n (sets values before) × (r ≡ 0)) ⊎ ((SomeEmpty n (sets values before) → ⊥) × Rounds n rules (sets values before) r (sets values after))
            → (SomeEmpty n (sets values before) → ⊥) × Rounds n rules (sets values before) r (sets values after)
        go (inl (at-start, none)) = absurd (full (rounded.stays at-start))
        go (inr both) = both

    pub settled_ringed : Ring rules → Settled values span rules n before after (record { grade = Local; rounds = r })
    settled_ringed ring = settled_by after Local r (ringed ran.0 ran.1 full ring) rounded.beyond

    pub settled_ringless : (Ring rules → ⊥) → Settled values span rules n before after (record { grade = Exact; rounds = r })
    settled_ringless free = settled_by after Exact r (ringless ran.0 ran.1 full free) rounded.beyond
