-- What the tests on lists of fields tell. Assumes nothing.
use Rattle.std.proofs.Common.{◌≡◌, ℕ, ◌<◌, true, not, ltb, List, [], ◌∷◌, sym, subst, inl, inr}
use Rattle.std.proofs.lemmas.Bool.{and_parts, both_ways, ltb-true, not-true}
use Rattle.rules.specs.Rules.{In, Distinct}
use Rattle.rules.specs.Tree.{member}
use Rattle.rules.proofs.Lists.{member_true}
use Rattle.draft.specs.Lists.{all_below, distinct}

pub below_from_test : (n : ℕ) (fs : List ℕ) → all_below n fs ≡ true → (f : ℕ) → In f fs → f < n
below_from_test n [] all f here = absurd here
below_from_test n (g ∷ gs) all f (inl same) = subst (λ h. h < n) (sym same) (ltb-true g n (and_parts (ltb g n) (all_below n gs) all).0)
below_from_test n (g ∷ gs) all f (inr later) = below_from_test n gs (and_parts (ltb g n) (all_below n gs) all).1 f later

pub apart_from_test : (fs : List ℕ) → distinct fs ≡ true → Distinct fs
apart_from_test [] all = tt
apart_from_test (f ∷ fs) all =
    let parts = and_parts (not (member f fs)) (distinct fs) all in
    (λ again. both_ways (member f fs) (not-true (member f fs) parts.0) (member_true f fs again), apart_from_test fs parts.1)
