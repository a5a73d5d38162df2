-- The rules of fields that differ, and what narrowing by one leaves.
-- Assumes nothing.
use Rattle.std.specs.Prelude.{◌≡◌, ℕ, ◌<◌, ◌≤◌, Bool, true, false, not, List, [], ◌∷◌, map, length, Decides, Option, MatchOption, ◌==◌, ◌≢◌}
use Rattle.rows.specs.Values.{Values}
use Rattle.rules.specs.Books.{rule_at}
use Rattle.rules.specs.Rules.{Rule}
use Rattle.settle_tests.specs.declared.record.Differing.{Differing}
use Rattle.settle_tests.specs.declared.record.Pair.{Pair}

-- a line of two values that differ
abbrev pub differ : List ℕ → Bool
differ [] = false
differ (v ∷ []) = false
differ (v ∷ (w ∷ [])) = not (v == w)
differ (v ∷ (w ∷ (u ∷ us))) = false

-- two fields differ
abbrev pub differ_rule : ℕ → ℕ → Rule
differ_rule one other = record { scope = one ∷ (other ∷ []); allows = differ }

-- the rule of a pair
abbrev pub pair_rule : Pair → Rule
pair_rule p = differ_rule p.one p.other

-- the rules of all pairs, in order
abbrev pub differ_rules : Differing → List Rule
differ_rules book = map pair_rule book.pairs.now

-- the pair of rule k; none past the end, or above 1,023
abbrev pub PairAt : Differing → ℕ → Option Pair → Type 0
PairAt book k r = MatchOption r
    (k ≤ 1023 → length book.pairs.now ≤ k)
    (λ p. (k ≤ 1023) × (k < length book.pairs.now) × (rule_at (differ_rules book) k ≡ pair_rule p))

-- v is in p, and q has a value other than v
abbrev pub Stays : Values → Values → ℕ → Type 0
Stays p q v = (p v ≡ true) × ((w : ℕ) × (q w ≡ true) × (v ≢ w))

-- r has just the values of p beside which q has another
abbrev pub Beside : Values → Values → Values → Type 0
Beside p q r = (v : ℕ) → Decides (r v) (Stays p q v)
