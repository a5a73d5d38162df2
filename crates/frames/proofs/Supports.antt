-- Which values the rule of some parts supports. Assumes nothing.
use Rattle.std.proofs.Common.{◌≡◌, ℕ, ◌+◌, ◌-◌, ◌<◌, ◌≤◌, true, leb, List, sym, ap, ◌∙◌, subst, ⊎_elim, arith}
use Rattle.std.proofs.lemmas.Bool.{cases_lt, cases_eq, both_ways, leb-true, le-leb, and_parts, and_from}
use Rattle.rules.specs.Rules.{Sets, In, Distinct, Supported}
use Rattle.frames.specs.Parts.{fields, low, Summed, OneEmpty, cut}
use Rattle.frames.specs.Reads.{sum_rule}
use Rattle.frames.specs.declared.record.Part.{Part}
use Rattle.frames.proofs.Totals.{sum_up, sum_above, put, put_same, put_other, sum_put}

module _ (S : Sets) (parts : List Part) (limit : ℕ) where
  -- where a field has no value, there is no line
  pub none_without : OneEmpty S parts → (f v : ℕ) → Supported S (sum_rule parts limit) f v → ⊥
  none_without one f v s = both_ways (S one.0 (s.line one.0)) (one.2 (s.line one.0)) (s.inside one.0 one.1)

  module _ (total : ℕ) (sums : Summed S parts total) where
    -- a line is nowhere below the least values
    above : (f v : ℕ) (s : Supported S (sum_rule parts limit) f v) (g : ℕ) → In g (fields parts) → low S g ≤ s.line g
    above f v s g k = ⊎_elim
        (λ less. absurd (both_ways (S g (s.line g)) ((sums.some g k).bound (s.line g) less) (s.inside g k)))
        (λ fine. fine)
        (cases_lt (s.line g) (low S g))

    -- where the least values sum up to more than the limit, there is no line
    pub none_over : limit < total → (f v : ℕ) → Supported S (sum_rule parts limit) f v → ⊥
    none_over over f v s =
        omega (arith, sums.total, leb-true _ limit s.allowed, sum_up (low S) s.line (fields parts) (above f v s))

    -- a supported value is at most the room above the least
    pub kept_below : (f v : ℕ) → In f (fields parts) → Supported S (sum_rule parts limit) f v → cut S (limit - total) f v ≡ true
    kept_below f v k s = and_from (S f v) (leb v (low S f + (limit - total)))
        (subst (λ x. S f x ≡ true) s.gives (s.inside f k))
        (le-leb v (low S f + (limit - total))
        (omega (arith, sums.total, s.gives, leb-true _ limit s.allowed, sum_above (low S) s.line (fields parts) f k (above f v s))))

    -- and such a value stands in the line that has the least values elsewhere
    pub left_stands : total ≤ limit → Distinct (fields parts) → (f v : ℕ) → In f (fields parts) → cut S (limit - total) f v ≡ true → Supported S (sum_rule parts limit) f v
    left_stands fits apart f v k left = record {
      line = put (low S) f v;
      gives = put_same (low S) f v;
      inside = λ g j. ⊎_elim
          (λ e. subst (λ x. S x (put (low S) f v x) ≡ true) (sym e) (ap (S f) (put_same (low S) f v) ∙ both.0))
          (λ ne. ap (S g) (put_other (low S) f v g ne) ∙ (sums.some g j).member)
          (cases_eq g f);
      allowed = le-leb _ limit (omega (arith, sums.total, leb-true v (low S f + (limit - total)) both.1, sum_put (low S) f v (fields parts) k apart));
    }
      where
        both : (S f v ≡ true) × (leb v (low S f + (limit - total)) ≡ true)
        both = and_parts (S f v) (leb v (low S f + (limit - total))) left
