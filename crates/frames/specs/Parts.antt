-- What the parts of a frame sum up to, and which values they leave.
-- Assumes nothing.
use Rattle.std.specs.Prelude.{◌≡◌, ℕ, zero, suc, ◌+◌, cond, ◌&&◌, List, map, sum, Option, MatchOption, nat_le}
use Rattle.rows.specs.Values.{Values, Empty, LeastOf}
use Rattle.rules.specs.Books.{no_rule, rule_at}
use Rattle.rules.specs.Rules.{Sets, In}
use Rattle.frames.specs.Reads.{sum_rule, frame_rules}
use Rattle.frames.specs.declared.bounded.Bounded.{Bounded}
use Rattle.frames.specs.declared.record.Frames.{Frames}
use Rattle.frames.specs.declared.record.Part.{Part}

-- the fields of some parts, in order
abbrev pub fields : List Part → List ℕ
fields parts = map (λ p. p.field) parts

-- frame k by its parts and its limit, or none where its rule is not lawful for want of fields
abbrev pub IsBounded : Frames → ℕ → Option Bounded → Type 0
IsBounded book k r = MatchOption r (rule_at (frame_rules book) k ≡ no_rule) (λ b. rule_at (frame_rules book) k ≡ sum_rule b.parts.now b.limit)

-- the least number of p below n; n if there is none
unfoldable pub least_under : ℕ → Values → ℕ
least_under zero p = 0
least_under (suc n) p = cond (p 0) 0 (suc (least_under n (λ v. p (suc v))))

-- the least value of each field; 256 for a field without a value
abbrev pub low : Sets → ℕ → ℕ
low S f = least_under 256 (S f)

-- the sum of all loads, and of the least values of all fields
abbrev pub least_total : Sets → List Part → ℕ
least_total S parts = sum (map (low S) (fields parts)) + sum (map (λ p. p.load) parts)

-- each part's field has a value, and s is the sum of the least ones and of the loads
pub record Summed (S : Sets) (parts : List Part) (s : ℕ) : Type 0 where
  pub some : (f : ℕ) → In f (fields parts) → LeastOf (S f) (low S f)
  pub total : s ≡ least_total S parts

-- some part's field has no value
abbrev pub OneEmpty : Sets → List Part → Type 0
OneEmpty S parts = (f : ℕ) × In f (fields parts) × Empty (S f)

-- the values at most `room` above the least
abbrev pub cut : Sets → ℕ → Sets
cut S room f v = S f v && nat_le v (low S f + room)
