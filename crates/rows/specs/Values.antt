-- Sets of whole numbers, as tests: what a row means.
-- Assumes nothing.
use Rattle.std.specs.Prelude.{◌≡◌, ℕ, zero, suc, ◌+◌, ◌<◌, Bool, true, false, cond, not, ◌&&◌, ◌||◌, Option, MatchOption, ◌==◌, nat_le, nat_lt}

-- a set of whole numbers: yes for the numbers in it
abbrev pub Values : Type 0
Values = ℕ → Bool

-- the same numbers in both
abbrev pub Same : Values → Values → Type 0
Same p q = (v : ℕ) → p v ≡ q v

-- the set of a row made from lo to hi, at a kind of this span
abbrev pub from_to : ℕ → ℕ → ℕ → Values
from_to span lo hi v = nat_lt hi span && (nat_le lo v && nat_le v hi)

-- p without the value x
abbrev pub without : Values → ℕ → Values
without p x v = p v && not (v == x)

-- the values in both
abbrev pub both : Values → Values → Values
both p q v = p v && q v

-- the values in one of them, or in both
abbrev pub either : Values → Values → Values
either p q v = p v || q v

-- the values of p that are not in q
abbrev pub less : Values → Values → Values
less p q v = p v && not (q v)

-- the values of p that are not above x
abbrev pub up_to : Values → ℕ → Values
up_to p x v = p v && nat_le v x

-- no value at all
abbrev pub Empty : Values → Type 0
Empty p = (v : ℕ) → p v ≡ false

-- some value is in both
abbrev pub Meet : Values → Values → Type 0
Meet p q = (v : ℕ) × (both p q v ≡ true)

-- how many of the numbers below n are in p
unfoldable pub how_many : ℕ → Values → ℕ
how_many zero p = 0
how_many (suc v) p = cond (p v) 1 0 + how_many v p

-- m is in p, and no smaller number is
pub record LeastOf (p : Values) (m : ℕ) : Type 0 where
  pub member : p m ≡ true
  pub bound : (v : ℕ) → v < m → p v ≡ false

-- m is in p, and no greater number is
pub record GreatestOf (p : Values) (m : ℕ) : Type 0 where
  pub member : p m ≡ true
  pub bound : (v : ℕ) → m < v → p v ≡ false

-- the least value told, or that there is none
abbrev pub Least : Values → Option ℕ → Type 0
Least p r = MatchOption r (Empty p) (LeastOf p)

-- the greatest value told, or that there is none
abbrev pub Greatest : Values → Option ℕ → Type 0
Greatest p r = MatchOption r (Empty p) (GreatestOf p)
