-- Taking a row's values out one by one. Assumes nothing.
use Rattle.std.proofs.Common.{◌≡◌, ℕ, ◌+◌, Bool, true, false, not, ◌&&◌, eqb, ltb, arith}
use Rattle.std.proofs.lemmas.Bool.Decides.{nat_tests}
use Rattle.rows.specs.Values.{Values}

-- the value v goes, which the other set has
pub gone_more : (s : Bool) (o : Values) (v w : ℕ) → o v ≡ true → ((s && not (o w && ltb w v)) && not (eqb w v)) ≡ (s && not (o w && ltb w (v + 1)))
gone_more s o v w e = grind (arith, nat_tests)

-- the value v stays, which the other set lacks
pub kept_more : (s : Bool) (o : Values) (v w : ℕ) → o v ≡ false → (s && not (o w && ltb w v)) ≡ (s && not (o w && ltb w (v + 1)))
kept_more s o v w e = grind (arith, nat_tests)
