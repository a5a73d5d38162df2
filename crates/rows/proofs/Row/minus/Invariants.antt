use Rattle.std.proofs.Common.{◌≡◌, ℕ, not, ◌&&◌, ltb}
use Rattle.rows.proofs.Row.minus.Given as goal

-- the values below v that the other row has are gone
abbrev pub invariant-loop-v : goal.invariant-loop-v
invariant-loop-v g l = (w : ℕ) → g.Self.Row.values l.left w ≡ (g.Self.Row.values l.initial.left w && not (g.Self.Row.values l.other w && ltb w l.v))
