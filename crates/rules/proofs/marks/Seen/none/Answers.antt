use Rattle.std.proofs.Common.{◌≡◌, ℕ, zero, suc, false, ltb, get_or, replicate, refl}
use Rattle.std.proofs.lemmas.Bool.{and_right}
use Rattle.rules.proofs.marks.Seen.none.Goals as goal

unmarked : (n f : ℕ) → get_or (replicate n false) f false ≡ false
unmarked zero f = refl
unmarked (suc n) zero = refl
unmarked (suc n) (suc f) = unmarked n f

pub returns : goal.returns
returns c f = and_right (ltb f 256) _ (unmarked 256 f)
