-- What holds of a set of two values. Assumes nothing.
use Rattle.std.proofs.Common.{◌≡◌, ℕ, zero, suc, ◌+◌, Bool, true, false, cond, ◌&&◌, ◌||◌, Decides, refl, ⊎_elim}
use mir.Val.{bool_byte}
use Rattle.std.proofs.lemmas.Bool.{or_cases, or_left, or_right, false≢true}
use Rattle.rows.specs.Values.{Meet, both, how_many}
use Rattle.row_tests.specs.declared.switch.Switch.{Switch}
use Rattle.row_tests.specs.Reads.{switch_has}

-- two switches meet when both can be off, or both can be on
pub switches_meet : (a b : Switch) → Decides ((a.off && b.off) || (a.on && b.on)) (Meet (switch_has a) (switch_has b))
switches_meet a b = (
  λ e. ⊎_elim (λ off. (0, off)) (λ on. (1, on)) (or_cases (a.off && b.off) (a.on && b.on) e),
  λ m. go m.0 m.1,
)
  where
    go : (v : ℕ) → both (switch_has a) (switch_has b) v ≡ true → ((a.off && b.off) || (a.on && b.on)) ≡ true
    go zero e = or_left (a.off && b.off) (a.on && b.on) e
    go (suc zero) e = or_right (a.off && b.off) (a.on && b.on) e
    go (suc (suc v)) e = absurd (false≢true e)

-- each way that is open counts
pub switch_size : (s : Switch) → bool_byte s.off + bool_byte s.on ≡ how_many 2 (switch_has s)
unfolding how_many
switch_size s = go s.off s.on
  where
    go : (a b : Bool) → bool_byte a + bool_byte b ≡ cond b 1 0 + (cond a 1 0 + 0)
    go true true = refl
    go true false = refl
    go false true = refl
    go false false = refl
