-- Noting the fields of some parts tells whether their rule is lawful. Assumes nothing.
use Rattle.std.proofs.Common.{◌≡◌, ℕ, ◌<◌, Bool, true, false, List, length, Decides, refl, arith}
use Rattle.std.proofs.lemmas.Bool.{false≢true}
use Rattle.std.proofs.lemmas.List.{length-map}
use Rattle.rules.specs.Rules.{LawfulRule}
use Rattle.rules.specs.Seen.{was_seen, New, Notes}
use Rattle.rules.specs.declared.marks.Seen.{Seen}
use Rattle.rules.proofs.NewFields.{noted_new, refused_old}
use Rattle.frames.specs.Parts.{fields}
use Rattle.frames.specs.Reads.{sum_rule}
use Rattle.frames.specs.declared.record.Part.{Part}

-- where none has been met, they are new exactly when the rule is lawful
pub lawful_noted : (parts : List Part) (limit n : ℕ) (seen seen' : Seen) (new : Bool) → 0 < length parts → ((f : ℕ) → was_seen seen f ≡ false)
    → Notes (fields parts) n seen seen' new → Decides new (LawfulRule n (sum_rule parts limit))
lawful_noted parts limit n seen seen' false some none notes = (
  λ e. absurd (false≢true e),
  λ lawful. absurd (refused_old n (fields parts) seen seen' notes (record { below = lawful.below; fresh = λ f _. none f; apart = lawful.apart })),
)
lawful_noted parts limit n seen seen' true some none notes =
    let new : New seen n (fields parts) = noted_new n (fields parts) seen seen' notes in
    (λ _. record { names_some = omega (arith, length-map parts (λ p. p.field)); below = new.below; apart = new.apart }, λ _. refl)
