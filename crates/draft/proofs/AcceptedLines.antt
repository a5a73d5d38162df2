-- An entry is accepted where no line is met, and changes nothing where one is. Assumes nothing.
use Rattle.std.proofs.Common.{◌≡◌, ℕ, ◌≤◌, Bool, true, false, ◌⊎◌, [], ◌∷◌, length, Some, None, Option, Result, refl, ap, ◌∙◌, inl, inr, arith}
use Rattle.std.proofs.lemmas.Bool.{or_parts, ltb-false}
use Rattle.draft.specs.Entries.{Answers, short}
use Rattle.draft.specs.Faults.{Lines, uppermost}
use Rattle.draft.specs.Made.{draft_in}
use Rattle.draft.specs.Memory.{Held}
use Rattle.draft.specs.declared.fault.DraftFault.{DraftFault}
use Rattle.draft.specs.declared.fault.Refused.{Refused}
use Rattle.draft.specs.declared.state.Draft.{Draft}

-- no test of the lines holds
abbrev pub NoneMet : Lines → Type 0
NoneMet [] = Unit {0}
NoneMet (line ∷ lines) = (line.0 ≡ false) × NoneMet lines

-- where no line is met, the first is not, nor any behind it
line_passed : (met : Bool) (fault : DraftFault) (lines : Lines) → uppermost ((met, fault) ∷ lines) ≡ None → (met ≡ false) × (uppermost lines ≡ None)
line_passed true fault lines none = let clash : ◌≡◌ {A = ℕ} 0 1 = cc in absurd (omega arith)
line_passed false fault lines none = (refl, none)

pub none_met : (lines : Lines) → uppermost lines ≡ None → NoneMet lines
none_met [] none = tt
none_met ((met, fault) ∷ lines) none = let passed = line_passed met fault lines none in (passed.0, none_met lines passed.1)

-- the entry is accepted and makes the draft e, or is refused and keeps it
pub outcome : (lines : Lines) (d after e : Draft) (Kept Made : Type 0) (answer : Result Draft Refused) → Answers lines d after Kept Made answer → e ≡ draft_in answer
    → ((uppermost lines ≡ None) × (e ≡ after) × Made) ⊎ ((e ≡ d) × Kept)
outcome lines d after e Kept Made answer answers is = go (uppermost lines) refl
  where
    go : (o : Option DraftFault) → uppermost lines ≡ o → ((uppermost lines ≡ None) × (e ≡ after) × Made) ⊎ ((e ≡ d) × Kept)
    go None none = let made = answers.accepted none in inl (none, is ∙ ap draft_in made.0, made.1)
    go (Some fault) met = let kept = answers.refused fault met in inr (is ∙ ap draft_in kept.0, kept.1)

-- there is a row and a range for each field, and memory for all that is entered
pub record Long (d : Draft) (rows : ℕ) (m : Held) : Type 0 where
  pub rows_long : d.fields ≤ rows
  pub ranges_long : d.fields ≤ length m.ranges
  pub heads_long : d.tables ≤ length m.heads
  pub cells_long : d.cells ≤ length m.cells
  pub frames_long : d.frames ≤ length m.frames
  pub parts_long : d.parts ≤ length m.parts

pub long_enough : (d : Draft) (rows : ℕ) (m : Held) → short d rows m ≡ false → Long d rows m
long_enough d rows m not_short =
    let one = or_parts _ _ not_short in
    let two = or_parts _ _ one.1 in
    let three = or_parts _ _ two.1 in
    let four = or_parts _ _ three.1 in
    let five = or_parts _ _ four.1 in
    record {
      rows_long = ltb-false rows d.fields one.0;
      ranges_long = ltb-false (length m.ranges) d.fields two.0;
      heads_long = ltb-false (length m.heads) d.tables three.0;
      cells_long = ltb-false (length m.cells) d.cells four.0;
      frames_long = ltb-false (length m.frames) d.frames five.0;
      parts_long = ltb-false (length m.parts) d.parts five.1;
    }
