-- The rule at a place. Assumes nothing.
use Rattle.std.proofs.Common.{◌≡◌, ℕ, zero, suc, ◌<◌, ◌≤◌, true, false, List, [], ◌∷◌, map, length, get_or, sym, refl, ap, ◌∙◌, arith}
use Rattle.std.proofs.lemmas.Bool.{cond-true, cond-false}
use Rattle.rules.specs.Books.{no_rule, rule_at}
use Rattle.rules.specs.Rules.{Rule}
use Rattle.frames.specs.Reads.{parts_of, makes_sense, sum_rule, frame_rule, frame_rules}
use Rattle.frames.specs.declared.record.Frame.{Frame}
use Rattle.frames.specs.declared.record.Frames.{Frames}

module _ {X : Type 0} (made : X → Rule) where
  -- the one made from what stands at the place
  pub rule_made : (xs : List X) (k : ℕ) (d : X) → k < length xs → rule_at (map made xs) k ≡ made (get_or xs k d)
  rule_made [] k d h = absurd (omega arith)
  rule_made (x ∷ xs) zero d h = refl
  rule_made (x ∷ xs) (suc k) d h = rule_made xs k d (omega arith)

  -- past the end there is none
  pub rule_past : (xs : List X) (k : ℕ) → length xs ≤ k → rule_at (map made xs) k ≡ no_rule
  rule_past [] k h = refl
  rule_past (x ∷ xs) zero h = absurd (omega arith)
  rule_past (x ∷ xs) (suc k) h = rule_past xs k (omega arith)

module _ (book : Frames) (k : ℕ) (frame : Frame) (within : k < length book.frames.now) (is : frame ≡ get_or book.frames.now k frame) where
  here : rule_at (frame_rules book) k ≡ frame_rule book.parts.now frame
  here = rule_made (frame_rule book.parts.now) book.frames.now k frame within ∙ ap (frame_rule book.parts.now) (sym is)

  -- a frame that makes sense sums up its parts
  pub sum_here : makes_sense book.parts.now frame ≡ true → rule_at (frame_rules book) k ≡ sum_rule (parts_of book.parts.now frame) frame.limit
  sum_here sense = here ∙ cond-true (makes_sense book.parts.now frame) _ _ sense

  -- one that does not names no field
  pub none_here : makes_sense book.parts.now frame ≡ false → rule_at (frame_rules book) k ≡ no_rule
  none_here senseless = here ∙ cond-false (makes_sense book.parts.now frame) _ _ senseless
