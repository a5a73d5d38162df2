-- The rules that frames in lent memory read as.
-- Assumes nothing.
use Rattle.std.specs.Prelude.{ℕ, ◌+◌, Bool, cond, ◌&&◌, List, map, length, take, drop, sum, nat_le}
use Rattle.rules.specs.Books.{no_rule}
use Rattle.rules.specs.Rules.{Rule}
use Rattle.frames.specs.declared.record.Frame.{Frame}
use Rattle.frames.specs.declared.record.Frames.{Frames}
use Rattle.frames.specs.declared.record.Part.{Part}

-- the parts of a frame, in order
abbrev pub parts_of : List Part → Frame → List Part
parts_of parts frame = take frame.count (drop frame.first parts)

-- a frame has 1 to 64 parts, and they lie in the memory
abbrev pub makes_sense : List Part → Frame → Bool
makes_sense parts frame = nat_le 1 frame.count && (nat_le frame.count 64 && nat_le (frame.first + frame.count) (length parts))

-- the rule of some parts: the sum of all values and all loads is at most the limit
abbrev pub sum_rule : List Part → ℕ → Rule
sum_rule parts limit = record { scope = map (λ p. p.field) parts; allows = λ line. nat_le (sum line + sum (map (λ p. p.load) parts)) limit }

-- the rule of a frame; one that does not make sense is not lawful
abbrev pub frame_rule : List Part → Frame → Rule
frame_rule parts frame = cond (makes_sense parts frame) (sum_rule (parts_of parts frame) frame.limit) no_rule

-- the rules of a book of frames, in order
abbrev pub frame_rules : Frames → List Rule
frame_rules book = map (frame_rule book.parts.now) book.frames.now
