use Rattle.std.proofs.Common.{◌≡◌, ◌*◌, ◌≤◌, drop}
use Rattle.tables.specs.Reads.{room, positive}
use Rattle.tables.proofs.reading.room_of.Given as goal

-- what is left multiplies the product so far to the whole
abbrev pub invariant-loop-axis : goal.invariant-loop-axis
invariant-loop-axis l = (room l.axes ≡ l.room * room (drop l.axis-index l.axes)) × (positive l.axes ≡ positive (drop l.axis-index l.axes)) × (1 ≤ l.room) × (l.room ≤ 1024)
