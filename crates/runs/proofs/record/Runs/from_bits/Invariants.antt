use Rattle.std.proofs.Common.{◌≡◌, ℕ, ◌+◌, ◌≤◌, ◌||◌, length, take}
use Rattle.std.specs.Iterator.Adapters.{enumerate_source, enumerate_count}
use Rattle.bits.specs.Reads.{bits_have}
use Rattle.rows.specs.Runs.{in_some, runs_left}
use Rattle.rows.specs.Values.{up_to}
use Rattle.runs.proofs.record.Runs.from_bits.Given as goal

-- the runs so far and those that are left have the values of the set, and there is room for them
abbrev pub invariant-loop-i : goal.invariant-loop-i
invariant-loop-i l =
    let rest = runs_left 256 bits_have (enumerate_source l.i-iterator) in
    (length l.pairs ≡ 64)
    × (enumerate_count l.i-iterator ≡ l.count)
    × (l.count + length rest ≤ 64)
    × ((v : ℕ) → (in_some (take l.count l.pairs) v || in_some rest v) ≡ up_to (bits_have l.fn.bits) 127 v)
