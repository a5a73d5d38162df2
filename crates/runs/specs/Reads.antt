-- The set that a list of runs reads as.
-- Assumes nothing.
use Rattle.std.specs.Prelude.{min, ◌&&◌, take, nat_lt}
use Rattle.rows.specs.Values.{Values}
use Rattle.rows.specs.Runs.{in_some}
use Rattle.runs.specs.declared.record.Runs.{Runs}

-- every value below 128 inside a counted pair; a count above 64 is read as 64
abbrev pub runs_have : Runs → Values
runs_have r v = nat_lt v 128 && in_some (take (min r.count 64) r.pairs) v
