-- The set that a switch reads as.
-- Assumes nothing.
use Rattle.std.specs.Prelude.{zero, suc, false}
use Rattle.rows.specs.Values.{Values}
use Rattle.row_tests.specs.declared.switch.Switch.{Switch}

-- value 0 is off, value 1 is on
abbrev pub switch_has : Switch → Values
switch_has s zero = s.off
switch_has s (suc zero) = s.on
switch_has s (suc (suc v)) = false
