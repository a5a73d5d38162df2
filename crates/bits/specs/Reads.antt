-- The set that a record of four words reads as.
-- Assumes nothing.
use Rattle.std.specs.Prelude.{◌/◌, ◌%◌, ◌&&◌, nat_lt, slice_index}
use Rattle.rows.specs.Values.{Values}
use Rattle.rows.specs.Words.{bit}
use Rattle.bits.specs.declared.record.Bits.{Bits}

-- value v is bit v mod 64 of word v div 64
abbrev pub bits_have : Bits → Values
bits_have r v = nat_lt v 256 && bit (slice_index r.words (v / 64)) (v % 64)
