-- The field of a cell.
-- Assumes nothing.
use Rattle.std.specs.Prelude.{ℕ, Option, Some, None}
use Rattle.tables.specs.declared.record.Cell.{Cell}
use Rattle.tables.specs.declared.record.Cell.TheVariants.{Constant, Field}

-- the field that a cell holds, if it holds one
abbrev pub held_field : Cell → Option ℕ
held_field (Constant k) = None
held_field (Field f) = Some f
