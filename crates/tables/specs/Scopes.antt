-- The fields of a table's scope that are still to come.
-- Assumes nothing.
use Rattle.std.specs.Prelude.{ℕ, List, ◌++◌, map}
use Rattle.std.specs.List.{cons_option}
use Rattle.std.specs.Slice.Iter.{iter_rest}
use Rattle.tables.specs.Reads.{cell_fields}
use Rattle.tables.specs.declared.scope.Scope.{Scope}

-- x unless it has been given, then the fields of the axes that are left, then those of the cells that are left
abbrev pub fields_left : Scope → List ℕ
fields_left s = cons_option s.x (map (λ ax. ax.field) (iter_rest s.axes) ++ cell_fields (iter_rest s.cells))
