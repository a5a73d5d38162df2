-- The rules that tables in lent memory read as.
-- Assumes nothing.
use Rattle.std.specs.Prelude.{ℕ, ◌+◌, ◌*◌, Bool, true, false, cond, ◌&&◌, List, [], ◌∷◌, ◌++◌, map, length, take, drop, ◌==◌, nat_le, nat_lt}
use Rattle.rules.specs.Books.{no_rule}
use Rattle.rules.specs.Rules.{Rule, by_test}
use Rattle.tables.specs.declared.record.Axis.{Axis}
use Rattle.tables.specs.declared.record.Cell.{Cell}
use Rattle.tables.specs.declared.record.Cell.TheVariants.{Constant, Field}
use Rattle.tables.specs.declared.record.Head.{Head}
use Rattle.tables.specs.declared.record.Tables.{Tables}

-- how many cells the axes select among
abbrev pub room : List Axis → ℕ
room [] = 1
room (ax ∷ axes) = ax.extent * room axes

-- the cells of index d of the first axis, where each index has m of them
abbrev pub block : ℕ → ℕ → List Cell → List Cell
block m d cells = take m (drop (d * m) cells)

-- what index values select: the first picks one of as many equal blocks, the next picks in that block, and so on, so that the last index runs fastest
abbrev pub picked : List Axis → List Cell → List ℕ → List Cell
picked [] cells ds = cells
picked (ax ∷ axes) cells [] = []
picked (ax ∷ axes) cells (d ∷ ds) = picked axes (block (room axes) d cells) ds

-- the value of a cell where field f has the value a f
abbrev pub cell_value : (ℕ → ℕ) → Cell → ℕ
cell_value a (Constant k) = k
cell_value a (Field f) = a f

-- v equals the cell that is selected
abbrev pub equals_cell : (ℕ → ℕ) → ℕ → List Cell → Bool
equals_cell a v [] = false
equals_cell a v (c ∷ cells) = v == cell_value a c

-- each index is below its extent
abbrev pub below_extents : List Axis → (ℕ → ℕ) → Bool
below_extents [] a = true
below_extents (ax ∷ axes) a = nat_lt (a ax.field) ax.extent && below_extents axes a

-- the index values
abbrev pub indices : List Axis → (ℕ → ℕ) → List ℕ
indices axes a = map (λ ax. a ax.field) axes

-- the fields of the cells that hold one, in order
abbrev pub cell_fields : List Cell → List ℕ
cell_fields [] = []
cell_fields (Constant k ∷ cells) = cell_fields cells
cell_fields (Field f ∷ cells) = f ∷ cell_fields cells

-- x, the axes, then the field cells
abbrev pub table_scope : ℕ → List Axis → List Cell → List ℕ
table_scope x axes cells = x ∷ (map (λ ax. ax.field) axes ++ cell_fields cells)

-- each index is below its extent, and x equals the selected cell
abbrev pub table_test : ℕ → List Axis → List Cell → (ℕ → ℕ) → Bool
table_test x axes cells a = below_extents axes a && equals_cell a (a x) (picked axes cells (indices axes a))

abbrev pub lookup_rule : ℕ → List Axis → List Cell → Rule
lookup_rule x axes cells = by_test (table_scope x axes cells) (table_test x axes cells)

-- the axes that a head reads
abbrev pub axes_of : Head → List Axis
axes_of head = take head.axis_count head.axes

-- every extent is at least 1
abbrev pub positive : List Axis → Bool
positive [] = true
positive (ax ∷ axes) = nat_le 1 ax.extent && positive axes

-- a table has 1 to 4 axes, extents of at least 1 with a product of at most 1,024, and its cells lie in the memory
abbrev pub makes_sense : List Cell → Head → Bool
makes_sense cells head = nat_le 1 head.axis_count && (nat_le head.axis_count 4 && (positive (axes_of head) && (nat_le (room (axes_of head)) 1024 && nat_le (head.first + room (axes_of head)) (length cells))))

-- the cells of a table
abbrev pub cells_of : List Cell → Head → List Cell
cells_of cells head = take (room (axes_of head)) (drop head.first cells)

-- the rule of a table; one that does not make sense is not lawful
abbrev pub table_rule : List Cell → Head → Rule
table_rule cells head = cond (makes_sense cells head) (lookup_rule head.x (axes_of head) (cells_of cells head)) no_rule

-- the rules of a book of tables, in order
abbrev pub table_rules : Tables → List Rule
table_rules book = map (table_rule book.cells.now) book.heads.now
