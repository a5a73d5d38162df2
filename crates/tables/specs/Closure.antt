-- What a table's narrowed sets are closed under: the rules for an array constraint.
-- Assumes nothing.
use Rattle.std.specs.Prelude.{◌≡◌, ℕ, ◌<◌, Bool, true, List, map, length, is_ok, Result, slice_index}
use Rattle.rows.specs.Values.{Meet}
use Rattle.rules.specs.declared.fault.NarrowFault.{NarrowFault}
use Rattle.rules.specs.Rules.{Sets, Rule, In, Allowed}
use Rattle.tables.specs.declared.record.Axis.{Axis}
use Rattle.tables.specs.declared.record.Cell.{Cell}
use Rattle.tables.specs.Reads.{room, table_scope, lookup_rule}
use Rattle.tables.specs.Scans.{cell_has, Reaches}

-- x lies within the union of the selected cells, each index value has a selected cell that meets x, and where one index is left, its cell lies within x
pub record Closed (S : Sets) (x : ℕ) (axes : List Axis) (cells : List Cell) : Type 0 where
  pub x_in_cells : (v : ℕ) → S x v ≡ true → (ds : List ℕ) × (c : Cell) × Reaches S axes cells ds c × (cell_has S c v ≡ true)
  pub index_meets : (j w : ℕ) → j < length axes → S (slice_index (map (λ ax. ax.field) axes) j) w ≡ true
      → (ds : List ℕ) × (c : Cell) × Reaches S axes cells ds c × (slice_index ds j ≡ w) × Meet (S x) (cell_has S c)
  pub last_cell : (ds : List ℕ) (c : Cell) → Reaches S axes cells ds c → ((es : List ℕ) (e : Cell) → Reaches S axes cells es e → es ≡ ds) → (v : ℕ) → cell_has S c v ≡ true → S x v ≡ true

-- an accepted narrowing of a rule that looks x up: where an allowed line made of values of S exists, the sets S' that are left are closed
abbrev pub Closes : Rule → Sets → Sets → Result Bool NarrowFault → Type 0
Closes r S S' answer = is_ok answer ≡ true → (x : ℕ) (axes : List Axis) (cells : List Cell) → r ≡ lookup_rule x axes cells → length cells ≡ room axes
    → (a : ℕ → ℕ) → ((g : ℕ) → In g (table_scope x axes cells) → S g (a g) ≡ true) → Allowed (lookup_rule x axes cells) a → Closed S' x axes cells
