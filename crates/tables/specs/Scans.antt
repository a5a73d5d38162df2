-- What a pass over the cells of a table finds.
-- Assumes nothing.
use Rattle.std.specs.Prelude.{◌≡◌, ℕ, ◌+◌, ◌<◌, ◌≤◌, Bool, true, false, not, ◌&&◌, ◌⊎◌, List, [], ◌∷◌, map, length, ◌==◌, ◌≢◌, nat_lt, slice_index, slice_index_or}
use Rattle.rows.specs.Values.{Values, Meet}
use Rattle.rules.specs.Rules.{Sets, In}
use Rattle.tables.specs.declared.found.Hits.{Hits}
use Rattle.tables.specs.declared.found.Hits.TheVariants.{Nothing, Only, Several}
use Rattle.tables.specs.declared.found.Rests.{Rests}
use Rattle.tables.specs.declared.record.Axis.{Axis}
use Rattle.tables.specs.declared.record.Cell.{Cell}
use Rattle.tables.specs.declared.record.Cell.TheVariants.{Constant, Field}
use Rattle.tables.specs.Reads.{room, block, positive, cell_fields}

-- for each axis a row of marks, one for each index
abbrev pub Marks : Type 0
Marks = List (List Bool)

-- index w of the axis at a level is not marked
abbrev pub unmarked : Marks → ℕ → ℕ → Bool
unmarked marks l w = not (nat_lt w 256 && slice_index_or (slice_index_or marks l []) w false)

-- value v is one that the cell can have
abbrev pub cell_has : Sets → Cell → Values
cell_has S (Constant k) v = v == k
cell_has S (Field f) v = S f v

-- index values from S, each below its extent, select the cell c
pub data Reaches (S : Sets) : List Axis → List Cell → List ℕ → Cell → Type 0 where
  here : {c : Cell} → Reaches S [] (c ∷ []) [] c
  there : {ax : Axis} {axes : List Axis} {cells : List Cell} {d : ℕ} {ds : List ℕ} {c : Cell}
      → d < ax.extent → S ax.field d ≡ true → Reaches S axes (block (room axes) d cells) ds c → Reaches S (ax ∷ axes) cells (d ∷ ds) c

-- some indices with the cell that they select; it is a hit if it has a value of X
abbrev pub Selection : Type 1
Selection = List ℕ → Cell → Type 0

abbrev pub Hit : Sets → Values → Selection → Selection
Hit S X P ds c = P ds c × Meet X (cell_has S c)

-- the hits are told: none, only this cell, or several
abbrev pub Tells : Hits → Selection → Type 0
Tells Nothing L = (ds : List ℕ) (c : Cell) → L ds c → ⊥
Tells (Only c) L = (ds : List ℕ) × L ds c × ((es : List ℕ) (e : Cell) → L es e → es ≡ ds)
Tells Several L = (ds : List ℕ) × (c : Cell) × (es : List ℕ) × (e : Cell) × L ds c × L es e × (ds ≢ es)

-- the pass over a selection P by n axes, the first at `level`, has taken out of the rests just what P supports: of x the values of its cells, and of each axis the indices of its hits
pub record Swept {R : Type 0} (values : R → Values) (S : Sets) (X : Values) (level n : ℕ) (P : Selection) (before after : Rests R) (hits : Hits) : Type 0 where
  pub x_gone : (ds : List ℕ) (c : Cell) (v : ℕ) → P ds c → cell_has S c v ≡ true → values after.x v ≡ false
  pub x_lost : (v : ℕ) → values after.x v ≡ false → (values before.x v ≡ false) ⊎ ((ds : List ℕ) × (c : Cell) × P ds c × (cell_has S c v ≡ true))
  pub x_less : (v : ℕ) → values before.x v ≡ false → values after.x v ≡ false
  pub axis_gone : (ds : List ℕ) (c : Cell) (j : ℕ) → Hit S X P ds c → j < n → unmarked after.axes (level + j) (slice_index ds j) ≡ false
  pub axis_lost : (l w : ℕ) → unmarked after.axes l w ≡ false → (unmarked before.axes l w ≡ false) ⊎ ((ds : List ℕ) × (c : Cell) × (j : ℕ) × Hit S X P ds c × (j < n) × (l ≡ level + j) × (slice_index ds j ≡ w))
  pub axis_less : (l w : ℕ) → unmarked before.axes l w ≡ false → unmarked after.axes l w ≡ false
  pub told : Tells hits (Hit S X P)

-- the hits of two parts of a table together
abbrev pub both_hits : Hits → Hits → Hits
both_hits Nothing h = h
both_hits (Only c) Nothing = Only c
both_hits (Only c) (Only e) = Several
both_hits (Only c) Several = Several
both_hits Several Nothing = Several
both_hits Several (Only e) = Several
both_hits Several Several = Several

-- there is a hit
abbrev pub some_hit : Hits → Bool
some_hit Nothing = false
some_hit (Only c) = true
some_hit Several = true

-- the marks after the hits of index d at a level are noted there
abbrev pub NotedHits : ℕ → ℕ → Hits → Marks → Marks → Type 0
NotedHits level d hits before after = (l w : ℕ) → unmarked after l w ≡ (unmarked before l w && not (some_hit hits && (l == level && w == d)))

-- what a pass asks: axes that make sense, a cell for each choice of indices, and a row for each field
pub record Scannable (level : ℕ) (axes : List Axis) (cells : List Cell) (rows : ℕ) : Type 0 where
  pub levels : level + length axes ≤ 4
  pub extents : positive axes ≡ true
  pub long : length cells ≡ room axes
  pub axis_rows : (f : ℕ) → In f (map (λ ax. ax.field) axes) → f < rows
  pub cell_rows : (f : ℕ) → In f (cell_fields cells) → f < rows
