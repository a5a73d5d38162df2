-- What narrowing by a table leaves of each row.
-- Assumes nothing.
use Rattle.std.specs.Prelude.{◌≡◌, ℕ, suc, false, cond, not, ◌&&◌, List, [], ◌∷◌, ◌++◌, map, Option, MatchOption, ◌==◌}
use Rattle.rows.specs.Values.{Values}
use Rattle.rules.specs.Rules.{Sets}
use Rattle.tables.specs.declared.found.Hits.{Hits}
use Rattle.tables.specs.declared.found.Hits.TheVariants.{Nothing, Only, Several}
use Rattle.tables.specs.declared.found.Rests.{Rests}
use Rattle.tables.specs.Scans.{Marks, unmarked}
use Rattle.tables.specs.declared.record.Axis.{Axis}
use Rattle.tables.specs.declared.record.Cell.TheVariants.{Constant, Field}

-- an axis, the first at place j, keeps the indices that are marked; a field that is no axis has what is told of it
abbrev pub axes_left : Marks → Sets → Sets → List Axis → ℕ → Sets
axes_left marks S told [] j f v = told f v
axes_left marks S told (ax ∷ axes) j f v = cond (f == ax.field) (S f v && not (unmarked marks j v)) (axes_left marks S told axes (suc j) f v)

-- a field cell that is the only hit keeps what it shares with x, and any other keeps all, if there is a hit
abbrev pub cell_left : Hits → Sets → ℕ → Sets
cell_left Nothing S x f v = false
cell_left (Only (Constant k)) S x f v = S f v
cell_left (Only (Field g)) S x f v = cond (f == g) (S f v && S x v) (S f v)
cell_left Several S x f v = S f v

-- x has lost its rest, each axis keeps its marked indices, and the field cells are as the hits tell
abbrev pub table_left : {R : Type 0} → (R → Values) → Rests R → Hits → Sets → ℕ → List Axis → Sets
table_left values rests hits S x axes f v = cond (f == x) (S x v && not (values rests.x v)) (axes_left rests.axes S (cell_left hits S x) axes 0 f v)

-- the field of the only hit
abbrev pub hit_fields : Hits → List ℕ
hit_fields Nothing = []
hit_fields (Only (Constant k)) = []
hit_fields (Only (Field f)) = f ∷ []
hit_fields Several = []

-- the field of the only hit is told, if there is one
abbrev pub IsOnly : Hits → Option ℕ → Type 0
IsOnly hits r = MatchOption r (hit_fields hits ≡ []) (λ f. hits ≡ Only (Field f))

-- the fields that are written where there is a hit
abbrev pub cut_scope : ℕ → List Axis → Hits → List ℕ
cut_scope x axes hits = x ∷ (map (λ ax. ax.field) axes ++ hit_fields hits)
