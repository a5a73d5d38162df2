-- What each entry answers, and what the draft, the rows and the memory are then.
-- Assumes nothing.
use Rattle.std.specs.Prelude.{◌≡◌, ℕ, ◌+◌, ◌-◌, min, Bool, true, false, cond, not, ◌||◌, List, [], ◌∷◌, ◌++◌, map, length, take, drop, filter_map, Some, None, Ok, Err, Result, MatchResult, ◌==◌, nat_le, nat_lt, slice_index_or, slice_set}
use Rattle.frames.specs.Reads.{frame_rule, frame_rules}
use Rattle.frames.specs.declared.record.Frames.{Frames}
use Rattle.rows.specs.Values.{Values, Same, from_to}
use Rattle.rules.specs.Rules.{Rule}
use Rattle.rules.specs.declared.pair.Joined.{Joined}
use Rattle.tables.specs.Reads.{room, positive, cell_fields, table_rule, table_rules}
use Rattle.tables.specs.declared.record.Head.{Head}
use Rattle.tables.specs.declared.record.Tables.{Tables}
use Rattle.draft.specs.Faults.{Lines, uppermost}
use Rattle.draft.specs.Lists.{pairs, pair_count, odd, axis_of, part_of, cell_of, bad_mark, first_field, marked_field, all_below, distinct, four_axes}
use Rattle.draft.specs.Memory.{Held, overlay}
use Rattle.draft.specs.declared.fault.DraftFault.{DraftFault}
use Rattle.draft.specs.declared.fault.DraftFault.TheVariants.{Short, Misplaced, BadRange, Shape, Full, NoSuchField, Twice}
use Rattle.draft.specs.declared.fault.Refused.{Refused}
use Rattle.draft.specs.declared.state.Draft.{Draft}

-- a draft with nothing entered
abbrev pub nothing : Draft
nothing = record { fields = 0; tables = 0; cells = 0; filled = 0; frames = 0; parts = 0 }

-- the answer of an entry: the uppermost line that is met refuses it, gives the draft back, and then Kept holds; if no line is met, the draft is `after`, and Made holds
pub record Answers (lines : Lines) (d after : Draft) (Kept Made : Type 0) (answer : Result Draft Refused) : Type 0 where
  pub refused : (fault : DraftFault) → uppermost lines ≡ Some fault → (answer ≡ Err (record { draft = d; fault = fault })) × Kept
  pub accepted : uppermost lines ≡ None → (answer ≡ Ok after) × Made

-- how many cells the latest table lacks
abbrev pub lacking : Draft → ℕ
lacking d = d.cells - d.filled

-- fewer rows than fields, or less memory than the entries fill
abbrev pub short : Draft → ℕ → Held → Bool
short d rows m =
    nat_lt rows d.fields || (nat_lt (length m.ranges) d.fields || (nat_lt (length m.heads) d.tables
    || (nat_lt (length m.cells) d.cells || (nat_lt (length m.frames) d.frames || nat_lt (length m.parts) d.parts))))

-- what every entry but that of cells asks first: places that hold what is entered, and no cell lacks
abbrev pub ready_lines : Draft → ℕ → Held → Lines
ready_lines d rows m = (short d rows m, Short) ∷ ((nat_lt 0 (lacking d), Misplaced) ∷ [])

-- entering a field from lo to hi, in a kind of this span, over so many rows
abbrev pub field_lines : ℕ → Draft → ℕ → Held → ℕ → ℕ → Lines
field_lines span d rows m lo hi =
    ready_lines d rows m ++ ((nat_lt hi lo || nat_le span hi, BadRange)
    ∷ ((nat_le 240 d.fields || (nat_le rows d.fields || nat_le (length m.ranges) d.fields), Full)
    ∷ []))

abbrev pub with_field : Draft → Draft
with_field d = record { fields = d.fields + 1; tables = d.tables; cells = d.cells; filled = d.filled; frames = d.frames; parts = d.parts }

-- the range is noted for field f
abbrev pub range_noted : Held → ℕ → ℕ → ℕ → Held
range_noted m f lo hi = record { ranges = slice_set m.ranges f (record { lo = lo; hi = hi }); heads = m.heads; cells = m.cells; frames = m.frames; parts = m.parts }

-- field f has a row of the values lo to hi, and every other row is as it was
pub record RowMade {R : Type 0} (values : R → Values) (span lo hi f : ℕ) (before after : List R) : Type 0 where
  pub row : R
  pub made : Same (values row) (from_to span lo hi)
  pub placed : after ≡ slice_set before f row

-- what entering a field answers and leaves
abbrev pub EntersField : {R : Type 0} → (R → Values) → ℕ → Draft → ℕ → ℕ → (rows rows' : List R) → (m m' : Held) → Result Draft Refused → Type 0
EntersField values span d lo hi rows rows' m m' answer =
    Answers (field_lines span d (length rows) m lo hi) d (with_field d)
    ((rows' ≡ rows) × (m' ≡ m))
    (RowMade values span lo hi d.fields rows rows' × (m' ≡ range_noted m d.fields lo hi))
    answer

-- a list of pairs makes no head: a byte is left over, there are no axes or more than 4, an extent is 0, or their product is above 1,024
abbrev pub bad_head : List ℕ → Bool
bad_head list =
    odd list || (pair_count list == 0 || (nat_lt 4 (pair_count list) || (not (positive (map axis_of (pairs list))) || nat_lt 1024 (room (map axis_of (pairs list))))))

-- entering the head of a table that looks x up: all its cells count at once
abbrev pub head_lines : Draft → ℕ → Held → ℕ → List ℕ → Lines
head_lines d rows m x list =
    ready_lines d rows m ++ ((bad_head list, Shape)
    ∷ ((nat_le 64 d.tables || (nat_le (length m.heads) d.tables || (nat_lt 4096 (d.cells + room (map axis_of (pairs list))) || nat_lt (length m.cells) (d.cells + room (map axis_of (pairs list))))), Full)
    ∷ ((not (all_below d.fields (x ∷ map first_field (pairs list))), NoSuchField)
    ∷ ((not (distinct (x ∷ map first_field (pairs list))), Twice)
    ∷ []))))

abbrev pub with_head : Draft → ℕ → Draft
with_head d room = record { fields = d.fields; tables = d.tables + 1; cells = d.cells + room; filled = d.filled; frames = d.frames; parts = d.parts }

-- the head of a table whose cells begin at a place
abbrev pub head_of : ℕ → List ℕ → ℕ → Head
head_of x list first = record { x = x; axes = four_axes (map axis_of (pairs list)); axis_count = pair_count list; first = first }

abbrev pub head_noted : Held → ℕ → Head → Held
head_noted m k head = record { ranges = m.ranges; heads = slice_set m.heads k head; cells = m.cells; frames = m.frames; parts = m.parts }

-- what entering the head of a table answers and leaves, over so many rows
abbrev pub EntersHead : Draft → ℕ → List ℕ → ℕ → (m m' : Held) → Result Draft Refused → Type 0
EntersHead d x list rows m m' answer =
    Answers (head_lines d rows m x list) d (with_head d (room (map axis_of (pairs list)))) (m' ≡ m) (m' ≡ head_noted m d.tables (head_of x list d.cells)) answer

-- the place of the next cell
abbrev pub next_cell : Draft → ℕ
next_cell d = d.filled

-- the head of the latest table
abbrev pub latest : Draft → Held → Head
latest d m = slice_index_or m.heads (d.tables - 1) (record { x = 0; axes = []; axis_count = 0; first = 0 })

-- the fields that the latest table names so far: x, the axes, of which there are at most four, and the cells entered
abbrev pub scope_so_far : Draft → Held → List ℕ
scope_so_far d m =
    (latest d m).x ∷ (map (λ ax. ax.field) (take (min (latest d m).axis_count 4) (latest d m).axes) ++ cell_fields (take (next_cell d - (latest d m).first) (drop (latest d m).first m.cells)))

-- entering cells for the latest table
abbrev pub cell_lines : Draft → ℕ → Held → List ℕ → Lines
cell_lines d rows m list =
    (short d rows m, Short)
    ∷ ((d.tables == 0 || (lacking d == 0 || nat_lt (lacking d) (pair_count list)), Misplaced)
    ∷ ((length list == 0 || (odd list || bad_mark (pairs list)), Shape)
    ∷ ((not (all_below d.fields (filter_map marked_field (pairs list))), NoSuchField)
    ∷ ((not (distinct (scope_so_far d m ++ filter_map marked_field (pairs list))), Twice)
    ∷ []))))

abbrev pub with_cells : Draft → ℕ → Draft
with_cells d count = record { fields = d.fields; tables = d.tables; cells = d.cells; filled = d.filled + count; frames = d.frames; parts = d.parts }

abbrev pub cells_noted : Held → ℕ → List ℕ → Held
cells_noted m at list = record { ranges = m.ranges; heads = m.heads; cells = overlay m.cells at (map cell_of (pairs list)); frames = m.frames; parts = m.parts }

-- what entering cells answers and leaves, over so many rows
abbrev pub EntersCells : Draft → List ℕ → ℕ → (m m' : Held) → Result Draft Refused → Type 0
EntersCells d list rows m m' answer =
    Answers (cell_lines d rows m list) d (with_cells d (pair_count list)) (m' ≡ m) (m' ≡ cells_noted m (next_cell d) list) answer

-- entering a frame
abbrev pub frame_lines : Draft → ℕ → Held → List ℕ → Lines
frame_lines d rows m list =
    ready_lines d rows m ++ ((odd list || (pair_count list == 0 || nat_lt 64 (pair_count list)), Shape)
    ∷ ((nat_le 32 d.frames || (nat_le (length m.frames) d.frames || (nat_lt 1024 (d.parts + pair_count list) || nat_lt (length m.parts) (d.parts + pair_count list))), Full)
    ∷ ((not (all_below d.fields (map first_field (pairs list))), NoSuchField)
    ∷ ((not (distinct (map first_field (pairs list))), Twice)
    ∷ []))))

abbrev pub with_frame : Draft → ℕ → Draft
with_frame d count = record { fields = d.fields; tables = d.tables; cells = d.cells; filled = d.filled; frames = d.frames + 1; parts = d.parts + count }

abbrev pub frame_noted : Held → Draft → ℕ → List ℕ → Held
frame_noted m d limit list = record {
  ranges = m.ranges;
  heads = m.heads;
  cells = m.cells;
  frames = slice_set m.frames d.frames (record { first = d.parts; count = pair_count list; limit = limit });
  parts = overlay m.parts d.parts (map part_of (pairs list));
}

-- what entering a frame answers and leaves, over so many rows
abbrev pub EntersFrame : Draft → ℕ → List ℕ → ℕ → (m m' : Held) → Result Draft Refused → Type 0
EntersFrame d limit list rows m m' answer =
    Answers (frame_lines d rows m list) d (with_frame d (pair_count list)) (m' ≡ m) (m' ≡ frame_noted m d limit list) answer

-- how many tables have all their cells
abbrev pub complete : Draft → ℕ
complete d = cond (lacking d == 0) d.tables (d.tables - 1)

-- the rules of a draft: its complete tables, then its frames, each in order of entry
abbrev pub own_rules : Draft → Held → List Rule
own_rules d m =
    map (table_rule (take d.cells m.cells)) (take (complete d) m.heads) ++ map (frame_rule (take d.parts m.parts)) (take d.frames m.frames)

-- the own book of a draft: its rules are those of the draft; where the memory is too short, it is refused
pub record ViewsOwn (d : Draft) (m : Held) (answer : Result (Joined Tables Frames) DraftFault) : Type 0 where
  pub refused : short d d.fields m ≡ true → answer ≡ Err Short
  pub accepted : short d d.fields m ≡ false → MatchResult answer (λ book. table_rules book.first ++ frame_rules book.second ≡ own_rules d m) (λ _. ⊥)
