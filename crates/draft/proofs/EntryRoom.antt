-- Where no line refuses an entry, there is room for it. Assumes nothing.
use Rattle.std.proofs.Common.{◌≡◌, ℕ, ◌+◌, ◌<◌, ◌≤◌, List, map, length, None, arith}
use Rattle.std.proofs.lemmas.Bool.Decides.{nat_tests}
use Rattle.tables.specs.Reads.{room}
use Rattle.draft.specs.Entries.{lacking, field_lines, head_lines, cell_lines, frame_lines}
use Rattle.draft.specs.Faults.{uppermost}
use Rattle.draft.specs.Lists.{pairs, pair_count, axis_of}
use Rattle.draft.specs.Memory.{Held}
use Rattle.draft.specs.declared.state.Draft.{Draft}
use Rattle.draft.proofs.AcceptedLines.{none_met, long_enough}

-- a field's row and range have a place
pub record FieldRoom (d : Draft) (rows : ℕ) (m : Held) : Type 0 where
  pub few : d.fields < 240
  pub row : d.fields < rows
  pub range : d.fields < length m.ranges

pub field_room : (span : ℕ) (d : Draft) (rows : ℕ) (m : Held) (lo hi : ℕ) → uppermost (field_lines span d rows m lo hi) ≡ None → FieldRoom d rows m
field_room span d rows m lo hi none =
    let left = (none_met (field_lines span d rows m lo hi) none).1.1.1.0 in
    record { few = grind (arith, nat_tests); row = grind (arith, nat_tests); range = grind (arith, nat_tests) }

-- a head and its cells have their places, and it has at most four axes
pub record HeadRoom (d : Draft) (m : Held) (list : List ℕ) : Type 0 where
  pub axes : pair_count list ≤ 4
  pub few : d.tables < 64
  pub head : d.tables < length m.heads
  pub cells : d.cells + room (map axis_of (pairs list)) ≤ 4096

pub head_space : (d : Draft) (rows : ℕ) (m : Held) (x : ℕ) (list : List ℕ) → uppermost (head_lines d rows m x list) ≡ None → HeadRoom d m list
head_space d rows m x list none =
    let tests = none_met (head_lines d rows m x list) none in
    let shape = tests.1.1.0 in
    let left = tests.1.1.1.0 in
    record { axes = grind (arith, nat_tests); few = grind (arith, nat_tests); head = grind (arith, nat_tests); cells = grind (arith, nat_tests) }

-- cells have their places
pub record CellRoom (d : Draft) (m : Held) (list : List ℕ) : Type 0 where
  pub room : d.filled + pair_count list ≤ d.cells
  pub cells : d.cells ≤ length m.cells

pub cells_accepted : (d : Draft) (rows : ℕ) (m : Held) (list : List ℕ) → uppermost (cell_lines d rows m list) ≡ None → CellRoom d m list
cells_accepted d rows m list none =
    let tests = none_met (cell_lines d rows m list) none in
    let placed = tests.1.0 in
    let some : 0 < lacking d = grind (arith, nat_tests) in
    let most : pair_count list ≤ lacking d = grind (arith, nat_tests) in
    record { room = omega arith; cells = (long_enough d rows m tests.0).cells_long }

-- a frame and its parts have their places
pub record FrameRoom (d : Draft) (m : Held) (list : List ℕ) : Type 0 where
  pub few : d.frames < 32
  pub frame : d.frames < length m.frames
  pub few_parts : d.parts + pair_count list ≤ 1024
  pub parts : d.parts + pair_count list ≤ length m.parts

pub frame_space : (d : Draft) (rows : ℕ) (m : Held) (list : List ℕ) → uppermost (frame_lines d rows m list) ≡ None → FrameRoom d m list
frame_space d rows m list none =
    let left = (none_met (frame_lines d rows m list) none).1.1.1.0 in
    record { few = grind (arith, nat_tests); frame = grind (arith, nat_tests); few_parts = grind (arith, nat_tests); parts = grind (arith, nat_tests) }

-- the cells fit behind those that are filled
pub cells_fit : (d : Draft) (rows : ℕ) (m : Held) (list : List ℕ) → uppermost (cell_lines d rows m list) ≡ None → d.filled + pair_count list ≤ length m.cells
cells_fit d rows m list none =
    let tests = none_met (cell_lines d rows m list) none in
    let placed = tests.1.0 in
    let some : 0 < lacking d = grind (arith, nat_tests) in
    let most : pair_count list ≤ lacking d = grind (arith, nat_tests) in
    omega (arith, (long_enough d rows m tests.0).cells_long)

-- and the parts of a frame
pub parts_fit : (d : Draft) (rows : ℕ) (m : Held) (list : List ℕ) → uppermost (frame_lines d rows m list) ≡ None → d.parts + pair_count list ≤ length m.parts
parts_fit d rows m list none =
    let left = (none_met (frame_lines d rows m list) none).1.1.1.0 in
    grind (arith, nat_tests)
