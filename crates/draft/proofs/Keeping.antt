-- What every entry keeps of a draft, and why it makes the draft sound. Assumes nothing.
use Rattle.std.proofs.Common.{◌≡◌, ℕ, ◌+◌, ◌-◌, ◌<◌, ◌≤◌, true, eqb, ◌⊎◌, List, map, length, take, drop, sym, subst, inl, inr, arith, length-append, length-take}
use Rattle.std.proofs.lemmas.List.{length-map}
use Rattle.std.proofs.lemmas.Bool.{cond-true, cond-false, cond_both, eq-eqb, ne_eqb}
use Rattle.frames.specs.Reads.{frame_rule}
use Rattle.rows.specs.Values.{Values}
use Rattle.rules.specs.Books.{sets}
use Rattle.rules.specs.Rules.{Rule, In, Distinct, EachRule, LawfulRule}
use Rattle.tables.specs.Reads.{room, positive, axes_of, table_scope, table_rule}
use Rattle.tables.specs.declared.record.Head.{Head}
use Rattle.draft.specs.Entries.{lacking, next_cell, latest, complete}
use Rattle.draft.specs.Made.{Drafted, Sound, entered}
use Rattle.draft.specs.Memory.{Held}
use Rattle.draft.specs.declared.state.Draft.{Draft}
use Rattle.draft.proofs.LongerMemory.{each_both, tables_longer}

-- the axes of a head make sense
pub record Shaped (head : Head) : Type 0 where
  pub some : 1 ≤ head.axis_count
  pub few : head.axis_count ≤ 4
  pub extents : positive (axes_of head) ≡ true
  pub small : room (axes_of head) ≤ 1024

-- no cell lacks, and every table is lawful
pub record Closed (d : Draft) (m : Held) : Type 0 where
  pub none : lacking d ≡ 0
  pub each : EachRule (LawfulRule d.fields) (map (table_rule (take d.cells m.cells)) (take d.tables m.heads))

-- the latest table, of this head, has its cells last, some of which may lack; those before it are lawful by the cells before its own
pub record Opened (head : Head) (d : Draft) (m : Held) : Type 0 where
  pub some : 0 < d.tables
  pub each : EachRule (LawfulRule d.fields) (map (table_rule (take head.first m.cells)) (take (d.tables - 1) m.heads))
  pub shape : Shaped head
  pub whole : head.first + room (axes_of head) ≡ d.cells
  pub lacks : lacking d ≤ room (axes_of head)
  pub below : (f : ℕ) → In f (table_scope head.x (axes_of head) (take (next_cell d - head.first) (drop head.first m.cells))) → f < d.fields
  pub apart : Distinct (table_scope head.x (axes_of head) (take (next_cell d - head.first) (drop head.first m.cells)))

abbrev pub TablesKept : Draft → Held → Type 0
TablesKept d m = Closed d m ⊎ ((0 < lacking d) × Opened (latest d m) d m)

abbrev pub FramesKept : Draft → Held → Type 0
FramesKept d m = EachRule (LawfulRule d.fields) (map (frame_rule (take d.parts m.parts)) (take d.frames m.frames))

-- what every entry keeps
pub record Kept {R : Type 0} (values : R → Values) (d : Draft) (rows : List R) (m : Held) : Type 0 where
  pub few : d.fields ≤ 240
  pub few_tables : d.tables ≤ 64
  pub few_frames : d.frames ≤ 32
  pub counted : d.filled ≤ d.cells
  pub enough : d.fields ≤ length rows
  pub ranges : (f v : ℕ) → f < d.fields → sets values rows f v ≡ entered m.ranges f v
  pub tables : TablesKept d m
  pub frames : FramesKept d m

-- the complete tables are lawful
complete_lawful : (d : Draft) (m : Held) → TablesKept d m → EachRule (LawfulRule d.fields) (map (table_rule (take d.cells m.cells)) (take (complete d) m.heads))
complete_lawful d m (inl closed) =
    let all = cond-true (eqb (lacking d) 0) d.tables (d.tables - 1) (eq-eqb (lacking d) 0 closed.none) in
    subst (λ k. EachRule (LawfulRule d.fields) (map (table_rule (take d.cells m.cells)) (take k m.heads))) (sym all) closed.each
complete_lawful d m (inr (lacks, opened)) =
    let others = cond-false (eqb (lacking d) 0) d.tables (d.tables - 1) (ne_eqb (lacking d) 0 (λ e. omega arith)) in
    let before : (latest d m).first ≤ d.cells = omega (arith, opened.whole) in
    subst (λ k. EachRule (LawfulRule d.fields) (map (table_rule (take d.cells m.cells)) (take k m.heads))) (sym others)
    (tables_longer d.fields (latest d m).first d.cells m.cells (take (d.tables - 1) m.heads) before opened.each)

front_few : {A : Type 0} (made : A → Rule) (n : ℕ) (xs : List A) → length (map made (take n xs)) ≤ n
front_few made n xs = omega (arith, length-map (take n xs) made, length-take n xs)

complete_few : (d : Draft) → complete d ≤ d.tables
complete_few d = cond_both (eqb (lacking d) 0) d.tables (d.tables - 1) (λ k. k ≤ d.tables) (λ _. omega arith) (λ _. omega arith)

pub sound_if_kept : {R : Type 0} (values : R → Values) (s : Drafted R) → Kept values s.draft s.rows s.memory → Sound values s
sound_if_kept values s kept =
    let d = s.draft in
    let m = s.memory in
    let tables = map (table_rule (take d.cells m.cells)) (take (complete d) m.heads) in
    let frames = map (frame_rule (take d.parts m.parts)) (take d.frames m.frames) in
    let few_tables = front_few (table_rule (take d.cells m.cells)) (complete d) m.heads in
    let few_frames = front_few (frame_rule (take d.parts m.parts)) d.frames m.frames in
    record {
      few = kept.few;
      enough = kept.enough;
      ranges = kept.ranges;
      lawful = record {
        few = omega (arith, length-append tables frames, complete_few d, few_tables, few_frames, kept.few_tables, kept.few_frames);
        each = each_both (LawfulRule d.fields) tables frames (complete_lawful d m kept.tables) kept.frames;
      };
    }
