-- Entering the head of a table, and its cells, keeps what is kept of a draft. Assumes nothing.
use Rattle.std.proofs.Common.{◌≡◌, ℕ, suc, ◌+◌, ◌-◌, ◌<◌, ◌≤◌, min, true, List, [], ◌∷◌, ◌++◌, map, length, get_or, take, drop, set, filter_map, None, sym, ap, ◌∙◌, subst, inl, inr, ⊎_elim, arith, length-take-le, take-suc, get_or-set_same}
use lib.Seq.{take-set-le}
use Rattle.std.proofs.lemmas.List.{append-nil, append_assoc, length-map, map-append}
use Rattle.std.proofs.lemmas.Bool.{cases_lt, cond-true, and_from, not-false, le-leb, ltb-false}
use Rattle.std.proofs.lemmas.Bool.Decides.{nat_tests}
use Rattle.rows.specs.Values.{Values}
use Rattle.rules.specs.Books.{no_rule}
use Rattle.rules.specs.Rules.{In, Distinct, EachRule, LawfulRule}
use Rattle.rules.proofs.Lists.{in_either}
use Rattle.tables.specs.Reads.{room, positive, axes_of, cell_fields, cells_of, table_scope, lookup_rule, table_rule, makes_sense}
use Rattle.tables.specs.declared.record.Axis.{Axis}
use Rattle.tables.specs.declared.record.Cell.{Cell}
use Rattle.tables.specs.declared.record.Head.{Head}
use Rattle.tables.proofs.ViewSteps.{room_some, fields_append}
use Rattle.draft.specs.Entries.{lacking, head_lines, with_head, head_of, head_noted, next_cell, latest, scope_so_far, cell_lines, with_cells, cells_noted}
use Rattle.draft.specs.Faults.{uppermost}
use Rattle.draft.specs.Lists.{pairs, pair_count, axis_of, cell_of, first_field, marked_field, all_below, distinct}
use Rattle.draft.specs.Memory.{Held, overlay}
use Rattle.draft.specs.declared.state.Draft.{Draft}
use Rattle.draft.proofs.AcceptedLines.{none_met, long_enough}
use Rattle.draft.proofs.FieldTests.{below_from_test, apart_from_test}
use Rattle.draft.proofs.Keeping.{Shaped, Closed, Opened, Kept}
use Rattle.draft.proofs.LongerMemory.{each_both, tables_longer}
use Rattle.draft.proofs.Overlays.{overlay_length, part_of_front, front_kept, part_written}
use Rattle.draft.proofs.PairLists.{pairs_length, axis_fields, cell_names, axes_again}

-- what is read where there is no head
no_head : Head
no_head = record { x = 0; axes = []; axis_count = 0; first = 0 }

-- a head of this shape whose cells lie in the memory makes sense
shape_sense : (cells : List Cell) (head : Head) → Shaped head → head.first + room (axes_of head) ≤ length cells → makes_sense cells head ≡ true
shape_sense cells head shape fits =
    and_from _ _ (le-leb 1 head.axis_count shape.some)
    (and_from _ _ (le-leb head.axis_count 4 shape.few)
    (and_from _ _ shape.extents
    (and_from _ _ (le-leb (room (axes_of head)) 1024 shape.small) (le-leb (head.first + room (axes_of head)) (length cells) fits))))

-- ---- the last cells

module _ (d : Draft) (m : Held) (opened : Opened (latest d m) d m) (none : lacking d ≡ 0) (counted : d.filled ≤ d.cells) (heads : d.tables ≤ length m.heads) (cells : d.cells ≤ length m.cells) where
  -- the latest table is lawful once no cell lacks
  latest_lawful : LawfulRule d.fields (table_rule (take d.cells m.cells) (latest d m))
  latest_lawful =
      let head = latest d m in
      let all = take d.cells m.cells in
      let size = room (axes_of head) in
      let long : length all ≡ d.cells = length-take-le d.cells m.cells cells in
      let whole : head.first + size ≡ d.cells = opened.whole in
      let entered : next_cell d - head.first ≡ size = omega arith in
      let own : take (next_cell d - head.first) (drop head.first m.cells) ≡ cells_of all head =
      ap (λ k. take k (drop head.first m.cells)) entered ∙ sym (part_of_front head.first size d.cells m.cells (omega arith)) in
      let scope = table_scope head.x (axes_of head) in
      subst (LawfulRule d.fields) (sym (cond-true (makes_sense all head) (lookup_rule head.x (axes_of head) (cells_of all head)) no_rule (shape_sense all head opened.shape (omega arith))))
      (record {
        names_some = omega arith;
        below = subst (λ cs. (f : ℕ) → In f (scope cs) → f < d.fields) own opened.below;
        apart = subst (λ cs. Distinct (scope cs)) own opened.apart;
      })

  -- the latest table joins those before it
  closing : Closed d m
  unfolding no_head
  closing =
      let head = latest d m in
      let rule = table_rule (take d.cells m.cells) in
      let before = take (d.tables - 1) m.heads in
      let one_more : suc (d.tables - 1) ≡ d.tables = omega (arith, opened.some) in
      let all : take d.tables m.heads ≡ before ++ (head ∷ []) =
      ap (λ k. take k m.heads) (sym one_more) ∙ take-suc m.heads (d.tables - 1) no_head (omega (arith, opened.some)) in
      let others = tables_longer d.fields head.first d.cells m.cells before (omega (arith, opened.whole)) opened.each in
      record {
        none = none;
        each = subst (λ hs. EachRule (LawfulRule d.fields) (map rule hs)) (sym all)
            (subst (EachRule (LawfulRule d.fields)) (sym (map-append rule before (head ∷ [])))
            (each_both (LawfulRule d.fields) (map rule before) (rule head ∷ []) others (latest_lawful, tt)));
      }

-- ---- a head

module _ (d : Draft) (x : ℕ) (list : List ℕ) (m : Held) where
  axes : List Axis
  axes = map axis_of (pairs list)

  -- the table begins with no cell entered
  head_opens : Closed d m → d.filled ≤ d.cells → d.tables < length m.heads → 1 ≤ pair_count list → pair_count list ≤ 4 → positive axes ≡ true → room axes ≤ 1024
      → all_below d.fields (x ∷ map first_field (pairs list)) ≡ true → distinct (x ∷ map first_field (pairs list)) ≡ true
      → Opened (latest (with_head d (room axes)) (head_noted m d.tables (head_of x list d.cells))) (with_head d (room axes)) (head_noted m d.tables (head_of x list d.cells))
  unfolding axes no_head
  head_opens closed counted more some few extents small below apart =
      let head = head_of x list d.cells in
      let after = with_head d (room axes) in
      let m' = head_noted m d.tables head in
      let same : axes_of head ≡ axes = axes_again axes (pair_count list) (length-map (pairs list) axis_of ∙ pairs_length list) few in
      let size : room (axes_of head) ≡ room axes = ap room same in
      let place : d.tables + 1 - 1 ≡ d.tables = omega arith in
      let is : latest after m' ≡ head = ap (λ k. get_or (set m.heads d.tables head) k no_head) place ∙ get_or-set_same m.heads d.tables head no_head more in
      let before : take (d.tables + 1 - 1) (set m.heads d.tables head) ≡ take d.tables m.heads =
      ap (λ k. take k (set m.heads d.tables head)) place ∙ take-set-le d.tables m.heads d.tables head (omega arith) in
      let start : next_cell after - d.cells ≡ 0 = omega arith in
      let scope : table_scope x (axes_of head) (take (next_cell after - d.cells) (drop d.cells m.cells)) ≡ x ∷ map first_field (pairs list) =
      ap (λ k. table_scope x (axes_of head) (take k (drop d.cells m.cells))) start
      ∙ ap (λ axs. x ∷ (map (λ ax. ax.field) axs ++ [])) same
      ∙ ap (λ fs. x ∷ fs) (append-nil (map (λ ax. ax.field) axes) ∙ sym (axis_fields (pairs list))) in
      subst (λ h. Opened h after m') (sym is) (record {
        some = omega arith;
        each = subst (λ hs. EachRule (LawfulRule d.fields) (map (table_rule (take d.cells m.cells)) hs)) (sym before) closed.each;
        shape = record { some = some; few = few; extents = subst (λ axs. positive axs ≡ true) (sym same) extents; small = omega arith };
        whole = omega arith;
        lacks = omega (arith, closed.none);
        below = λ f i. below_from_test d.fields (x ∷ map first_field (pairs list)) below f (subst (In f) scope i);
        apart = subst Distinct (sym scope) (apart_from_test (x ∷ map first_field (pairs list)) apart);
      })

  pub head_kept : {R : Type 0} (values : R → Values) (rows : List R) → uppermost (head_lines d (length rows) m x list) ≡ None → Kept values d rows m
      → Kept values (with_head d (room (map axis_of (pairs list)))) rows (head_noted m d.tables (head_of x list d.cells))
  unfolding axes
  head_kept values rows none kept =
      let count = pair_count list in
      let tests = none_met (head_lines d (length rows) m x list) none in
      let whole : lacking d ≤ 0 = ltb-false 0 (lacking d) tests.1.0 in
      let sized = tests.1.1.0 in
      let some : 1 ≤ count = grind (arith, nat_tests) in
      let most : count ≤ 4 = grind (arith, nat_tests) in
      let extents : positive axes ≡ true = grind (arith, nat_tests) in
      let small : room axes ≤ 1024 = grind (arith, nat_tests) in
      let left = tests.1.1.1.0 in
      let few : d.tables < 64 = grind (arith, nat_tests) in
      let more : d.tables < length m.heads = grind (arith, nat_tests) in
      record {
        few = kept.few;
        few_tables = omega arith;
        few_frames = kept.few_frames;
        counted = omega (arith, kept.counted);
        enough = kept.enough;
        ranges = kept.ranges;
        tables = elim kept.tables [
          | inl closed ↦ inr (
            omega (arith, room_some axes extents, kept.counted),
            head_opens closed kept.counted more some most extents small
                (not-false (all_below d.fields (x ∷ map first_field (pairs list))) tests.1.1.1.1.0) (not-false (distinct (x ∷ map first_field (pairs list))) tests.1.1.1.1.1.0),
          )
          | inr opened ↦ absurd (omega (arith, opened.0))
        ];
        frames = kept.frames;
      }

-- ---- cells

module _ (d : Draft) (list : List ℕ) (m : Held) where
  -- the latest table with more cells
  cells_open : Opened (latest d m) d m → d.filled ≤ d.cells → d.cells ≤ length m.cells → pair_count list ≤ lacking d → all_below d.fields (filter_map marked_field (pairs list)) ≡ true
      → distinct (scope_so_far d m ++ filter_map marked_field (pairs list)) ≡ true → Opened (latest d m) (with_cells d (pair_count list)) (cells_noted m (next_cell d) list)
  cells_open opened counted fits most below apart =
      let head = latest d m in
      let count = pair_count list in
      let new = map cell_of (pairs list) in
      let after = with_cells d count in
      let at = next_cell d in
      let written = overlay m.cells at new in
      let size = room (axes_of head) in
      let whole : head.first + size ≡ d.cells = opened.whole in
      let lacks : lacking d ≤ size = opened.lacks in
      let from : head.first ≤ at = omega arith in
      let long : length new ≡ count = length-map (pairs list) cell_of ∙ pairs_length list in
      let within : at + count ≤ length m.cells = omega arith in
      let old = take (at - head.first) (drop head.first m.cells) in
      let reach : next_cell after - head.first ≡ at + count - head.first = omega arith in
      let own : take (next_cell after - head.first) (drop head.first written) ≡ old ++ new =
      ap (λ k. take k (drop head.first written)) reach ∙ part_written m.cells at count new long within head.first from in
      let fields = map (λ ax. ax.field) (axes_of head) in
      let all-axes : min head.axis_count 4 ≡ head.axis_count = omega (arith, opened.shape.few) in
      let so_far : scope_so_far d m ≡ table_scope head.x (axes_of head) old = ap (λ k. head.x ∷ (map (λ ax. ax.field) (take k head.axes) ++ cell_fields old)) all-axes in
      let scope : table_scope head.x (axes_of head) (take (next_cell after - head.first) (drop head.first written)) ≡ scope_so_far d m ++ filter_map marked_field (pairs list) =
      ap (table_scope head.x (axes_of head)) own
      ∙ ap (λ fs. head.x ∷ (fields ++ fs)) (fields_append old new ∙ ap (λ fs. cell_fields old ++ fs) (cell_names (pairs list)))
      ∙ ap (λ fs. head.x ∷ fs) (sym (append_assoc fields (cell_fields old) (filter_map marked_field (pairs list))))
      ∙ ap (λ fs. fs ++ filter_map marked_field (pairs list)) (sym so_far) in
      record {
        some = opened.some;
        each = subst (λ cs. EachRule (LawfulRule d.fields) (map (table_rule cs) (take (d.tables - 1) m.heads))) (sym (front_kept m.cells at count new long within head.first from)) opened.each;
        shape = opened.shape;
        whole = whole;
        lacks = omega arith;
        below = λ f i. ⊎_elim (λ old-field. opened.below f (subst (In f) so_far old-field)) (below_from_test d.fields (filter_map marked_field (pairs list)) below f) (in_either (scope_so_far d m) (filter_map marked_field (pairs list)) f (subst (In f) scope i));
        apart = subst Distinct (sym scope) (apart_from_test (scope_so_far d m ++ filter_map marked_field (pairs list)) apart);
      }

  pub cells_kept : {R : Type 0} (values : R → Values) (rows : List R) → uppermost (cell_lines d (length rows) m list) ≡ None → Kept values d rows m
      → Kept values (with_cells d (pair_count list)) rows (cells_noted m (next_cell d) list)
  cells_kept values rows none kept =
      let count = pair_count list in
      let tests = none_met (cell_lines d (length rows) m list) none in
      let long = long_enough d (length rows) m tests.0 in
      let placed = tests.1.0 in
      let some : 0 < lacking d = grind (arith, nat_tests) in
      let most : count ≤ lacking d = grind (arith, nat_tests) in
      let after = with_cells d count in
      let m' = cells_noted m (next_cell d) list in
      let as_long : length m'.cells ≡ length m.cells = overlay_length m.cells (next_cell d) (map cell_of (pairs list)) in
      record {
        few = kept.few;
        few_tables = kept.few_tables;
        few_frames = kept.few_frames;
        counted = omega (arith, kept.counted);
        enough = kept.enough;
        ranges = kept.ranges;
        tables = elim kept.tables [
          | inl closed ↦ absurd (omega (arith, closed.none))
          | inr was ↦
              let opened : Opened (latest d m) after m' = cells_open was.1 kept.counted long.cells_long most
              (not-false (all_below d.fields (filter_map marked_field (pairs list))) tests.1.1.1.0) (not-false (distinct (scope_so_far d m ++ filter_map marked_field (pairs list))) tests.1.1.1.1.0) in
              ⊎_elim
              (λ lacks. inr (lacks, opened))
              (λ last. inl (closing after m' opened (omega arith) (omega (arith, kept.counted)) long.heads_long (omega (arith, long.cells_long))))
              (cases_lt 0 (lacking after))
        ];
        frames = kept.frames;
      }
