use Rattle.std.proofs.Common.{◌≡◌, ◌+◌, ◌≤◌, true, false, ◌&&◌, leb, length, take, drop, sym, ap, ◌∙◌, ap₂, subst, arith, rules}
use Rattle.std.proofs.lemmas.Bool.Decides.{nat_tests}
use Rattle.tables.specs.Reads.{room, positive, axes_of, makes_sense, lookup_rule, table_rule}
use Rattle.tables.proofs.TableAt.{no_table, the_table, no_room, none_told, from_start, behind}
use Rattle.tables.proofs.ViewSteps.{rule_past}
use Rattle.tables.proofs.record.Tables.table.Goals as goal

pub returns-in_err-head : goal.returns-in_err-head
returns-in_err-head c =
    let book = c.args.self.now in
    none_told book c.args.k _ c.from_residual.ensures (rule_past (table_rule book.cells.now) book.heads.now c.args.k c.in_err-head.ensures.lookup.3)

pub returns-in_err-axes : goal.returns-in_err-axes
returns-in_err-axes c =
    let book = c.args.self.now in
    let head = c.in_ok-head.head.now in
    let found = c.in_ok-head.ensures.lookup in
    let four : length head.axes ≡ 4 = search rules in
    let short = c.in_err-axes.ensures.lookup.0 in
    let senseless : makes_sense book.cells.now head ≡ false = grind (arith, nat_tests) in
    none_told book c.args.k _ c.from_residual-in_err-axes.ensures (no_table book c.args.k head found.3.0 found.1 senseless)

pub returns-then-is_empty : goal.returns-then-is_empty
returns-then-is_empty c =
    let book = c.args.self.now in
    let head = c.in_ok-head.head.now in
    let found = c.in_ok-head.ensures.lookup in
    let long = c.in_ok-axes.ensures.lookup.0.3 in
    let none = c.if-is_empty.ensures in
    let senseless : makes_sense book.cells.now head ≡ false = grind (arith, nat_tests) in
    no_table book c.args.k head found.3.0 found.1 senseless

pub returns-in_err-room : goal.returns-in_err-room
returns-in_err-room c =
    let book = c.args.self.now in
    let head = c.in_ok-head.head.now in
    let found = c.in_ok-head.ensures.lookup in
    let is : c.in_ok-axes.axes.now ≡ axes_of head = c.in_ok-axes.ensures.lookup.0.2 ∙ from_start head.axis_count head.axes in
    let senseless : makes_sense book.cells.now head ≡ false =
    no_room (leb 1 head.axis_count) (leb head.axis_count 4) (positive (axes_of head)) (leb (room (axes_of head)) 1024) _
    (subst (λ axes. (positive axes && leb (room axes) 1024) ≡ false) is c.in_err-room.ensures)
    in
    none_told book c.args.k _ c.from_residual-in_err-room.ensures (no_table book c.args.k head found.3.0 found.1 senseless)

pub returns-in_err-get : goal.returns-in_err-get
returns-in_err-get c =
    let book = c.args.self.now in
    let head = c.in_ok-head.head.now in
    let found = c.in_ok-head.ensures.lookup in
    let out = c.in_err-get.ensures.lookup.0 in
    let senseless : makes_sense book.cells.now head ≡ false = grind (arith, nat_tests) in
    none_told book c.args.k _ c.from_residual-in_err-get.ensures (no_table book c.args.k head found.3.0 found.1 senseless)

pub returns-in_err-cells : goal.returns-in_err-cells
returns-in_err-cells c =
    let book = c.args.self.now in
    let head = c.in_ok-head.head.now in
    let found = c.in_ok-head.ensures.lookup in
    let out = c.in_err-cells.ensures.lookup.0 in
    let rest : length c.in_ok-get.field-0.now + head.first ≡ length book.cells.now = c.in_ok-get.ensures.lookup.0.3 in
    let is : c.in_ok-axes.axes.now ≡ axes_of head = c.in_ok-axes.ensures.lookup.0.2 ∙ from_start head.axis_count head.axes in
    let room-is : c.in_ok-room.room ≡ room (axes_of head) = c.in_ok-room.ensures.1 ∙ ap room is in
    let senseless : makes_sense book.cells.now head ≡ false = grind (arith, nat_tests) in
    none_told book c.args.k _ c.from_residual-in_err-cells.ensures (no_table book c.args.k head found.3.0 found.1 senseless)

pub returns : goal.returns
returns c =
    let book = c.args.self.now in
    let head = c.in_ok-head.head.now in
    let found = c.in_ok-head.ensures.lookup in
    let four : length head.axes ≡ 4 = search rules in
    let some = c.if-is_empty.ensures in
    let long = c.in_ok-axes.ensures.lookup.0.3 in
    let rest : length c.in_ok-get.field-0.now + head.first ≡ length book.cells.now = c.in_ok-get.ensures.lookup.0.3 in
    let enough : c.in_ok-room.room ≤ length c.in_ok-get.field-0.now = c.in_ok-cells.ensures.lookup.0.1 in
    let axes-is : c.in_ok-axes.axes.now ≡ axes_of head = c.in_ok-axes.ensures.lookup.0.2 ∙ from_start head.axis_count head.axes in
    let cells-is = behind head.first c.in_ok-room.room book.cells.now c.in_ok-get.field-0.now c.in_ok-cells.cells.now c.in_ok-get.ensures.lookup.0.2 c.in_ok-cells.ensures.lookup.0.2 in
    let room-is : c.in_ok-room.room ≡ room (axes_of head) = c.in_ok-room.ensures.1 ∙ ap room axes-is in
    let positive-is : positive (axes_of head) ≡ true = sym (ap positive axes-is) ∙ c.in_ok-room.ensures.0 in
    let sense : makes_sense book.cells.now head ≡ true = grind (arith, nat_tests) in
    the_table book c.args.k head found.3.0 found.1 sense ∙ ap₂ (lookup_rule head.x) (sym axes-is) (sym (cells-is ∙ ap (λ n. take n (drop head.first book.cells.now)) room-is))
