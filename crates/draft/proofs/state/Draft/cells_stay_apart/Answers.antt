use Rattle.std.proofs.Common.{◌≡◌, ℕ, ◌-◌, min, List, ◌++◌, filter_map, take, drop, ap, ◌∙◌, ap₂, arith}
use Rattle.tables.specs.Reads.{table_scope}
use Rattle.tables.specs.declared.record.Cell.{Cell}
use Rattle.draft.specs.Entries.{latest}
use Rattle.draft.specs.Lists.{distinct, marked_field, pairs}
use Rattle.draft.specs.Memory.{held}
use Rattle.draft.proofs.CellSteps.{between}
use Rattle.draft.proofs.state.Draft.cells_stay_apart.Goals as goal

pub returns : goal.returns
returns c =
    let head = latest c.args.self.now (held c.args.memory.now) in
    let next = c.args.self.now.filled in
    let count : c.min-axis_count.result - 0 ≡ min head.axis_count 4 = omega (arith, c.min-axis_count.ensures) in
    let part = ap (λ k. take (next - k) (drop k c.args.memory.now.cells.now)) c.min-first.ensures ∙ between head.first next c.args.memory.now.cells.now in
    c.scope_is_apart.ensures
    ∙ ap₂ (λ (k : ℕ) (entered : List Cell). distinct (table_scope head.x (take k head.axes) entered ++ filter_map marked_field (pairs c.args.list.now))) count part
