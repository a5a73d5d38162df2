use Rattle.std.proofs.Common.{length, arith}
use Rattle.draft.specs.Memory.{held}
use Rattle.draft.proofs.EntryRoom.{head_space}
use Rattle.draft.proofs.state.Draft.enter_table.Goals as goal

pub bounds-memory-self : goal.bounds-memory-self
bounds-memory-self g c =
    (head_space c.args.self (length c.args.rows.now) (held c.args.memory.now) c.args.x c.args.axes.now c.in-Ok.ensures.0).head

pub overflow_add-result-2 : goal.overflow_add-result-2
overflow_add-result-2 g c =
    let space = head_space c.args.self (length c.args.rows.now) (held c.args.memory.now) c.args.x c.args.axes.now c.in-Ok.ensures.0 in
    omega (arith, space.cells, c.in-Ok.ensures.1)
