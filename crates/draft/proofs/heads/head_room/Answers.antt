use Rattle.std.proofs.Common.{◌≡◌, ◌-◌, take, subst, arith}
use Rattle.tables.specs.Views.{IsRoom}
use Rattle.draft.specs.Lists.{pair_count}
use Rattle.draft.proofs.HeadRoom.{room_told}
use Rattle.draft.proofs.heads.head_room.Goals as goal

pub returns : goal.returns
returns c =
    let list = c.args.list.now in
    let whole : pair_count list - 0 ≡ pair_count list = omega arith in
    room_told list c.read_axes-axes.result c.room_of.result c.if-list-eq1.false c.if-count-eq0.false c.if-count-gt4.false c.read_axes-axes.ensures
    (subst (λ k. IsRoom (take k c.read_axes-axes.result) c.room_of.result) whole c.room_of.ensures)
