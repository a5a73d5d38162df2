use Rattle.std.proofs.Common.{◌≡◌, ◌+◌, ◌*◌, ◌<◌, ◌&&◌, leb, ◌⊎◌, get_or, drop, ap, ◌∙◌, ap₂, inl, inr, ⊎_elim, arith}
use Rattle.std.proofs.lemmas.List.{drop_more, drop_all}
use Rattle.tables.specs.Reads.{room, positive}
use Rattle.tables.specs.declared.record.Axis.{Axis}
use Rattle.tables.proofs.ViewSteps.{room_over}
use Rattle.tables.proofs.reading.room_of.Goals as goal

pub returns-then-room-eq0 : goal.returns-then-room-eq0
returns-then-room-eq0 c =
    let axes = c.args.axes.now in
    let i = c.loop-axis.axis-index in
    let r = c.loop-axis.room in
    let ax : Axis = get_or axes i (record { field = 0; extent = 0 }) in
    let inv = c.loop-axis.invariant in
    let over : (r * ax.extent ≡ 0) ⊎ (1024 < r * ax.extent) = ⊎_elim (λ none. inl none) (λ more. inr more.1) c.then-room-eq0.either in
    ap₂ (λ p n. p && leb n 1024) inv.1 inv.0
    ∙ ap (λ rest. positive rest && leb (r * room rest) 1024) (drop_more axes i (record { field = 0; extent = 0 }) c.loop-axis-test.true)
    ∙ room_over r ax (drop (i + 1) axes) inv.2 over

pub returns : goal.returns
returns c =
    let axes = c.args.axes.now in
    let inv = c.loop-axis.invariant in
    let none = drop_all c.loop-axis.axis-index axes c.loop-axis-test.false in
    (inv.1 ∙ ap positive none, omega (arith, inv.0 ∙ ap (λ xs. c.loop-axis.room * room xs) none), inv.3)
