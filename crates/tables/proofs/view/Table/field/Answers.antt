use Rattle.std.proofs.Common.{◌≡◌, ◌+◌, length, map, slice_get, sym, ap, ◌∙◌, arith}
use Rattle.std.proofs.lemmas.List.{length-map}
use Rattle.tables.specs.Reads.{cell_fields}
use Rattle.tables.specs.Views.{scope_of}
use Rattle.tables.proofs.Scoping.{behind}
use Rattle.tables.proofs.view.Table.field.Goals as goal

pub returns-in-Some-checked_sub : goal.returns-in-Some-checked_sub
returns-in-Some-checked_sub c =
    let t = c.args.self.now in
    let fields = map (λ ax. ax.field) t.axes.now in
    let k = c.in-Some-checked_sub.behind_axes in
    let place : c.args.place ≡ 1 + length fields + k = omega (arith, c.in-Some.ensures, c.in-Some-checked_sub.ensures, length-map t.axes.now (λ ax. ax.field)) in
    c.cell_field.ensures ∙ sym (ap (λ i. slice_get (scope_of t) i) place ∙ behind t.x fields (cell_fields t.cells.now) k)
