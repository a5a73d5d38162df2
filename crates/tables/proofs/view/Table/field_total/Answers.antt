use Rattle.std.proofs.Common.{map, length, arith}
use Rattle.std.proofs.lemmas.List.{length-append, length-map}
use Rattle.tables.specs.Reads.{cell_fields}
use Rattle.tables.proofs.ViewSteps.{fields_few}
use Rattle.tables.proofs.view.Table.field_total.Goals as goal

pub overflow_add-result-2 : goal.overflow_add-result-2
overflow_add-result-2 c =
    let t = c.args.self.now in
    omega (arith, c.field_count.ensures, fields_few t.cells.now, t.few, t.small, t.long)

pub returns : goal.returns
returns c =
    let t = c.args.self.now in
    omega (arith, c.field_count.ensures, length-append (map (λ ax. ax.field) t.axes.now) (cell_fields t.cells.now), length-map t.axes.now (λ ax. ax.field))
