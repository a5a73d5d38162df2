use Rattle.std.proofs.Common.{◌++◌, map, refl}
use Rattle.tables.specs.Reads.{cell_fields}
use Rattle.tables.specs.Views.{scope_of, rule_of}
use Rattle.tables.proofs.Scoping.{gives, lawful_noted}
use Rattle.tables.proofs.view.Table.is_lawful.Goals as goal

pub returns : goal.returns
returns c =
    let t = c.args.self.now in
    let noted = c.note_all.ensures (scope_of t) (gives c.scope.result (scope_of t) c.scope.ensures).runs c.args.n refl in
    lawful_noted c.args.n t.x (map (λ ax. ax.field) t.axes.now ++ cell_fields t.cells.now) (rule_of t).allows c.none.result c.note_all.new.self c.note_all.result c.none.ensures noted
