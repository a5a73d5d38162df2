use Rattle.std.proofs.Common.{◌≡◌, ℕ, ◌+◌, ◌<◌, not, ◌&&◌, ◌||◌, [], ◌∷◌, ◌++◌, map, length, get_or, take, drop, set, Decides, sym, ap, ◌∙◌, subst, arith, rules, length-append}
use Rattle.rules.specs.Books.{sets, Loses}
use Rattle.rules.proofs.RowSets.{sets_at}
use Rattle.rules.specs.Writes.{Written}
use Rattle.tables.specs.Left.{axes_left}
use Rattle.tables.specs.Scans.{unmarked}
use Rattle.tables.proofs.Blocks.{no_axis}
use Rattle.tables.proofs.LeftExact.{axes_at}
use Rattle.tables.proofs.Writes.{field_is, field_in, axis_not_yet, axis_written, taken_at, kept_marks}
use Rattle.tables.proofs.view.Table.cut_axes.Goals as goal

pub offset_bounds-rows-field : goal.offset_bounds-rows-field
offset_bounds-rows-field g c =
    let axes = c.args.self.now.axes.now in
    let i = length c.loop-axis.yielded in
    let at = taken_at axes _ i c.in-Some.axis.now no_axis (sym c.in-Some.ensures.steps.0 ∙ c.loop-axis.invariant.2) in
    let below = subst (λ f. f < length c.args.rows.now) (ap (λ ax. ax.field) at.1) (c.requires.below _ (field_in axes i at.0)) in
    search rules

pub bounds-rows-field : goal.bounds-rows-field
bounds-rows-field g c =
    let axes = c.args.self.now.axes.now in
    let i = length c.loop-axis.yielded in
    let at = taken_at axes _ i c.in-Some.axis.now no_axis (sym c.in-Some.ensures.steps.0 ∙ c.loop-axis.invariant.2) in
    let below = subst (λ f. f < length c.args.rows.now) (ap (λ ax. ax.field) at.1) (c.requires.below _ (field_in axes i at.0)) in
    omega arith

pub loop-axis-preserved : goal.loop-axis-preserved
loop-axis-preserved g c =
    let values = g.R.Row.values in
    let axes = c.args.self.now.axes.now in
    let marks = c.args.marks.now in
    let before = c.args.rows.now in
    let after = c.loop-axis.rows in
    let S = sets values before in
    let new = axes_left marks S S axes 0 in
    let i = length c.loop-axis.yielded in
    let inv = c.loop-axis.invariant in
    let ax = c.in-Some.axis.now in
    let at = taken_at axes _ i ax no_axis (sym c.in-Some.ensures.steps.0 ∙ inv.2) in
    let row-at = taken_at marks _ i c.in-Some.indices.now [] (sym c.in-Some.ensures.steps.1 ∙ inv.3) in
    let next : length (c.loop-axis.yielded ++ (c.in-Some.axis, c.in-Some.indices) ∷ []) ≡ i + 1 = length-append c.loop-axis.yielded ((c.in-Some.axis, c.in-Some.indices) ∷ []) in
    let field = ap (λ q. q.field) at.1 in
    let row = c.index-rows-field.result in
    let left = c.marked-left.result in
    let below = subst (λ f. f < length before) field (c.requires.below _ (field_in axes i at.0)) in
    let low : ax.field < length after = omega arith in
    let here = λ (v : ℕ). sym (sets_at values after ax.field row low c.index-rows-field.is v) ∙ ap (λ f. sets values after f v) (sym field)
    ∙ axis_not_yet axes i at.0 values new before after c.loop-axis.changed c.requires inv.4 v ∙ ap (λ f. S f v) (sym (field_is axes i at.0)) in
    let start : 0 + i ≡ i = omega arith in
    let reads = λ (v : ℕ). c.marked-left.ensures v ∙ kept_marks marks i c.in-Some.indices.now row-at.1 (values row v) (S (get_or (map (λ q. q.field) axes) i 0) v) (here v) v
    ∙ ap (λ k. S (get_or (map (λ q. q.field) axes) i 0) v && not (unmarked marks k v)) (sym start)
    ∙ sym (axes_at marks S S axes 0 i v at.0 c.requires.distinct) ∙ ap (λ f. new f v) (field_is axes i at.0) in
    let done = axis_written axes i at.0 values new before after c.loop-axis.changed c.requires inv.4 c.replace-changed.new.rows c.replace-changed.result left reads
    (c.replace-changed.ensures.after ∙ ap (λ f. set after f left) (sym field))
    (subst (λ f. Decides c.replace-changed.result (Loses values after f (values left))) (sym field) c.replace-changed.ensures.lost) in (
      search rules,
      search rules,
      at.2 ∙ ap (λ n. drop n axes) (sym next),
      row-at.2 ∙ ap (λ n. drop n marks) (sym next),
      subst (λ n. Written values new (map (λ q. q.field) (take n axes)) (length (map (λ q. q.field) (take n axes))) before c.replace-changed.new.rows (c.loop-axis.changed || c.replace-changed.result)) (sym next) done,
    )
