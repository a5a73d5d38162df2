use Rattle.std.proofs.Common.{◌≡◌, ◌<◌, length, refl, ap, ◌∙◌, inl, arith, length-set, rules}
use Rattle.rules.proofs.RowSets.{sets_at}
use Rattle.tables.proofs.Cutting.{axes_own, hit_below, no_hit_cut, hit_cut}
use Rattle.tables.proofs.view.Table.keep_supported.Goals as goal

pub offset_bounds-rows-x : goal.offset_bounds-rows-x
offset_bounds-rows-x g c =
    let below : c.args.self.now.x < length c.args.rows.now = c.requires.below c.args.self.now.x (inl refl) in
    search rules

pub bounds-rows-x : goal.bounds-rows-x
bounds-rows-x g c = c.requires.below c.args.self.now.x (inl refl)

pub cut_axes-changed-requires : goal.cut_axes-changed-requires
cut_axes-changed-requires g c =
    axes_own g.R.Row.values c.args.rests.now c.args.hits c.args.self.now.x c.args.self.now.axes.now c.args.rows.now c.requires c.minus.result c.replace-changed.new.rows c.replace-changed.ensures.after

pub offset_bounds-rows-f : goal.offset_bounds-rows-f
offset_bounds-rows-f g c =
    let long : length c.replace-changed.new.rows ≡ length c.args.rows.now = ap length c.replace-changed.ensures.after ∙ length-set c.args.rows.now c.args.self.now.x c.minus.result in
    let low : c.in-Some.f < length c.cut_axes-changed.new.rows =
    omega (arith, long, c.cut_axes-changed.ensures.long, hit_below g.R.Row.values c.args.rests.now c.args.hits c.args.self.now.x c.args.self.now.axes.now c.args.rows.now c.requires c.in-Some.f c.in-Some.ensures) in
    search rules

pub bounds-rows-f : goal.bounds-rows-f
bounds-rows-f g c =
    let long : length c.replace-changed.new.rows ≡ length c.args.rows.now = ap length c.replace-changed.ensures.after ∙ length-set c.args.rows.now c.args.self.now.x c.minus.result in
    omega (arith, long, c.cut_axes-changed.ensures.long, hit_below g.R.Row.values c.args.rests.now c.args.hits c.args.self.now.x c.args.self.now.axes.now c.args.rows.now c.requires c.in-Some.f c.in-Some.ensures)

pub returns-in-Some : goal.returns-in-Some
returns-in-Some g c =
    let values = g.R.Row.values in
    let rows = c.args.rows.now in
    let x = c.args.self.now.x in
    let f = c.in-Some.f in
    let second = c.cut_axes-changed.new.rows in
    let long : length c.replace-changed.new.rows ≡ length rows = ap length c.replace-changed.ensures.after ∙ length-set rows x c.minus.result in
    let low : f < length second =
    omega (arith, long, c.cut_axes-changed.ensures.long, hit_below values c.args.rests.now c.args.hits x c.args.self.now.axes.now rows c.requires f c.in-Some.ensures) in
    hit_cut values c.args.rests.now c.args.hits x c.args.self.now.axes.now rows c.requires c.index-rows-x.result c.minus.result c.replace-changed.new.rows second
    c.replace-changed.result c.cut_axes-changed.result (sets_at values rows x c.index-rows-x.result (c.requires.below x (inl refl)) c.index-rows-x.is)
    c.minus.ensures c.replace-changed.ensures.after c.replace-changed.ensures.lost c.cut_axes-changed.ensures
    f c.in-Some.ensures c.index-rows-f.result c.common-left.result c.replace-changed-in-Some.new.rows c.replace-changed-in-Some.result
    (sets_at values second f c.index-rows-f.result low c.index-rows-f.is) c.common-left.ensures c.replace-changed-in-Some.ensures.after c.replace-changed-in-Some.ensures.lost

pub returns-in_default : goal.returns-in_default
returns-in_default g c =
    let values = g.R.Row.values in
    let rows = c.args.rows.now in
    let x = c.args.self.now.x in
    no_hit_cut values c.args.rests.now c.args.hits x c.args.self.now.axes.now rows c.requires c.index-rows-x.result c.minus.result c.replace-changed.new.rows c.cut_axes-changed.new.rows
    c.replace-changed.result c.cut_axes-changed.result (sets_at values rows x c.index-rows-x.result (c.requires.below x (inl refl)) c.index-rows-x.is)
    c.minus.ensures c.replace-changed.ensures.after c.replace-changed.ensures.lost c.cut_axes-changed.ensures c.in_default.ensures
