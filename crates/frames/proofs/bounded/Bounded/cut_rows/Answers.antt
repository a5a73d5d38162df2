use Rattle.std.proofs.Common.{◌<◌, length, sym, ◌∙◌, arith, rules}
use Rattle.rules.specs.Books.{sets}
use Rattle.rules.proofs.RowSets.{sets_at}
use Rattle.frames.specs.Parts.{cut}
use Rattle.frames.proofs.Leasts.{cut_at}
use Rattle.frames.proofs.PartByPart.{part_at, field_in, not_yet, part_written}
use Rattle.frames.proofs.bounded.Bounded.cut_rows.Goals as goal

pub offset_bounds-rows-part : goal.offset_bounds-rows-part
offset_bounds-rows-part g c =
    let below = c.requires.below _ (field_in c.args.self.now.parts.now c.loop-part.part-index c.loop-part-test.true) in
    search rules

pub bounds-rows-part : goal.bounds-rows-part
bounds-rows-part g c =
    omega (arith, c.requires.below _ (field_in c.args.self.now.parts.now c.loop-part.part-index c.loop-part-test.true))

pub loop-part-preserved : goal.loop-part-preserved
loop-part-preserved g c =
    let parts = c.args.self.now.parts.now in
    let before = c.args.rows.now in
    let after = c.loop-part.rows in
    let values = g.R.Row.values in
    let i = c.loop-part.part-index in
    let within = c.loop-part-test.true in
    let row = c.index-rows-part.result in
    let inside : (part_at parts i).field < length after = omega (arith, c.requires.below _ (field_in parts i within)) in
    part_written parts i within values (cut (sets values before) c.args.room) before after c.loop-part.changed c.requires c.loop-part.invariant
    c.replace-changed.new.rows c.replace-changed.result c.at_most.result
    (λ v. c.at_most.ensures v ∙ cut_at (values row) (sets values before (part_at parts i).field) c.least.result c.args.room c.saturating_add-top.result
    (λ u. sym (not_yet parts i within values (cut (sets values before) c.args.room) before after c.loop-part.changed c.requires c.loop-part.invariant u) ∙ sets_at values after _ row inside c.index-rows-part.is u)
    c.least.ensures
    (λ u h. omega (arith, g.met.R.Row.inside row u h, g.met.R.Row.small))
    (cc) v)
    c.replace-changed.ensures.after c.replace-changed.ensures.lost
