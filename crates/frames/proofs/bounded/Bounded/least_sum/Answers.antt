use Rattle.std.proofs.Common.{sym, ◌∙◌, subst, arith, MatchOption}
use Rattle.rules.specs.Books.{sets}
use Rattle.rules.proofs.RowSets.{sets_at}
use Rattle.frames.specs.Parts.{Summed, OneEmpty}
use Rattle.frames.proofs.Leasts.{least_moved}
use Rattle.frames.proofs.PartByPart.{field_in, more_summed}
use Rattle.frames.proofs.bounded.Bounded.least_sum.Goals as goal

pub offset_bounds-rows-part : goal.offset_bounds-rows-part
offset_bounds-rows-part g c =
    omega (arith, c.requires.below _ (field_in c.args.self.now.parts.now c.loop-part.part-index c.loop-part-test.true))

pub bounds-rows-part : goal.bounds-rows-part
bounds-rows-part g c =
    c.requires.below _ (field_in c.args.self.now.parts.now c.loop-part.part-index c.loop-part-test.true)

pub returns-in_err-least : goal.returns-in_err-least
returns-in_err-least g c =
    let parts = c.args.self.now.parts.now in
    let rows = c.args.rows.now in
    let S = sets g.R.Row.values rows in
    let here = field_in parts c.loop-part.part-index c.loop-part-test.true in
    subst (λ o. MatchOption o (OneEmpty S parts) (Summed S parts)) (sym c.from_residual.ensures)
    (_, here, λ v. sets_at g.R.Row.values rows _ c.index-rows-part.result (c.requires.below _ here) c.index-rows-part.is v ∙ c.in_err-least.ensures v)

pub loop-part-preserved : goal.loop-part-preserved
loop-part-preserved g c =
    let parts = c.args.self.now.parts.now in
    let rows = c.args.rows.now in
    let values = g.R.Row.values in
    let i = c.loop-part.part-index in
    let within = c.loop-part-test.true in
    let here = field_in parts i within in
    let found = c.in_ok-least.ensures in (
      more_summed parts i within (sets values rows) c.loop-part.sum c.in_ok-least.least c.loop-part.invariant.0
          (least_moved (values c.index-rows-part.result) _ c.in_ok-least.least (sets_at values rows _ c.index-rows-part.result (c.requires.below _ here) c.index-rows-part.is) found)
          (omega arith),
      omega (arith, c.loop-part.invariant.1),
    )
