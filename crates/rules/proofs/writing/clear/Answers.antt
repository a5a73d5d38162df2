use Rattle.std.proofs.Common.{length, rules, subst, ◌∙◌, arith}
use Rattle.std.proofs.lemmas.Bool.Decides.{nat_tests}
use Rattle.rules.specs.Writes.{Written, none_left}
use Rattle.rules.proofs.Taking.{taken_all}
use Rattle.rules.proofs.WrittenBack.{more_emptied}
use Rattle.rules.proofs.writing.clear.Goals as goal

pub loop-field-preserved : goal.loop-field-preserved
loop-field-preserved g c = (
  search rules,
  search rules,
  more_emptied g.R.Row.values c.make.result (λ v. c.make.ensures v ∙ grind (arith, nat_tests)) c.loop-field.yielded c.in-Some.field
      c.args.rows.now c.loop-field.rows c.replace-changed.new.rows c.loop-field.changed c.replace-changed.result
      c.replace-changed.ensures.after c.replace-changed.ensures.lost c.loop-field.invariant.2,
)

pub returns : goal.returns
returns g c fs gives =
    subst (λ xs. Written g.R.Row.values none_left xs (length xs) c.args.rows.now c.loop-field.rows c.loop-field.changed)
    (taken_all g.I.Iterator.next_gives c.args.fields c.into_iter-field-iterator.result c.loop-field.field-iterator c.next.new.self
    c.into_iter-field-iterator.ensures.into_iter_gives fs c.loop-field.yielded gives c.loop-field.yielded_by c.in-None.ensures.steps)
    c.loop-field.invariant.2
