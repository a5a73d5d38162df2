use Rattle.std.proofs.Common.{not, ◌&&◌, sym, refl, ap, ◌∙◌, arith}
use Rattle.std.proofs.lemmas.List.{set_past}
use Rattle.rules.proofs.Losing.{loses, loses_nothing}
use Rattle.rules.proofs.RowSets.{sets_at}
use Rattle.rules.proofs.writing.replace.Goals as goal

pub returns-then-field-rows : goal.returns-then-field-rows
returns-then-field-rows g c = record {
  after = sym (set_past c.args.rows.now c.args.field c.args.row (omega arith));
  lost = loses_nothing g.R.Row.values c.args.rows.now c.args.field (g.R.Row.values c.args.row) (omega arith);
}

pub returns : goal.returns
returns g c =
    let values = g.R.Row.values in
    let new = values c.args.row in
    let lost = c.minus-lost.result in
    record {
      after = refl;
      lost = loses values c.args.rows.now c.args.field g.R.Row.SPAN new (values lost) c.is_empty.result (g.met.R.Row.inside lost)
          (λ v. c.minus-lost.ensures v ∙ ap (λ b. b && not (new v)) (sym (sets_at values c.args.rows.now c.args.field _ (omega arith) c.index-rows-field.is v)))
          c.is_empty.ensures;
    }
