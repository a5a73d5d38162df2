use Rattle.std.proofs.Common.{◌+◌, sym, ap, ◌∙◌}
use Rattle.rows.specs.Values.{without}
use Rattle.rows.proofs.Counts.{how_many_le, how_many_same, how_many_without}
use Rattle.rows.proofs.laws.laws_hold.Goals as goal

pub returns : goal.returns
returns g c =
    let span = g.R.Row.SPAN in
    let values = g.R.Row.values in
    let met = g.met.R.Row in
    record {
      some_value = met.positive;
      few_values = met.small;
      below_span = met.inside;
      size_at_most_span = λ r. how_many_le span (values r);
      equal_sets_equal_sizes = λ r s same. how_many_same span (values r) (values s) (λ v _. same v);
      without_lowers_by_one = λ r s v here gone.
          how_many_without span (values r) v (met.inside r v here) here
          ∙ ap (λ n. n + 1) (how_many_same span (without (values r) v) (values s) (λ w _. sym (gone w)));
    }
