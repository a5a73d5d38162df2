use Rattle.std.proofs.Common.{unwrap_or, ap, ◌∙◌, arith}
use Rattle.std.proofs.lemmas.Bool.Decides.{nat_tests}
use Rattle.std.proofs.lemmas.Option.{unwrap_or-slice_get}
use Rattle.frames.proofs.FramesBook.scope_field.Goals as goal

pub returns : goal.returns
returns g c =
    let is = c.unwrap_or.ensures ∙ ap (λ o. unwrap_or o 255) c.field_at.ensures ∙ unwrap_or-slice_get _ c.args.place 255 in
    grind (arith, nat_tests)
