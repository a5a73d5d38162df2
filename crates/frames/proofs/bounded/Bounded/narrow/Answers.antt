use Rattle.std.proofs.Common.{◌≡◌, None, rules, subst, MatchOption}
use Rattle.std.proofs.lemmas.Iterator.{YieldsList-from_slice, YieldsList-from_map}
use Rattle.std.proofs.lemmas.Iterator.Consumers.{YieldsList-at}
use Rattle.rules.specs.Books.{sets}
use Rattle.frames.specs.Parts.{fields, Summed, OneEmpty}
use Rattle.frames.proofs.Narrowings.{enough_rows, cut_narrows, none_narrows}
use Rattle.frames.proofs.Supports.{none_without, none_over}
use Rattle.frames.proofs.bounded.Bounded.narrow.Goals as goal
use Rattle.frames.proofs.bounded.Bounded.narrow.Goals.{in_default-via-in-Some+else-sum-limit, in_default-via-in_default}

pub least_sum-requires : goal.least_sum-requires
least_sum-requires g c =
    let frame = c.args.self.now in
    enough_rows frame.parts.now frame.limit c.args.n _ (c.is_lawful.ensures.0 c.if-not-is_lawful.false) c.if-n-rows.false

pub cut_rows-requires : goal.cut_rows-requires
cut_rows-requires g c =
    let frame = c.args.self.now in
    enough_rows frame.parts.now frame.limit c.args.n _ (c.is_lawful.ensures.0 c.if-not-is_lawful.false) c.if-n-rows.false

pub returns-in-Some : goal.returns-in-Some
returns-in-Some g c =
    let frame = c.args.self.now in
    cut_narrows g.R.Row.values frame.parts.now frame.limit c.args.n c.args.rows.now c.cut_rows.new.rows c.cut_rows.result
    (c.is_lawful.ensures.0 c.if-not-is_lawful.false) c.if-n-rows.false c.in-Some.sum c.in-Some.ensures c.if-sum-limit.true c.cut_rows.ensures

pub returns-in_default : goal.returns-in_default
returns-in_default g c =
    let frame = c.args.self.now in
    let parts = frame.parts.now in
    let S = sets g.R.Row.values c.args.rows.now in
    none_narrows g.R.Row.values parts frame.limit c.args.n c.args.rows.now c.clear.new.rows c.clear.result
    (c.is_lawful.ensures.0 c.if-not-is_lawful.false) c.if-n-rows.false
    (elim c.in_default.branch [
      | in_default-via-in-Some+else-sum-limit w ↦ none_over S parts frame.limit w.in-Some.sum w.in-Some.ensures w.if-sum-limit.false
      | in_default-via-in_default w ↦
          let none : c.least_sum.result ≡ None = cc in
          none_without S parts frame.limit (subst (λ o. MatchOption o (OneEmpty S parts) (Summed S parts)) none c.least_sum.ensures)
    ])
    (c.clear.ensures (fields parts) (YieldsList-from_map _ (λ p. p.field) (YieldsList-at c.map.ensures.source (YieldsList-from_slice parts c.iter.ensures.rest)) c.map.ensures.closure (λ x r q k. search rules)).runs)
