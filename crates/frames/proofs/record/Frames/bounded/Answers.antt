use Rattle.std.proofs.Common.{◌≡◌, true, false, length, take, sym, ap, ◌∙◌, subst, arith}
use Rattle.std.proofs.lemmas.Bool.Decides.{nat_tests}
use Rattle.std.proofs.lemmas.Slice.{between_to_end, between_from_start}
use Rattle.frames.specs.Parts.{IsBounded}
use Rattle.frames.specs.Reads.{makes_sense, frame_rule, sum_rule}
use Rattle.frames.proofs.RuleAt.{rule_past, sum_here, none_here}
use Rattle.frames.proofs.record.Frames.bounded.Goals as goal
use Rattle.frames.proofs.record.Frames.bounded.Goals.{then-frame-eq0-via-then-frame-eq0, then-frame-eq0-via-else-frame-eq0+then-frame-gt64}

pub returns-in_err-frame : goal.returns-in_err-frame
returns-in_err-frame c =
    let book = c.args.self.now in
    subst (IsBounded book c.args.k) (sym c.from_residual.ensures)
    (rule_past (frame_rule book.parts.now) book.frames.now c.args.k c.in_err-frame.ensures.lookup.3)

pub returns-then-frame-eq0 : goal.returns-then-frame-eq0
returns-then-frame-eq0 c =
    let book = c.args.self.now in
    let frame = c.in_ok-frame.frame.now in
    let found = c.in_ok-frame.ensures.lookup in
    none_here book c.args.k frame found.3.0 found.1
    (elim c.then-frame-eq0.branch [
      | then-frame-eq0-via-then-frame-eq0 w ↦ let h = w.if-frame-eq0.true in grind (arith, nat_tests)
      | then-frame-eq0-via-else-frame-eq0+then-frame-gt64 w ↦ let h = w.if-frame-gt64.true in grind (arith, nat_tests)
    ])

pub returns-in_err-get : goal.returns-in_err-get
returns-in_err-get c =
    let book = c.args.self.now in
    let frame = c.in_ok-frame.frame.now in
    let found = c.in_ok-frame.ensures.lookup in
    let past = c.in_err-get.ensures.lookup.0 in
    let senseless : makes_sense book.parts.now frame ≡ false = grind (arith, nat_tests) in
    subst (IsBounded book c.args.k) (sym c.from_residual-in_err-get.ensures) (none_here book c.args.k frame found.3.0 found.1 senseless)

pub returns-in_err-parts : goal.returns-in_err-parts
returns-in_err-parts c =
    let book = c.args.self.now in
    let frame = c.in_ok-frame.frame.now in
    let found = c.in_ok-frame.ensures.lookup in
    let rest = c.in_ok-get.ensures.lookup.0 in
    let past = c.in_err-parts.ensures.lookup.0 in
    let senseless : makes_sense book.parts.now frame ≡ false = grind (arith, nat_tests) in
    subst (IsBounded book c.args.k) (sym c.from_residual-in_err-parts.ensures) (none_here book c.args.k frame found.3.0 found.1 senseless)

pub returns : goal.returns
returns c =
    let book = c.args.self.now in
    let frame = c.in_ok-frame.frame.now in
    let found = c.in_ok-frame.ensures.lookup in
    let rest = c.in_ok-get.ensures.lookup.0 in
    let here = c.in_ok-parts.ensures.lookup.0 in
    let sense : makes_sense book.parts.now frame ≡ true = grind (arith, nat_tests) in
    let cut = here.2 ∙ between_from_start c.in_ok-get.field-0.now frame.count ∙ ap (take frame.count) (rest.2 ∙ between_to_end book.parts.now frame.first (length book.parts.now) (omega arith)) in
    sum_here book c.args.k frame found.3.0 found.1 sense ∙ ap (λ parts. sum_rule parts frame.limit) (sym cut)
