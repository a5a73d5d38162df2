use Rattle.std.proofs.Common.{sym, ◌∙◌, arith}
use Rattle.std.proofs.lemmas.Bool.{lt-ltb}
use Rattle.rows.proofs.Words.{bit_ones, bit_low_ones}
use Rattle.bits.proofs.words.first.Goals as goal

pub returns-then-n-ge64 : goal.returns-then-n-ge64
returns-then-n-ge64 c k h = bit_ones 64 k ∙ lt-ltb k 64 h ∙ sym (lt-ltb k c.args.n (omega arith))

pub returns-else-n-ge64 : goal.returns-else-n-ge64
returns-else-n-ge64 c k h = bit_low_ones 64 c.args.n k c.if-n-ge64.false
