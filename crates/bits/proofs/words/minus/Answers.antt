use Rattle.std.proofs.Common.{arith}
use Rattle.bits.proofs.WordSets.{minus_word}
use Rattle.bits.proofs.words.minus.Goals as goal

pub returns : goal.returns
returns c = minus_word c.args.a c.args.b (omega arith) (omega arith)
