use Rattle.std.proofs.Common.{arith}
use Rattle.bits.proofs.WordSets.{zero_empty, word_greatest}
use Rattle.bits.proofs.words.greatest.Goals as goal

pub returns-then-word-eq0 : goal.returns-then-word-eq0
returns-then-word-eq0 c = record { value = zero_empty c.args.word c.if-word-eq0.true; bound = tt }

pub returns : goal.returns
returns c = record { value = word_greatest c.args.word (omega arith) c.if-word-eq0.false; bound = omega arith }
