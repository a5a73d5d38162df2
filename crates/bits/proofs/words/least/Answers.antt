use Rattle.std.proofs.Common.{arith}
use Rattle.rows.proofs.Words.{lowest}
use Rattle.bits.proofs.WordSets.{zero_empty, word_least}
use Rattle.bits.proofs.words.least.Goals as goal

pub returns-then-word-eq0 : goal.returns-then-word-eq0
returns-then-word-eq0 c = record { value = zero_empty c.args.word c.if-word-eq0.true; bound = tt }

pub returns : goal.returns
returns c = record { value = word_least c.args.word (omega arith) c.if-word-eq0.false; bound = (lowest 64 c.args.word (omega arith) (omega arith)).within }
