use Rattle.std.proofs.Common.{◌%◌, arith}
use Rattle.bits.proofs.WordSets.{without_word}
use Rattle.bits.proofs.words.without.Goals as goal

pub returns : goal.returns
returns c = without_word c.args.word (c.args.v % 64) (omega arith) (omega arith)
