use Rattle.std.proofs.Common.{arith}
use lib.Count.{ones-le}
use Rattle.rows.proofs.Words.{ones_are}
use Rattle.bits.proofs.words.size.Goals as goal

pub returns : goal.returns
returns c = record { value = ones_are 64 c.args.word (omega arith); bound = ones-le 64 c.args.word (omega arith) }
