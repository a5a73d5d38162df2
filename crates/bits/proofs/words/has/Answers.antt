use Rattle.std.proofs.Common.{◌%◌}
use Rattle.rows.proofs.Words.{bit_read}
use Rattle.bits.proofs.words.has.Goals as goal

pub returns : goal.returns
returns c = bit_read c.args.word (c.args.v % 64)
