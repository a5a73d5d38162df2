use Rattle.rows.proofs.Words.{bit_of_and}
use Rattle.bits.proofs.words.common.Goals as goal

pub returns : goal.returns
returns c = bit_of_and c.args.a c.args.b
