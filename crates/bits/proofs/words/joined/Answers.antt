use Rattle.rows.proofs.Words.{bit_of_or}
use Rattle.bits.proofs.words.joined.Goals as goal

pub returns : goal.returns
returns c = bit_of_or c.args.a c.args.b
