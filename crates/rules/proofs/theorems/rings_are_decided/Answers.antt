use Rattle.rules.proofs.Decided.{rings_decided}
use Rattle.rules.proofs.theorems.rings_are_decided.Goals as goal

pub returns : goal.returns
returns c = rings_decided
