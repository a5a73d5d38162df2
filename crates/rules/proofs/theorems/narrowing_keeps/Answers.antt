use Rattle.rules.proofs.Extend.{narrowing_keeps}
use Rattle.rules.proofs.theorems.narrowing_keeps.Goals as goal

pub returns : goal.returns
returns c = narrowing_keeps
