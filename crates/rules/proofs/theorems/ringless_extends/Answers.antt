use Rattle.rules.proofs.Extend.{ringless_extends}
use Rattle.rules.proofs.theorems.ringless_extends.Goals as goal

pub returns : goal.returns
returns c = ringless_extends
