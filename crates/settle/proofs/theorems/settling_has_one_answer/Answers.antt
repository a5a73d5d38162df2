use Rattle.settle.proofs.OneAnswer.{one_settling}
use Rattle.settle.proofs.theorems.settling_has_one_answer.Goals as goal

pub returns : goal.returns
returns c = one_settling
