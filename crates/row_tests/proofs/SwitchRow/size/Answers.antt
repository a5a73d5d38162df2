use Rattle.std.proofs.Common.{◌+◌, ◌∙◌, ap₂}
use Rattle.row_tests.proofs.Switches.{switch_size}
use Rattle.row_tests.proofs.SwitchRow.size.Goals as goal

pub returns : goal.returns
returns c = ap₂ ◌+◌ c.from.ensures c.from-2.ensures ∙ switch_size c.args.self
