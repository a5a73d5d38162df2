use Rattle.row_tests.proofs.Switches.{switches_meet}
use Rattle.row_tests.proofs.SwitchRow.meets.Goals as goal

pub returns : goal.returns
returns c = switches_meet c.args.self c.args.other
