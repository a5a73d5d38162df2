use Rattle.std.proofs.Common.{arith}
use Rattle.rules.proofs.MadeRules.{rule_made}
use Rattle.settle_tests.specs.Differ.{pair_rule}
use Rattle.settle_tests.proofs.record.Differing.pair.Goals as goal

pub returns : goal.returns
returns c = (omega arith, omega arith, rule_made pair_rule c.args.self.now.pairs.now c.args.k _ c.if-k-self.false)
