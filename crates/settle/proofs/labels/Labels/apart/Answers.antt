use Rattle.std.proofs.Common.{rules}
use Rattle.settle.proofs.labels.Labels.apart.Goals as goal

pub returns : goal.returns
returns c f l = let called = c.from_fn.ensures.items.at f 0 l in search rules
