use Rattle.settle.specs.Labels.{label_of}
use Rattle.settle.proofs.Relabelling.{Relabelled}
use Rattle.settle.proofs.labels.Labels.replace.Given as goal

abbrev pub invariant-loop-label : goal.invariant-loop-label
invariant-loop-label l = Relabelled l.met l.one (label_of l.fn.self) (record { of = l.label-items }) l.label-index
