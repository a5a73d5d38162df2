use Rattle.std.proofs.Common.{drop}
use Rattle.rules.specs.Tree.{labels, Tree}
use Rattle.settle.specs.Labels.{Labelled}
use Rattle.settle.proofs.lawful_book.LawfulBook.has_ring.Given as goal

-- the rules passed, from the last on, make a tree, and have given the fields their labels
abbrev pub invariant-loop-k : goal.invariant-loop-k
invariant-loop-k g l = Tree (drop l.k (g.B.Book.rules l.self.book.now)) × Labelled l.labels (labels (drop l.k (g.B.Book.rules l.self.book.now)))
