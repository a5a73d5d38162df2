use Rattle.settle.proofs.Passing.{SoFar}
use Rattle.settle.proofs.lawful_book.LawfulBook.narrow_all.Given as goal

abbrev pub invariant-loop-k : goal.invariant-loop-k
invariant-loop-k g l = SoFar g.R.Row.values (g.B.Book.rules l.self.book.now) l.self.n l.k l.initial.rows l.rows l.changed
