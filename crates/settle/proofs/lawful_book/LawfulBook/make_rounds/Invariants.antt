use Rattle.rules.specs.Books.{sets}
use Rattle.settle.specs.Rounds.{total}
use Rattle.settle.proofs.Going.{Going}
use Rattle.settle.proofs.lawful_book.LawfulBook.make_rounds.Given as goal

abbrev pub invariant-loop-rows : goal.invariant-loop-rows
invariant-loop-rows g l = Going g.R.Row.values g.R.Row.SPAN (g.B.Book.rules l.self.book.now) l.self.n l.rounds l.initial.rows l.rows

abbrev pub decreases-loop-rows : goal.decreases-loop-rows
decreases-loop-rows g l = total g.R.Row.SPAN l.self.n (sets g.R.Row.values l.rows)
