use Rattle.std.proofs.Common.{rules}
use Rattle.settle.proofs.Passing.{lawful_fits}
use Rattle.settle.proofs.lawful_book.LawfulBook.narrow.Goals as goal

pub unwrap-requires : goal.unwrap-requires
unwrap-requires g c =
    let book = c.args.self.now in
    let done = c.narrow.ensures.accepted (lawful_fits (g.B.Book.rules book.book.now) book.n _ c.args.k book.lawful c.requires.enough c.requires.there) in
    search rules

pub returns : goal.returns
returns g c =
    let book = c.args.self.now in
    let done = c.narrow.ensures.accepted (lawful_fits (g.B.Book.rules book.book.now) book.n _ c.args.k book.lawful c.requires.enough c.requires.there) in
    rw c.unwrap.ensures at done
