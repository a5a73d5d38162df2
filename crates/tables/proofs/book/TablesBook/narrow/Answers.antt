use Rattle.std.proofs.Common.{refl, subst, arith}
use Rattle.rules.specs.Books.{Narrowing, sets}
use Rattle.rules.specs.Rules.{LawfulRule}
use Rattle.tables.proofs.Fitting.{own_rows, narrows_ok, closes_ok}
use Rattle.tables.proofs.TableAt.{told_table}
use Rattle.tables.proofs.book.TablesBook.narrow.Goals as goal

pub narrow-requires : goal.narrow-requires
narrow-requires g c = own_rows c.in_ok-table.table c.args.n _ (omega arith) (c.if-not-is_lawful.ensures.0 refl)

-- the table's own rule is rule k, so what narrowing the table gives is what the book promises
pub returns : goal.returns
returns g c =
    let values = g.R.Row.values in
    let before = c.args.rows.now in
    let after = c.narrow.new.rows in
    let same = told_table c.args.self.now c.args.k c.table.result c.in_ok-table.table _ c.in_ok-table.ensures.value c.table.ensures in
    let lawful = subst (LawfulRule c.args.n) same (c.if-not-is_lawful.ensures.0 refl) in
    let done = subst (λ r. Narrowing values r before after c.narrow.result) same c.narrow.ensures in
    record {
      narrows = narrows_ok values _ c.args.k c.args.n before after c.narrow.result (omega arith) (omega arith) lawful done;
      closed = closes_ok (sets values before) (sets values after) c.args.n _ c.narrow.result lawful done.narrowed;
    }
