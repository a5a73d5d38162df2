-- What narrowing a table asks and promises. Assumes nothing.
use Rattle.std.proofs.Common.{ℕ, ◌≤◌, Bool, List, length, Ok, subst, arith}
use Rattle.rows.specs.Values.{Values}
use Rattle.rules.specs.Books.{Narrowing, Narrows}
use Rattle.rules.specs.Rules.{Sets, Rule, Distinct, LawfulRule, Narrowed}
use Rattle.rules.specs.Writes.{OwnRows}
use Rattle.tables.specs.Closure.{Closes}
use Rattle.tables.specs.Scans.{Scannable}
use Rattle.tables.specs.Views.{scope_of, rule_of}
use Rattle.tables.specs.declared.view.Table.{Table}
use Rattle.tables.proofs.Closing.{closes}
use Rattle.tables.proofs.Picking.{axis_in_scope, cell_in_scope}

module _ (t : Table) where
  -- where the rule of a table is lawful for n fields, each has its own of as many rows or more
  pub own_rows : (n rows : ℕ) → n ≤ rows → LawfulRule n (rule_of t) → OwnRows (scope_of t) rows
  own_rows n rows enough lawful = record { below = λ f h. omega (arith, lawful.below f h); distinct = lawful.apart }

  -- a table whose fields have rows can be scanned
  pub scannable : (rows : ℕ) → OwnRows (scope_of t) rows → Scannable 0 t.axes.now t.cells.now rows
  scannable rows own = record {
    levels = omega (arith, t.few);
    extents = t.extents;
    long = t.long;
    axis_rows = λ f h. own.below f (axis_in_scope t.x t.axes.now t.cells.now f h);
    cell_rows = λ f h. own.below f (cell_in_scope t.x t.axes.now t.cells.now f h);
  }

-- a rule that fits, narrowed
pub narrows_ok : {R : Type 0} (values : R → Values) (r : Rule) (k n : ℕ) (before after : List R) (changed : Bool)
    → k ≤ 1023 → n ≤ length before → LawfulRule n r → Narrowing values r before after changed → Narrows values r k n before after (Ok changed)
narrows_ok values r k n before after changed reach enough lawful done = record {
  accepted = λ _. done;
  refused = λ unfit. absurd (unfit (record { reach = reach; enough = enough; lawful = lawful }));
}

-- a lawful rule, narrowed, leaves closed sets where it has a line
pub closes_ok : (S S' : Sets) (n : ℕ) (r : Rule) (changed : Bool) → LawfulRule n r → Narrowed r S S' → Closes r S S' (Ok changed)
closes_ok S S' n r changed lawful narrowed _ x axes cells same long =
    closes S S' x axes cells long (subst (λ q. Distinct q.scope) same lawful.apart) (subst (λ q. Narrowed q S S') same narrowed)
