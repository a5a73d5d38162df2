-- The rule at a place, by the table that stands there. Assumes nothing.
use Rattle.std.proofs.Common.{◌≡◌, ℕ, ◌-◌, ◌<◌, Bool, true, false, ◌&&◌, List, length, get_or, take, drop, Option, Some, None, Ok, sym, refl, ap, ◌∙◌, subst, arith, length-drop, take_all}
use Rattle.std.specs.List.{slice_range}
use Rattle.std.specs.Option.{ok_or}
use Rattle.std.proofs.lemmas.Bool.{true≢false, cond-true, cond-false}
use Rattle.rules.specs.Books.{no_rule, rule_at}
use Rattle.rules.specs.declared.fault.NarrowFault.{NarrowFault}
use Rattle.tables.specs.Reads.{makes_sense, axes_of, cells_of, lookup_rule, table_rule, table_rules}
use Rattle.tables.specs.Views.{IsTable, rule_of}
use Rattle.tables.specs.declared.record.Head.{Head}
use Rattle.tables.specs.declared.record.Tables.{Tables}
use Rattle.tables.specs.declared.view.Table.{Table}
use Rattle.tables.proofs.ViewSteps.{rule_made}

module _ (book : Tables) (k : ℕ) (h : Head) (within : k < length book.heads.now) (is : h ≡ get_or book.heads.now k h) where
  -- one that makes no sense has no rule
  pub no_table : makes_sense book.cells.now h ≡ false → rule_at (table_rules book) k ≡ no_rule
  no_table senseless =
      rule_made (table_rule book.cells.now) book.heads.now k h within ∙ ap (table_rule book.cells.now) (sym is) ∙ cond-false (makes_sense book.cells.now h) _ _ senseless

  -- one that makes sense has its rule
  pub the_table : makes_sense book.cells.now h ≡ true → rule_at (table_rules book) k ≡ lookup_rule h.x (axes_of h) (cells_of book.cells.now h)
  the_table sense =
      rule_made (table_rule book.cells.now) book.heads.now k h within ∙ ap (table_rule book.cells.now) (sym is) ∙ cond-true (makes_sense book.cells.now h) _ _ sense

-- where the product is not told, a table makes no sense
pub no_room : (a b p r f : Bool) → (p && r) ≡ false → (a && (b && (p && (r && f)))) ≡ false
no_room false b p r f h = refl
no_room true false p r f h = refl
no_room true true false r f h = refl
no_room true true true false f h = refl
no_room true true true true f h = absurd (true≢false h)

-- no table is told where the rule is not lawful
pub none_told : (book : Tables) (k : ℕ) (r : Option Table) → r ≡ None → rule_at (table_rules book) k ≡ no_rule → IsTable book k r
none_told book k r none unlawful = subst (IsTable book k) (sym none) unlawful

-- a table that is told is table k
pub told_table : (book : Tables) (k : ℕ) (r : Option Table) (t : Table) (fault : NarrowFault) → Ok t ≡ ok_or r fault → IsTable book k r → rule_of t ≡ rule_at (table_rules book) k
told_table book k None t fault told is = cc
told_table book k (Some u) t fault told is = ap rule_of {x = t} {y = u} (cc) ∙ sym is

module _ {X : Type 0} where
  -- the range from 0 to n is the first n
  pub from_start : (n : ℕ) (xs : List X) → slice_range xs 0 n ≡ take n xs
  from_start n xs = ap (λ m. take m xs) {x = n - 0} {y = n} (omega arith)

  -- the first n of what lies behind a place
  pub behind : (first n : ℕ) (xs rest part : List X) → rest ≡ slice_range xs first (length xs) → part ≡ slice_range rest 0 n → part ≡ take n (drop first xs)
  behind first n xs rest part is-rest is-part =
      is-part ∙ from_start n rest ∙ ap (take n) (is-rest ∙ take_all (length xs - first) (drop first xs) (omega (arith, length-drop first xs)))
