-- What is read of a table in lent memory.
-- Assumes nothing.
use Rattle.std.specs.Prelude.{◌≡◌, ℕ, ◌≤◌, true, false, ◌&&◌, List, Option, MatchOption, nat_le}
use Rattle.rules.specs.Books.{no_rule, rule_at}
use Rattle.rules.specs.Rules.{Rule}
use Rattle.tables.specs.Reads.{room, positive, table_scope, lookup_rule, table_rules}
use Rattle.tables.specs.declared.record.Axis.{Axis}
use Rattle.tables.specs.declared.record.Tables.{Tables}
use Rattle.tables.specs.declared.view.Table.{Table}

-- the product of the extents is told if each is at least 1, and it is at most 1,024
abbrev pub IsRoom : List Axis → Option ℕ → Type 0
IsRoom axes r = MatchOption r ((positive axes && nat_le (room axes) 1024) ≡ false) (λ n. (positive axes ≡ true) × (n ≡ room axes) × (n ≤ 1024))

-- the fields that a table names
abbrev pub scope_of : Table → List ℕ
scope_of t = table_scope t.x t.axes.now t.cells.now

-- the rule of a table
abbrev pub rule_of : Table → Rule
rule_of t = lookup_rule t.x t.axes.now t.cells.now

-- table k, or none where its rule is not lawful
abbrev pub IsTable : Tables → ℕ → Option Table → Type 0
IsTable book k r = MatchOption r (rule_at (table_rules book) k ≡ no_rule) (λ t. rule_at (table_rules book) k ≡ rule_of t)
