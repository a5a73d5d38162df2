use Rattle.std.proofs.Common.{◌≡◌, ℕ, ◌<◌, length, sym, refl, inl, rules}
use Rattle.std.proofs.lemmas.Bool.Decides.{not_from_Decides}
use Rattle.rules.specs.Books.{sets}
use Rattle.rules.specs.Rules.{Supported}
use Rattle.rules.proofs.RowSets.{sets_at}
use Rattle.tables.specs.declared.found.Hits.TheVariants.{Nothing}
use Rattle.tables.specs.Views.{scope_of, rule_of}
use Rattle.tables.proofs.Fitting.{scannable}
use Rattle.tables.proofs.Levels.{all_rest, none_marked}
use Rattle.tables.proofs.LeftExact.{cut_own, dead_narrows, unfilled, hitless, live_narrows}
use Rattle.tables.proofs.Scoping.{gives}
use Rattle.tables.proofs.view.Table.narrow.Goals as goal
use Rattle.tables.proofs.view.Table.narrow.Goals.{then-eq-via-then-eq, then-eq-via-else-eq+then-not-is_filled}

pub offset_bounds-rows-self : goal.offset_bounds-rows-self
offset_bounds-rows-self g c =
    let below : c.args.self.now.x < length c.args.rows.now = c.requires.below c.args.self.now.x (inl refl) in
    search rules

pub bounds-rows-self : goal.bounds-rows-self
bounds-rows-self g c = c.requires.below c.args.self.now.x (inl refl)

pub scan-hits-requires : goal.scan-hits-requires
scan-hits-requires g c = scannable c.args.self.now _ c.requires

pub is_filled-requires : goal.is_filled-requires
is_filled-requires g c = (scannable c.args.self.now _ c.requires).cell_rows

pub keep_supported-requires : goal.keep_supported-requires
keep_supported-requires g c =
    let values = g.R.Row.values in
    let t = c.args.self.now in
    let rows = c.args.rows.now in
    let row = c.index-rows-self.result in
    cut_own values t.x t.axes.now t.cells.now rows t.long c.requires row (all_rest row) c.scan-hits.new.rests c.scan-hits.result
    (sets_at values rows t.x row (c.requires.below t.x (inl refl)) c.index-rows-self.is) c.scan-hits.ensures

pub returns-then-eq : goal.returns-then-eq
returns-then-eq g c =
    let values = g.R.Row.values in
    let t = c.args.self.now in
    let rows = c.args.rows.now in
    let row = c.index-rows-self.result in
    let dead : (f v : ℕ) → Supported (sets values rows) (rule_of t) f v → ⊥ = elim c.then-eq.branch [
      | then-eq-via-then-eq w ↦
          let none : c.scan-hits.result ≡ Nothing = search rules in
          hitless values t.x t.axes.now t.cells.now rows t.long c.requires row (all_rest row) c.scan-hits.new.rests c.scan-hits.result
          (sets_at values rows t.x row (c.requires.below t.x (inl refl)) c.index-rows-self.is) c.scan-hits.ensures none
      | then-eq-via-else-eq+then-not-is_filled w ↦
          unfilled values t.x t.axes.now t.cells.now rows t.long c.requires (not_from_Decides w.is_filled.result w.is_filled.ensures w.if-not-is_filled.true)
    ]
    in
    dead_narrows values t.x t.axes.now t.cells.now rows t.long c.requires c.clear.new.rows c.clear.result dead
    (c.clear.ensures (scope_of t) (gives c.scope.result (scope_of t) c.scope.ensures).runs)

pub returns : goal.returns
returns g c =
    let values = g.R.Row.values in
    let t = c.args.self.now in
    let rows = c.args.rows.now in
    let row = c.index-rows-self.result in
    let reads = sets_at values rows t.x row (c.requires.below t.x (inl refl)) c.index-rows-self.is in
    let some : c.scan-hits.result ≡ Nothing → ⊥ = λ e. search rules in
    live_narrows values t.x t.axes.now t.cells.now rows t.long c.requires row (all_rest row) c.scan-hits.new.rests c.scan-hits.result
    reads c.scan-hits.ensures c.keep_supported.new.rows c.keep_supported.result some (c.is_filled.ensures.0 c.if-not-is_filled.false)
    (λ v. sym (reads v)) none_marked c.keep_supported.ensures
