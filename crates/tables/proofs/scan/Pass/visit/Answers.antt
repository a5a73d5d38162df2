use Rattle.std.proofs.Common.{ℕ, get_or, rules, ◌<◌, not, ◌&&◌, [], ◌∷◌, length, sym, refl, ap, ◌∙◌, subst, inl}
use Rattle.rules.specs.Books.{sets}
use Rattle.rules.specs.Rules.{In}
use Rattle.rules.proofs.RowSets.{sets_at}
use Rattle.tables.specs.declared.record.Cell.TheVariants.{Constant, Field}
use Rattle.tables.specs.Reads.{cell_fields}
use Rattle.tables.proofs.Levels.{constant_meets, meets_as, visited_as}
use Rattle.tables.proofs.scan.Pass.visit.Goals as goal

pub offset_bounds-self-f : goal.offset_bounds-self-f
offset_bounds-self-f g c =
    let below : c.in-Field.f < length c.args.self.now.rows.now = c.requires c.in-Field.f (subst (λ cell. In c.in-Field.f (cell_fields (cell ∷ []))) (sym c.in-Field.is) (inl refl)) in
    search rules

pub bounds-self-f : goal.bounds-self-f
bounds-self-f g c = c.requires c.in-Field.f (subst (λ cell. In c.in-Field.f (cell_fields (cell ∷ []))) (sym c.in-Field.is) (inl refl))

pub returns-in-Constant : goal.returns-in-Constant
returns-in-Constant g c level =
    let values = g.R.Row.values in
    let S = sets values c.args.self.now.rows.now in
    let X = values c.args.self.now.x in
    visited_as values S X level c.args.cell (Constant c.in-Constant.k) c.in-Constant.is c.args.rests.now _ c.has.result c.hit_if.result c.hit_if.ensures refl
    c.without-rests.ensures (constant_meets S X c.in-Constant.k c.has.result c.has.ensures)

pub returns-in-Field : goal.returns-in-Field
returns-in-Field g c level =
    let values = g.R.Row.values in
    let rows = c.args.self.now.rows.now in
    let S = sets values rows in
    let X = values c.args.self.now.x in
    let f = c.in-Field.f in
    let row = c.index-self-f.result in
    let within : f < length rows = c.requires f (subst (λ cell. In f (cell_fields (cell ∷ []))) (sym c.in-Field.is) (inl refl)) in
    let reads = λ (v : ℕ). sym (sets_at values rows f row within c.index-self-f.is v ∙ ap (λ r. values r v) c.index-self-f.is) in
    visited_as values S X level c.args.cell (Field f) c.in-Field.is c.args.rests.now _ c.meets.result c.hit_if-in-Field.result c.hit_if-in-Field.ensures refl
    (λ v. c.minus-rests.ensures v ∙ ap (λ b. values c.args.rests.now.x v && not b) (reads v)) (meets_as X (S f) (values (get_or rows f row)) c.meets.result reads c.meets.ensures)
