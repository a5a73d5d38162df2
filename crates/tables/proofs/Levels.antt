-- Noting hits, level by level, and cell by cell. Assumes nothing.
use Rattle.std.proofs.Common.{◌≡◌, ℕ, zero, suc, ◌<◌, Bool, true, false, cond, not, ◌&&◌, eqb, ltb, [], ◌∷◌, length, get_or, set, replicate, Decides, sym, refl, ap, ◌∙◌, subst, ⊎_elim, arith, get_or-set_other, get_or-set_same}
use Rattle.std.proofs.lemmas.Bool.{cases_eq, and_right, eq-eqb, eqb-true, and_parts, and_from, both_ways}
use Rattle.std.proofs.lemmas.Bool.Decides.{nat_tests}
use Rattle.rows.specs.Values.{Values, Meet}
use Rattle.rules.specs.Rules.{Sets}
use Rattle.tables.specs.declared.found.Hits.{Hits}
use Rattle.tables.specs.declared.found.Hits.TheVariants.{Nothing, Only, Several}
use Rattle.tables.specs.Scans.{Marks}
use Rattle.tables.specs.declared.record.Cell.{Cell}
use Rattle.tables.specs.declared.record.Cell.TheVariants.{Constant}
use Rattle.tables.specs.declared.found.Rests.{Rests}
use Rattle.tables.specs.Scans.{unmarked, cell_has, Reaches, Swept, some_hit, NotedHits}
use Rattle.tables.proofs.Sweeping.{cell_hit, cell_miss}

pub some_hit_true : (h : Hits) → (h ≡ Nothing → ⊥) → some_hit h ≡ true
some_hit_true Nothing none = absurd (none refl)
some_hit_true (Only c) none = refl
some_hit_true Several none = refl

-- index d at a level is marked, and nothing else
pub noted : (marks : Marks) (level d : ℕ) (h : Hits) → some_hit h ≡ true → level < length marks → d < length (get_or marks level []) → d < 256
    → NotedHits level d h marks (set marks level (set (get_or marks level []) d true))
noted marks level d h hit low short small l w =
    ⊎_elim
    (λ same. ⊎_elim
    (λ e.
    let row : get_or (set marks level (set (get_or marks level []) d true)) l [] ≡ set (get_or marks level []) d true =
    ap (λ p. get_or (set marks level (set (get_or marks level []) d true)) p []) same ∙ get_or-set_same marks level (set (get_or marks level []) d true) [] low in
    let here : get_or (set (get_or marks level []) d true) w false ≡ true = ap (λ p. get_or (set (get_or marks level []) d true) p false) e ∙ get_or-set_same (get_or marks level []) d true false short in
    grind (arith, nat_tests))
    (λ ne.
    let row : get_or (set marks level (set (get_or marks level []) d true)) l [] ≡ set (get_or marks level []) d true =
    ap (λ p. get_or (set marks level (set (get_or marks level []) d true)) p []) same ∙ get_or-set_same marks level (set (get_or marks level []) d true) [] low in
    let other = get_or-set_other (get_or marks level []) d w true false ne in
    let old : get_or marks l [] ≡ get_or marks level [] = ap (λ p. get_or marks p []) same in
    grind (arith, nat_tests))
    (cases_eq w d))
    (λ far.
    let row = get_or-set_other marks level l (set (get_or marks level []) d true) [] far in
    grind (arith, nat_tests))
    (cases_eq l level)

-- a constant meets x exactly when x has it
pub constant_meets : (S : Sets) (X : Values) (k : ℕ) (has : Bool) → has ≡ X k → Decides has (Meet X (cell_has S (Constant k)))
constant_meets S X k has e = (
  λ h. (k, and_from (X k) (eqb k k) (sym e ∙ h) (eq-eqb k k refl)),
  λ m.
      let parts = and_parts (X m.0) (eqb m.0 k) m.1 in
      e ∙ ap X (sym (eqb-true m.0 k parts.1)) ∙ parts.0,
)

-- sets with the same values meet x alike
pub meets_as : (X p q : Values) (meets : Bool) → ((v : ℕ) → q v ≡ p v) → Decides meets (Meet X q) → Decides meets (Meet X p)
meets_as X p q meets same decides = (
  λ e. let m = decides.0 e in (m.0, ap (λ b. X m.0 && b) (sym (same m.0)) ∙ m.1),
  λ m. decides.1 (m.0, ap (λ b. X m.0 && b) (same m.0) ∙ m.1),
)

-- one cell is visited
pub visited : {R : Type 0} (values : R → Values) (S : Sets) (X : Values) (level : ℕ) (cell : Cell) (before after : Rests R) (meets : Bool) → after.axes ≡ before.axes
    → ((v : ℕ) → values after.x v ≡ (values before.x v && not (cell_has S cell v))) → Decides meets (Meet X (cell_has S cell))
    → Swept values S X level 0 (Reaches S [] (cell ∷ [])) before after (cond meets (Only cell) Nothing)
visited values S X level cell before after true same less decides = cell_hit values S X level cell before after same less (decides.0 refl)
visited values S X level cell before after false same less decides = cell_miss values S X level cell before after same less (λ m. both_ways false refl (decides.1 m))

-- the same, of a cell that is known by its case
pub visited_as : {R : Type 0} (values : R → Values) (S : Sets) (X : Values) (level : ℕ) (cell known : Cell) → cell ≡ known → (before after : Rests R) (meets : Bool) (hits : Hits)
    → hits ≡ cond meets (Only known) Nothing → after.axes ≡ before.axes → ((v : ℕ) → values after.x v ≡ (values before.x v && not (cell_has S known v)))
    → Decides meets (Meet X (cell_has S known)) → Swept values S X level 0 (Reaches S [] (cell ∷ [])) before after hits
visited_as values S X level cell known is before after meets hits told same less decides =
    subst (λ h. Swept values S X level 0 (Reaches S [] (cell ∷ [])) before after h) (sym (told ∙ ap (λ c. cond meets (Only c) Nothing) (sym is)))
    (visited values S X level cell before after meets same
    (λ v. less v ∙ ap (λ c. values before.x v && not (cell_has S c v)) (sym is))
    (subst (λ c. Decides meets (Meet X (cell_has S c))) (sym is) decides))

-- nothing is supported at the start
abbrev pub all_rest : {R : Type 0} → R → Rests R
all_rest row = record { x = row; axes = replicate 4 (replicate 256 false) }

all_false : (n p : ℕ) → get_or (replicate n false) p false ≡ false
all_false zero p = refl
all_false (suc n) zero = refl
all_false (suc n) (suc p) = all_false n p

rows_false : (n m l w : ℕ) → get_or (get_or (replicate n (replicate m false)) l []) w false ≡ false
rows_false zero m l w = refl
rows_false (suc n) m zero w = all_false m w
rows_false (suc n) m (suc l) w = rows_false n m l w

pub none_marked : (l w : ℕ) → unmarked (replicate 4 (replicate 256 false)) l w ≡ true
none_marked l w = ap not (and_right (ltb w 256) _ (rows_false 4 256 l w))
