-- A pass over a table's cells, part by part. Assumes nothing.
use Rattle.std.proofs.Common.{◌≡◌, ℕ, zero, suc, ◌+◌, ◌<◌, ◌≤◌, true, false, not, ◌&&◌, eqb, ◌⊎◌, List, [], ◌∷◌, get_or, sym, refl, ap, ◌∙◌, subst, inl, inr, ⊎_elim, add-zero, arith}
use Rattle.std.proofs.lemmas.Bool.{cases_eq, both_ways, false≢true, and_left, and_right, and_cases, and_parts, not-false, not_from_true, eqb-true, eq-eqb, and_from}
use Rattle.rows.specs.Values.{Values, Meet}
use Rattle.rules.specs.Rules.{Sets}
use Rattle.tables.specs.declared.found.Hits.{Hits}
use Rattle.tables.specs.declared.found.Hits.TheVariants.{Nothing, Only, Several}
use Rattle.tables.specs.declared.record.Axis.{Axis}
use Rattle.tables.specs.declared.record.Cell.{Cell}
use Rattle.tables.specs.Reads.{room, block}
use Rattle.tables.specs.declared.found.Rests.{Rests}
use Rattle.tables.specs.Scans.{unmarked, cell_has, Reaches, here, there, Selection, Hit, Tells, Swept, both_hits, some_hit, NotedHits}

-- of a selection, the indices that begin below d
abbrev pub Under : ℕ → Selection → Selection
Under d P [] c = ⊥
Under d P (e ∷ ds) c = (e < d) × P (e ∷ ds) c

-- ---- hits

tells_same : (hits : Hits) (L M : Selection) → ((ds : List ℕ) (c : Cell) → L ds c → M ds c) → ((ds : List ℕ) (c : Cell) → M ds c → L ds c) → Tells hits L → Tells hits M
tells_same Nothing L M to from t = λ ds c m. t ds c (from ds c m)
tells_same (Only c) L M to from t = (t.0, to t.0 c t.1, λ es e m. t.2 es e (from es e m))
tells_same Several L M to from t = (t.0, t.1, t.2, t.3, to t.0 t.1 t.4, to t.2 t.3 t.5, t.6)

-- a hit that is told is there
told_hit : (hits : Hits) (L : Selection) → Tells hits L → some_hit hits ≡ true → (ds : List ℕ) × (c : Cell) × L ds c
told_hit Nothing L t e = absurd (false≢true e)
told_hit (Only c) L t e = (t.0, c, t.1)
told_hit Several L t e = (t.0, t.1, t.4)

-- and one that is there is told
hit_told : (hits : Hits) (L : Selection) → Tells hits L → (ds : List ℕ) (c : Cell) → L ds c → some_hit hits ≡ true
hit_told Nothing L t ds c l = absurd (t ds c l)
hit_told (Only e) L t ds c l = refl
hit_told Several L t ds c l = refl

-- hits of indices below d, and hits at d
module _ (d : ℕ) (P : Selection) (L M N : Selection)
    (low : (ds : List ℕ) (c : Cell) → L ds c → (e : ℕ) × (es : List ℕ) × (ds ≡ e ∷ es) × (e < d))
    (old : (ds : List ℕ) (c : Cell) → L ds c → N ds c) (new : (ds : List ℕ) (c : Cell) → M ds c → N (d ∷ ds) c)
    (all : (ds : List ℕ) (c : Cell) → N ds c → L ds c ⊎ ((es : List ℕ) × (ds ≡ d ∷ es) × M es c)) where
  apart : (ds es : List ℕ) (c : Cell) → L ds c → ds ≡ d ∷ es → ⊥
  apart ds es c l e =
      let k = low ds c l in
      let same : k.0 ≡ d = cc (k.2, e) in
      omega (arith, k.3)

  tells_both : (h k : Hits) → Tells h L → Tells k M → Tells (both_hits h k) N
  tells_both Nothing Nothing t u = λ ds c n. ⊎_elim (t ds c) (λ m. u m.0 c m.2) (all ds c n)
  tells_both Nothing (Only e) t u = (
    d ∷ u.0,
    new u.0 e u.1,
    λ es c n. ⊎_elim (λ l. absurd (t es c l)) (λ m. m.1 ∙ ap (λ xs. d ∷ xs) (u.2 m.0 c m.2)) (all es c n),
  )
  tells_both Nothing Several t u = (d ∷ u.0, u.1, d ∷ u.2, u.3, new u.0 u.1 u.4, new u.2 u.3 u.5, λ e. u.6 (cc))
  tells_both (Only c) Nothing t u = (
    t.0,
    old t.0 c t.1,
    λ es e n. ⊎_elim (t.2 es e) (λ m. absurd (u m.0 e m.2)) (all es e n),
  )
  tells_both Several Nothing t u = (t.0, t.1, t.2, t.3, old t.0 t.1 t.4, old t.2 t.3 t.5, t.6)
  tells_both (Only c) (Only e) t u = (t.0, c, d ∷ u.0, e, old t.0 c t.1, new u.0 e u.1, apart t.0 u.0 c t.1)
  tells_both (Only c) Several t u = (t.0, c, d ∷ u.0, u.1, old t.0 c t.1, new u.0 u.1 u.4, apart t.0 u.0 c t.1)
  tells_both Several (Only e) t u = (t.0, t.1, d ∷ u.0, e, old t.0 t.1 t.4, new u.0 e u.1, apart t.0 u.0 t.1 t.4)
  tells_both Several Several t u = (t.0, t.1, d ∷ u.0, u.1, old t.0 t.1 t.4, new u.0 u.1 u.4, apart t.0 u.0 t.1 t.4)

-- ---- the pass

module _ {R : Type 0} (values : R → Values) (S : Sets) (X : Values) where
  -- two selections of the same indices and cells
  swept_same : (level n : ℕ) (P Q : Selection) (before after : Rests R) (hits : Hits) → ((ds : List ℕ) (c : Cell) → P ds c → Q ds c) → ((ds : List ℕ) (c : Cell) → Q ds c → P ds c)
      → Swept values S X level n P before after hits → Swept values S X level n Q before after hits
  swept_same level n P Q before after hits to from s = record {
    x_gone = λ ds c v q h. s.x_gone ds c v (from ds c q) h;
    x_lost = λ v e. elim (s.x_lost v e) [ inl b ↦ inl b | inr k ↦ inr (k.0, k.1, to k.0 k.1 k.2, k.3) ];
    x_less = s.x_less;
    axis_gone = λ ds c j h l. s.axis_gone ds c j (from ds c h.0, h.1) l;
    axis_lost = λ l w e. elim (s.axis_lost l w e) [ inl b ↦ inl b | inr k ↦ inr (k.0, k.1, k.2, (to k.0 k.1 k.3.0, k.3.1), k.4, k.5, k.6) ];
    axis_less = s.axis_less;
    told = tells_same hits (Hit S X P) (Hit S X Q) (λ ds c h. (to ds c h.0, h.1)) (λ ds c h. (from ds c h.0, h.1)) s.told;
  }

  -- nothing is selected
  swept_none : (level n : ℕ) (P : Selection) (rests : Rests R) → ((ds : List ℕ) (c : Cell) → P ds c → ⊥) → Swept values S X level n P rests rests Nothing
  swept_none level n P rests none = record {
    x_gone = λ ds c v p h. absurd (none ds c p);
    x_lost = λ v e. inl e;
    x_less = λ v e. e;
    axis_gone = λ ds c j h l. absurd (none ds c h.0);
    axis_lost = λ l w e. inl e;
    axis_less = λ l w e. e;
    told = λ ds c h. none ds c h.0;
  }

  -- no block yet
  pub no_block : (level n : ℕ) (P : Selection) (rests : Rests R) → Swept values S X level n (Under 0 P) rests rests Nothing
  no_block level n P rests = swept_none level n (Under 0 P) rests none
    where
      none : (ds : List ℕ) (c : Cell) → Under 0 P ds c → ⊥
      none [] c u = u
      none (e ∷ ds) c u = omega (arith, u.0)

  -- one cell
  module _ (level : ℕ) (cell : Cell) (before after : Rests R) (same : after.axes ≡ before.axes)
      (less : (v : ℕ) → values after.x v ≡ (values before.x v && not (cell_has S cell v))) where
    swept_cell : (hits : Hits) → Tells hits (Hit S X (Reaches S [] (cell ∷ []))) → Swept values S X level 0 (Reaches S [] (cell ∷ [])) before after hits
    swept_cell hits told = record {
      x_gone = λ ds c v p h. gone p v h;
      x_lost = λ v e. ⊎_elim (λ b. inl b) (λ h. inr ([], cell, here, not-false (cell_has S cell v) h)) (and_cases (values before.x v) (not (cell_has S cell v)) (sym (less v) ∙ e));
      x_less = λ v e. less v ∙ and_left (values before.x v) (not (cell_has S cell v)) e;
      axis_gone = λ ds c j h l. absurd (omega arith);
      axis_lost = λ l w e. inl (ap (λ rs. unmarked rs l w) (sym same) ∙ e);
      axis_less = λ l w e. ap (λ rs. unmarked rs l w) same ∙ e;
      told = told;
    }
      where
        gone : {ds : List ℕ} {c : Cell} → Reaches S [] (cell ∷ []) ds c → (v : ℕ) → cell_has S c v ≡ true → values after.x v ≡ false
        gone here v h = less v ∙ and_right (values before.x v) (not (cell_has S cell v)) (not_from_true (cell_has S cell v) h)

    pub cell_hit : Meet X (cell_has S cell) → Swept values S X level 0 (Reaches S [] (cell ∷ [])) before after (Only cell)
    cell_hit meet = swept_cell (Only cell) ([], (here, meet), λ es e h. only h.0)
      where
        only : {es : List ℕ} {e : Cell} → Reaches S [] (cell ∷ []) es e → es ≡ []
        only here = refl

    pub cell_miss : (Meet X (cell_has S cell) → ⊥) → Swept values S X level 0 (Reaches S [] (cell ∷ [])) before after Nothing
    cell_miss miss = swept_cell Nothing (λ ds c h. none h.0 h.1)
      where
        none : {ds : List ℕ} {c : Cell} → Reaches S [] (cell ∷ []) ds c → Meet X (cell_has S c) → ⊥
        none here meet = miss meet

  -- the blocks of the first axis, one after another
  module _ (level : ℕ) (ax : Axis) (axes : List Axis) (n : ℕ) (cells : List Cell) (before : Rests R) where
    open_index : {e : ℕ} {ds : List ℕ} {c : Cell} → Reaches S (ax ∷ axes) cells (e ∷ ds) c → (S ax.field e ≡ true) × (e < ax.extent)
    open_index (there l s r) = (s, l)

    inner : {e : ℕ} {ds : List ℕ} {c : Cell} → Reaches S (ax ∷ axes) cells (e ∷ ds) c → Reaches S axes (block (room axes) e cells) ds c
    inner (there l s r) = r

    -- a block whose index is not open has nothing selected
    pub closed_block : (d : ℕ) (after : Rests R) (hits : Hits) → S ax.field d ≡ false → Swept values S X level (suc n) (Under d (Reaches S (ax ∷ axes) cells)) before after hits
        → Swept values S X level (suc n) (Under (d + 1) (Reaches S (ax ∷ axes) cells)) before after hits
    closed_block d after hits closed = swept_same level (suc n) _ _ before after hits to from
      where
        to : (ds : List ℕ) (c : Cell) → Under d (Reaches S (ax ∷ axes) cells) ds c → Under (d + 1) (Reaches S (ax ∷ axes) cells) ds c
        to [] c u = u
        to (e ∷ ds) c u = (omega (arith, u.0), u.1)

        from : (ds : List ℕ) (c : Cell) → Under (d + 1) (Reaches S (ax ∷ axes) cells) ds c → Under d (Reaches S (ax ∷ axes) cells) ds c
        from [] c u = u
        from (e ∷ ds) c u =
            ⊎_elim
            (λ same. absurd (both_ways (S ax.field d) closed (subst (λ y. S ax.field y ≡ true) same (open_index u.1).0)))
            (λ other. (omega (arith, u.0), u.1))
            (cases_eq e d)

    -- every block is passed
    pub all_blocks : (d : ℕ) (after : Rests R) (hits : Hits) → ax.extent ≤ d → Swept values S X level (suc n) (Under d (Reaches S (ax ∷ axes) cells)) before after hits
        → Swept values S X level (suc n) (Reaches S (ax ∷ axes) cells) before after hits
    all_blocks d after hits done = swept_same level (suc n) _ _ before after hits to from
      where
        to : (ds : List ℕ) (c : Cell) → Under d (Reaches S (ax ∷ axes) cells) ds c → Reaches S (ax ∷ axes) cells ds c
        to [] c u = absurd u
        to (e ∷ ds) c u = u.1

        from : (ds : List ℕ) (c : Cell) → Reaches S (ax ∷ axes) cells ds c → Under d (Reaches S (ax ∷ axes) cells) ds c
        from [] c r = elim r [ ]
        from (e ∷ ds) c r = (omega (arith, (open_index r).1), r)

    -- a block whose index d is open joins those before it
    module _ (d : ℕ) (middle inside after : Rests R) (hits more : Hits) (small : d < ax.extent) (opened : S ax.field d ≡ true)
        (old : Swept values S X level (suc n) (Under d (Reaches S (ax ∷ axes) cells)) before middle hits)
        (new : Swept values S X (level + 1) n (Reaches S axes (block (room axes) d cells)) middle inside more)
        (noted : NotedHits level d more inside.axes after.axes) (same : after.x ≡ inside.x) where
      -- an index list of the blocks so far begins below d, or is of the block d
      split : (ds : List ℕ) (c : Cell) → Under (d + 1) (Reaches S (ax ∷ axes) cells) ds c
          → Under d (Reaches S (ax ∷ axes) cells) ds c ⊎ ((es : List ℕ) × (ds ≡ d ∷ es) × Reaches S axes (block (room axes) d cells) es c)
      split [] c u = absurd u
      split (e ∷ ds) c u =
          ⊎_elim
          (λ same. inr (ds, ap (λ y. y ∷ ds) same, subst (λ y. Reaches S axes (block (room axes) y cells) ds c) same (inner u.1)))
          (λ other. inl (omega (arith, u.0), u.1))
          (cases_eq e d)

      keep : (ds : List ℕ) (c : Cell) → Under d (Reaches S (ax ∷ axes) cells) ds c → Under (d + 1) (Reaches S (ax ∷ axes) cells) ds c
      keep [] c u = u
      keep (e ∷ ds) c u = (omega (arith, u.0), u.1)

      add : (ds : List ℕ) (c : Cell) → Reaches S axes (block (room axes) d cells) ds c → Under (d + 1) (Reaches S (ax ∷ axes) cells) (d ∷ ds) c
      add ds c r = (omega arith, there small opened r)

      below : (ds : List ℕ) (c : Cell) → Under d (Reaches S (ax ∷ axes) cells) ds c → (e : ℕ) × (es : List ℕ) × (ds ≡ e ∷ es) × (e < d)
      below [] c u = absurd u
      below (e ∷ es) c u = (e, es, refl, u.0)

      same_x : (v : ℕ) → values after.x v ≡ values inside.x v
      same_x v = ap (λ r. values r v) same

      stays : (l w : ℕ) → unmarked inside.axes l w ≡ false → unmarked after.axes l w ≡ false
      stays l w e = noted l w ∙ and_left (unmarked inside.axes l w) (not (some_hit more && (eqb l level && eqb w d))) e

      pub next_block : Swept values S X level (suc n) (Under (d + 1) (Reaches S (ax ∷ axes) cells)) before after (both_hits hits more)
      next_block = record {
        x_gone = λ ds c v u h. same_x v ∙ ⊎_elim
            (λ k. new.x_less v (old.x_gone ds c v k h))
            (λ k. new.x_gone k.0 c v k.2 h)
            (split ds c u);
        x_lost = λ v e. ⊎_elim
            (λ m. ⊎_elim (λ b. inl b) (λ k. inr (k.0, k.1, keep k.0 k.1 k.2, k.3)) (old.x_lost v m))
            (λ k. inr (d ∷ k.0, k.1, add k.0 k.1 k.2, k.3))
            (new.x_lost v (sym (same_x v) ∙ e));
        x_less = λ v e. same_x v ∙ new.x_less v (old.x_less v e);
        axis_gone = λ ds c j h l. ⊎_elim
            (λ k. stays (level + j) (get_or ds j 0) (new.axis_less (level + j) (get_or ds j 0) (old.axis_gone ds c j (k, h.1) l)))
            (λ k. subst (λ xs. unmarked after.axes (level + j) (get_or xs j 0) ≡ false) (sym k.1) (at_block k.0 c j (k.2, h.1) l))
            (split ds c h.0);
        axis_lost = λ l w e. ⊎_elim
            (λ k. ⊎_elim
            (λ m. ⊎_elim
            (λ b. inl b)
            (λ q. inr (q.0, q.1, q.2, (keep q.0 q.1 q.3.0, q.3.1), q.4, q.5, q.6))
            (old.axis_lost l w m))
            (λ q. inr (d ∷ q.0, q.1, suc q.2, (add q.0 q.1 q.3.0, q.3.1), omega (arith, q.4), omega (arith, q.5), q.6))
            (new.axis_lost l w k))
            (λ h.
            let parts = and_parts (some_hit more) (eqb l level && eqb w d) (not-false _ h) in
            let places = and_parts (eqb l level) (eqb w d) parts.1 in
            let hit = told_hit more (Hit S X (Reaches S axes (block (room axes) d cells))) new.told parts.0 in
            inr (d ∷ hit.0, hit.1, 0, (add hit.0 hit.1 hit.2.0, hit.2.1), omega arith, eqb-true l level places.0 ∙ sym (add-zero level), sym (eqb-true w d places.1)))
            (and_cases (unmarked inside.axes l w) (not (some_hit more && (eqb l level && eqb w d))) (sym (noted l w) ∙ e));
        axis_less = λ l w e. stays l w (new.axis_less l w (old.axis_less l w e));
        told = tells_both d (Reaches S (ax ∷ axes) cells) (Hit S X (Under d (Reaches S (ax ∷ axes) cells))) (Hit S X (Reaches S axes (block (room axes) d cells)))
            (Hit S X (Under (d + 1) (Reaches S (ax ∷ axes) cells)))
            (λ ds c h. below ds c h.0) (λ ds c h. (keep ds c h.0, h.1)) (λ ds c h. (add ds c h.0, h.1))
            (λ ds c h. ⊎_elim (λ k. inl (k, h.1)) (λ k. inr (k.0, k.1, (k.2, h.1))) (split ds c h.0)) hits more old.told new.told;
      }
        where
          at_block : (es : List ℕ) (c : Cell) (j : ℕ) → Hit S X (Reaches S axes (block (room axes) d cells)) es c → j < suc n → unmarked after.axes (level + j) (get_or (d ∷ es) j 0) ≡ false
          at_block es c zero h l =
              noted (level + 0) d
              ∙ and_right (unmarked inside.axes (level + 0) d) (not (some_hit more && (eqb (level + 0) level && eqb d d)))
              (not_from_true (some_hit more && (eqb (level + 0) level && eqb d d))
              (and_from (some_hit more) (eqb (level + 0) level && eqb d d) (hit_told more (Hit S X (Reaches S axes (block (room axes) d cells))) new.told es c h)
              (and_from (eqb (level + 0) level) (eqb d d) (eq-eqb (level + 0) level (add-zero level)) (eq-eqb d d refl))))
          at_block es c (suc j) h l =
              stays (level + suc j) (get_or es j 0)
              (subst (λ m. unmarked inside.axes m (get_or es j 0) ≡ false) (omega arith) (new.axis_gone es c j h (omega arith)))
