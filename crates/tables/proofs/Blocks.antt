-- The blocks of a table's first axis. Assumes nothing.
use Rattle.std.proofs.Common.{◌≡◌, ℕ, suc, ◌+◌, ◌*◌, ◌/◌, ◌<◌, ◌≤◌, true, false, leb, List, [], ◌∷◌, ◌++◌, length, get_or, take, drop, sym, refl, ap, ◌∙◌, subst, inl, inr, ⊎_elim, mul-le-mul_right, suc-mul, mul_comm, mul-div_cancel, add-one, arith, length-drop, drop-drop}
use Rattle.std.proofs.Math.Seq.{take-append_seam, drop-append_seam}
use Rattle.std.proofs.lemmas.Bool.{cases_lt, and_parts, leb-true}
use Rattle.rows.specs.Values.{Values}
use Rattle.rules.specs.Rules.{Sets, In}
use Rattle.tables.specs.declared.found.Hits.{Hits}
use Rattle.tables.specs.declared.record.Axis.{Axis}
use Rattle.tables.specs.declared.record.Cell.{Cell}
use Rattle.tables.specs.declared.record.Cell.TheVariants.{Constant}
use Rattle.tables.specs.Reads.{room, block, positive, cell_fields}
use Rattle.tables.specs.declared.found.Rests.{Rests}
use Rattle.tables.specs.Scans.{Reaches, Swept, Scannable, NotedHits, both_hits}
use Rattle.tables.proofs.Picking.{block_length, block_fields}
use Rattle.tables.proofs.ViewSteps.{room_some}
use Rattle.tables.proofs.Sweeping.{Under, closed_block, all_blocks, next_block}

-- an axis that stands for none
abbrev pub no_axis : Axis
no_axis = record { field = 0; extent = 0 }

-- a list that has a first axis
pub first_axis : (axes : List Axis) → (length axes ≡ 0 → ⊥) → axes ≡ get_or axes 0 no_axis ∷ drop 1 axes
first_axis [] some = absurd (some refl)
first_axis (ax ∷ axes) some = refl

-- without an axis there is one cell
pub one_cell_left : (axes : List Axis) (cells : List Cell) → length axes ≡ 0 → length cells ≡ room axes → cells ≡ get_or cells 0 (Constant 0) ∷ []
one_cell_left [] [] none long = absurd (omega arith)
one_cell_left [] (c ∷ []) none long = refl
one_cell_left [] (c ∷ (b ∷ cells)) none long = absurd (omega arith)
one_cell_left (ax ∷ axes) cells none long = absurd (omega arith)

-- without an axis, the one cell is all
pub one_scanned : {R : Type 0} (values : R → Values) (S : Sets) (X : Values) (level : ℕ) (axes : List Axis) (cells : List Cell) (before after : Rests R) (hits : Hits)
    → length axes ≡ 0 → length cells ≡ room axes → Swept values S X level 0 (Reaches S [] (get_or cells 0 (Constant 0) ∷ [])) before after hits
    → Swept values S X level (length axes) (Reaches S axes cells) before after hits
one_scanned values S X level [] cells before after hits none long swept =
    subst (λ cs. Swept values S X level 0 (Reaches S [] cs) before after hits) (sym (one_cell_left [] cells none long)) swept
one_scanned values S X level (ax ∷ axes) cells before after hits none long swept = absurd (omega arith)

module _ (level rows : ℕ) (ax : Axis) (inner : List Axis) (cells : List Cell) (ok : Scannable level (ax ∷ inner) cells rows) where
  pub first_row : ax.field < rows
  first_row = ok.axis_rows ax.field (inl refl)

  pub extent_positive : 0 < ax.extent
  extent_positive = leb-true 1 ax.extent (and_parts (leb 1 ax.extent) (positive inner) ok.extents).0

  -- each block is as large as the inner axes need
  pub block_size : length cells / ax.extent ≡ room inner
  block_size = ap (λ n. n / ax.extent) (ok.long ∙ mul_comm ax.extent (room inner)) ∙ mul-div_cancel (room inner) extent_positive

  -- the inner axes with a block can be scanned
  pub block_scannable : (d : ℕ) (part : List Cell) → d < ax.extent → part ≡ block (room inner) d cells → Scannable (level + 1) inner part rows
  block_scannable d part l is = record {
    levels = omega (arith, ok.levels);
    extents = (and_parts (leb 1 ax.extent) (positive inner) ok.extents).1;
    long = ap length is ∙ block_length ax inner cells d ok.long l;
    axis_rows = λ f h. ok.axis_rows f (inr h);
    cell_rows = λ f h. ok.cell_rows f (block_fields (room inner) d cells f (subst (λ cs. In f (cell_fields cs)) is h));
  }

-- the part that comes next is the block d, and what is left behind it begins with the next one
pub next_part : (size d : ℕ) (cells rest part left : List Cell) → rest ≡ drop (d * size) cells → rest ≡ part ++ left → length part ≡ size
    → (part ≡ block size d cells) × (left ≡ drop ((d + 1) * size) cells)
next_part size d cells rest part left is cut long =
    let more : d * size + size ≡ (d + 1) * size = sym (suc-mul d size) ∙ ap (λ n. n * size) (sym (add-one d)) in (
      sym (take-append_seam part left) ∙ ap (λ n. take n (part ++ left)) long ∙ ap (take size) (sym cut ∙ is),
      sym (drop-append_seam part left) ∙ ap (λ n. drop n (part ++ left)) long ∙ ap (drop size) (sym cut ∙ is) ∙ drop-drop size (d * size) cells ∙ ap (λ n. drop n cells) more,
    )

-- where too few cells are left for a block, all blocks are passed
pub none_left_over : (size d extent : ℕ) (cells rest : List Cell) → rest ≡ drop (d * size) cells → length cells ≡ extent * size → length rest < size → extent ≤ d
none_left_over size d extent cells rest is long few = ⊎_elim
    (λ small.
    let more : suc d * size ≤ extent * size = mul-le-mul_right size small in
    absurd (omega (arith, suc-mul d size, ap length is, length-drop (d * size) cells)))
    (λ done. done)
    (cases_lt d extent)

-- the same of axes that are known by their first
module _ (level rows : ℕ) (ax : Axis) (inner axes : List Axis) (cells : List Cell) (is : axes ≡ ax ∷ inner) (ok : Scannable level axes cells rows) where
  pub whole_ok : Scannable level (ax ∷ inner) cells rows
  whole_ok = subst (λ qs. Scannable level qs cells rows) is ok

  -- a block has a cell
  pub size_some : 0 < length cells / ax.extent
  size_some = subst (λ n. 0 < n) (sym (block_size level rows ax inner cells whole_ok)) (room_some inner (and_parts (leb 1 ax.extent) (positive inner) whole_ok.extents).1)

  -- the blocks are all the cells
  pub blocks_long : length cells ≡ ax.extent * (length cells / ax.extent)
  blocks_long = whole_ok.long ∙ ap (λ n. ax.extent * n) (sym (block_size level rows ax inner cells whole_ok))

  module _ {R : Type 0} (values : R → Values) (S : Sets) (X : Values) (before : Rests R) where
    -- what is swept of the axes, and of the first and the inner ones
    in_parts : (d : ℕ) (after : Rests R) (hits : Hits) → Swept values S X level (length axes) (Under d (Reaches S axes cells)) before after hits
        → Swept values S X level (length (ax ∷ inner)) (Under d (Reaches S (ax ∷ inner) cells)) before after hits
    in_parts d after hits swept = subst (λ qs. Swept values S X level (length qs) (Under d (Reaches S qs cells)) before after hits) is swept

    as_whole : (d : ℕ) (after : Rests R) (hits : Hits) → Swept values S X level (length (ax ∷ inner)) (Under d (Reaches S (ax ∷ inner) cells)) before after hits
        → Swept values S X level (length axes) (Under d (Reaches S axes cells)) before after hits
    as_whole d after hits swept = subst (λ qs. Swept values S X level (length qs) (Under d (Reaches S qs cells)) before after hits) (sym is) swept

    pub block_closed : (d : ℕ) (after : Rests R) (hits : Hits) → S ax.field d ≡ false → Swept values S X level (length axes) (Under d (Reaches S axes cells)) before after hits
        → Swept values S X level (length axes) (Under (d + 1) (Reaches S axes cells)) before after hits
    block_closed d after hits closed swept =
        as_whole (d + 1) after hits (closed_block values S X level ax inner (length inner) cells before d after hits closed (in_parts d after hits swept))

    pub blocks_done : (d : ℕ) (after : Rests R) (hits : Hits) → ax.extent ≤ d → Swept values S X level (length axes) (Under d (Reaches S axes cells)) before after hits
        → Swept values S X level (length axes) (Reaches S axes cells) before after hits
    blocks_done d after hits done swept =
        subst (λ qs. Swept values S X level (length qs) (Reaches S qs cells) before after hits) (sym is)
        (all_blocks values S X level ax inner (length inner) cells before d after hits done (in_parts d after hits swept))

    pub block_joined : (d : ℕ) (part : List Cell) (middle inside after : Rests R) (hits more : Hits) → d < ax.extent → part ≡ block (length cells / ax.extent) d cells → S ax.field d ≡ true
        → Swept values S X level (length axes) (Under d (Reaches S axes cells)) before middle hits
        → Swept values S X (level + 1) (length inner) (Reaches S inner part) middle inside more
        → NotedHits level d more inside.axes after.axes → after.x ≡ inside.x → Swept values S X level (length axes) (Under (d + 1) (Reaches S axes cells)) before after (both_hits hits more)
    block_joined d part middle inside after hits more small at opened swept new noted same =
        let here : part ≡ block (room inner) d cells = at ∙ ap (λ m. block m d cells) (block_size level rows ax inner cells whole_ok) in
        as_whole (d + 1) after (both_hits hits more)
        (next_block values S X level ax inner (length inner) cells before d middle inside after hits more small opened (in_parts d middle hits swept)
        (subst (λ cs. Swept values S X (level + 1) (length inner) (Reaches S inner cs) middle inside more) here new) noted same)
