-- Drafts that are made by entries are sound. Assumes nothing.
use Rattle.std.proofs.Common.{◌≡◌, ℕ, List, map, length, sym, refl, subst, inl, ⊎_elim, arith}
use Rattle.rows.specs.Values.{Values}
use Rattle.tables.specs.Reads.{room}
use Rattle.draft.specs.Entries.{nothing, RowMade, field_lines, head_lines, cell_lines, frame_lines, with_field, with_head, with_cells, with_frame, range_noted, head_noted, head_of, cells_noted, frame_noted, next_cell}
use Rattle.draft.specs.Lists.{pairs, pair_count, axis_of}
use Rattle.draft.specs.Made.{Drafted, Entered, Made, DraftsSound}
use Rattle.draft.specs.Made.Entered.{field, head, cells, frame}
use Rattle.draft.specs.Made.Made.{start, then}
use Rattle.draft.specs.Memory.{Held}
use Rattle.draft.specs.declared.state.Draft.{Draft}
use Rattle.draft.proofs.AcceptedLines.{outcome}
use Rattle.draft.proofs.Keeping.{Kept, sound_if_kept}
use Rattle.draft.proofs.KeptFields.{field_kept}
use Rattle.draft.proofs.KeptFrames.{frame_kept}
use Rattle.draft.proofs.KeptTables.{head_kept, cells_kept}

module _ {R : Type 0} (values : R → Values) (span : ℕ) where
  -- nothing is entered
  start_kept : (rows : List R) (m : Held) → Kept values nothing rows m
  start_kept rows m = record {
    few = omega arith;
    few_tables = omega arith;
    few_frames = omega arith;
    counted = omega arith;
    enough = omega arith;
    ranges = λ f v small. absurd (omega arith);
    tables = inl (record { none = refl; each = tt });
    frames = tt;
  }

  -- the same draft over the same rows and memory
  same_kept : (d d' : Draft) (rows rows' : List R) (m m' : Held) → d' ≡ d → rows' ≡ rows → m' ≡ m → Kept values d rows m → Kept values d' rows' m'
  same_kept d d' rows rows' m m' drafts lists memories kept =
      subst (λ e. Kept values e rows' m') (sym drafts) (subst (λ rs. Kept values d rs m') (sym lists) (subst (λ n. Kept values d rows n) (sym memories) kept))

  -- one entry, accepted or refused
  entry_kept : (s t : Drafted R) → Entered values span s t → Kept values s.draft s.rows s.memory → Kept values t.draft t.rows t.memory
  entry_kept s t (field lo hi answer enters is) kept =
      let d = s.draft in
      let m = s.memory in
      ⊎_elim
      (λ accepted. same_kept (with_field d) t.draft t.rows t.rows (range_noted m d.fields lo hi) t.memory accepted.1 refl accepted.2.1
      (field_kept values span d lo hi s.rows t.rows m accepted.0 accepted.2.0 kept))
      (λ refused. same_kept d t.draft s.rows t.rows m t.memory refused.0 refused.1.0 refused.1.1 kept)
      (outcome (field_lines span d (length s.rows) m lo hi) d (with_field d) t.draft
      ((t.rows ≡ s.rows) × (t.memory ≡ m)) (RowMade values span lo hi d.fields s.rows t.rows × (t.memory ≡ range_noted m d.fields lo hi)) answer enters is)
  entry_kept s t (head x list answer enters is rows) kept =
      let d = s.draft in
      let m = s.memory in
      let after = with_head d (room (map axis_of (pairs list))) in
      let m' = head_noted m d.tables (head_of x list d.cells) in
      ⊎_elim
      (λ accepted. same_kept after t.draft s.rows t.rows m' t.memory accepted.1 rows accepted.2 (head_kept d x list m values s.rows accepted.0 kept))
      (λ refused. same_kept d t.draft s.rows t.rows m t.memory refused.0 rows refused.1 kept)
      (outcome (head_lines d (length s.rows) m x list) d after t.draft (t.memory ≡ m) (t.memory ≡ m') answer enters is)
  entry_kept s t (cells list answer enters is rows) kept =
      let d = s.draft in
      let m = s.memory in
      let after = with_cells d (pair_count list) in
      let m' = cells_noted m (next_cell d) list in
      ⊎_elim
      (λ accepted. same_kept after t.draft s.rows t.rows m' t.memory accepted.1 rows accepted.2 (cells_kept d list m values s.rows accepted.0 kept))
      (λ refused. same_kept d t.draft s.rows t.rows m t.memory refused.0 rows refused.1 kept)
      (outcome (cell_lines d (length s.rows) m list) d after t.draft (t.memory ≡ m) (t.memory ≡ m') answer enters is)
  entry_kept s t (frame limit list answer enters is rows) kept =
      let d = s.draft in
      let m = s.memory in
      let after = with_frame d (pair_count list) in
      let m' = frame_noted m d limit list in
      ⊎_elim
      (λ accepted. same_kept after t.draft s.rows t.rows m' t.memory accepted.1 rows accepted.2 (frame_kept d limit list m values s.rows accepted.0 kept))
      (λ refused. same_kept d t.draft s.rows t.rows m t.memory refused.0 rows refused.1 kept)
      (outcome (frame_lines d (length s.rows) m list) d after t.draft (t.memory ≡ m) (t.memory ≡ m') answer enters is)

  made_kept : (s : Drafted R) → Made values span s → Kept values s.draft s.rows s.memory
  made_kept s (start rows m) = start_kept rows m
  made_kept s (then {s = r} made entered) = entry_kept r s entered (made_kept r made)

pub drafts_sound : (R : Type 0) (values : R → Values) (span : ℕ) → DraftsSound R values span
drafts_sound R values span s made = sound_if_kept values s (made_kept values span s made)
