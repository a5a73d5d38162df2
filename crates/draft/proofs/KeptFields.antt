-- Entering a field keeps what is kept of a draft. Assumes nothing.
use Rattle.std.proofs.Common.{◌≡◌, ℕ, zero, suc, ◌+◌, ◌<◌, ◌≤◌, ◌&&◌, leb, List, [], ◌∷◌, map, length, take, set, None, sym, refl, ap, ◌∙◌, subst, inl, inr, ⊎_elim, arith, length-set}
use Rattle.std.proofs.lemmas.List.{get_or-set_other}
use Rattle.std.proofs.lemmas.Bool.{cases_eq, ltb-false, lt-ltb}
use Rattle.std.proofs.lemmas.Bool.Decides.{nat_tests}
use Rattle.frames.specs.Reads.{frame_rule}
use Rattle.rows.specs.Values.{Values}
use Rattle.rules.specs.Books.{sets}
use Rattle.rules.proofs.RowSets.{sets_same, sets_written}
use Rattle.tables.specs.Reads.{table_rule}
use Rattle.draft.specs.Entries.{lacking, field_lines, with_field, range_noted, RowMade}
use Rattle.draft.specs.Faults.{uppermost}
use Rattle.draft.specs.Made.{entered}
use Rattle.draft.specs.Memory.{Held}
use Rattle.draft.specs.declared.memory.Range.{Range}
use Rattle.draft.specs.declared.state.Draft.{Draft}
use Rattle.draft.proofs.AcceptedLines.{none_met}
use Rattle.draft.proofs.Keeping.{Kept}
use Rattle.rules.proofs.MadeRules.{each_wider}

-- the values from lo to hi
in_range : Range → Values
in_range r v = leb r.lo v && leb v r.hi

-- entered ranges read as rows do
entered_sets : (rs : List Range) (f v : ℕ) → entered rs f v ≡ sets in_range rs f v
unfolding in_range
entered_sets [] f v = refl
entered_sets (r ∷ rs) zero v = refl
entered_sets (r ∷ rs) (suc f) v = entered_sets rs f v

-- a row that is not written reads as before
sets_other : {R : Type 0} (values : R → Values) (rows : List R) (f : ℕ) (x : R) (g v : ℕ) → (g ≡ f → ⊥) → sets values (set rows f x) g v ≡ sets values rows g v
sets_other values rows f x g v other = sets_same values rows (set rows f x) g (length-set rows f x) (λ d. get_or-set_other rows f g x d other) v

module _ {R : Type 0} (values : R → Values) (span : ℕ) (d : Draft) (lo hi : ℕ) (rows rows' : List R) (m : Held) where
  -- rows and ranges with one more of each
  ranges_kept : d.fields < length rows → d.fields < length m.ranges → hi < span → ((f v : ℕ) → f < d.fields → sets values rows f v ≡ entered m.ranges f v)
      → RowMade values span lo hi d.fields rows rows' → (f v : ℕ) → f < d.fields + 1 → sets values rows' f v ≡ entered (range_noted m d.fields lo hi).ranges f v
  unfolding in_range
  ranges_kept more_rows more-ranges inside before made f v small =
      let range : Range = record { lo = lo; hi = hi } in
      let noted = set m.ranges d.fields range in
      let written = set rows d.fields made.row in
      let here : sets values written d.fields v ≡ sets in_range noted d.fields v =
      sets_written values rows d.fields made.row more_rows v
      ∙ made.made v
      ∙ ap (λ b. b && (leb lo v && leb v hi)) (lt-ltb hi span inside)
      ∙ sym (sets_written in_range m.ranges d.fields range more-ranges v) in
      let elsewhere : (f ≡ d.fields → ⊥) → sets values written f v ≡ sets in_range noted f v = λ other.
      sets_other values rows d.fields made.row f v other
      ∙ before f v (omega arith)
      ∙ entered_sets m.ranges f v
      ∙ sym (sets_other in_range m.ranges d.fields range f v other) in
      let same : sets values written f v ≡ sets in_range noted f v =
      ⊎_elim (λ is. subst (λ g. sets values written g v ≡ sets in_range noted g v) (sym is) here) elsewhere (cases_eq f d.fields) in
      ap (λ rs. sets values rs f v) made.placed ∙ same ∙ sym (entered_sets noted f v)

  pub field_kept : uppermost (field_lines span d (length rows) m lo hi) ≡ None → RowMade values span lo hi d.fields rows rows' → Kept values d rows m
      → Kept values (with_field d) rows' (range_noted m d.fields lo hi)
  field_kept none made kept =
      let tests = none_met (field_lines span d (length rows) m lo hi) none in
      let whole : lacking d ≤ 0 = ltb-false 0 (lacking d) tests.1.0 in
      let ranged = tests.1.1.0 in
      let inside : hi < span = grind (arith, nat_tests) in
      let left = tests.1.1.1.0 in
      let few : d.fields < 240 = grind (arith, nat_tests) in
      let more_rows : d.fields < length rows = grind (arith, nat_tests) in
      let more-ranges : d.fields < length m.ranges = grind (arith, nat_tests) in
      record {
        few = omega arith;
        few_tables = kept.few_tables;
        few_frames = kept.few_frames;
        counted = kept.counted;
        enough = omega (arith, ap length made.placed, length-set rows d.fields made.row);
        ranges = ranges_kept more_rows more-ranges inside kept.ranges made;
        tables = elim kept.tables [
          | inl closed ↦ inl (record {
            none = closed.none;
            each = each_wider d.fields (d.fields + 1) (map (table_rule (take d.cells m.cells)) (take d.tables m.heads)) (omega arith) closed.each;
          })
          | inr opened ↦ absurd (omega (arith, opened.0))
        ];
        frames = each_wider d.fields (d.fields + 1) (map (frame_rule (take d.parts m.parts)) (take d.frames m.frames)) (omega arith) kept.frames;
      }
