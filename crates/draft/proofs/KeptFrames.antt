-- Entering a frame keeps what is kept of a draft. Assumes nothing.
use Rattle.std.proofs.Common.{◌≡◌, ℕ, ◌+◌, ◌<◌, ◌≤◌, true, List, [], ◌∷◌, ◌++◌, map, length, take, set, None, sym, ap, ◌∙◌, subst, inl, inr, arith, length-append, length-take-le, take_all, drop_at}
use Rattle.std.proofs.lemmas.List.{length-map, map-append, take_more_set}
use Rattle.std.proofs.lemmas.Bool.{cond-true, and_from, not-false, le-leb, ltb-false}
use Rattle.std.proofs.lemmas.Bool.Decides.{nat_tests}
use Rattle.frames.specs.Reads.{frame_rule, sum_rule, parts_of, makes_sense}
use Rattle.frames.specs.declared.record.Frame.{Frame}
use Rattle.frames.specs.declared.record.Part.{Part}
use Rattle.rows.specs.Values.{Values}
use Rattle.rules.specs.Books.{no_rule}
use Rattle.rules.specs.Rules.{In, Distinct, EachRule, LawfulRule}
use Rattle.draft.specs.Entries.{lacking, frame_lines, with_frame, frame_noted}
use Rattle.draft.specs.Faults.{uppermost}
use Rattle.draft.specs.Lists.{pairs, pair_count, part_of, first_field, all_below, distinct}
use Rattle.draft.specs.Memory.{Held}
use Rattle.draft.specs.declared.state.Draft.{Draft}
use Rattle.draft.proofs.AcceptedLines.{none_met}
use Rattle.draft.proofs.FieldTests.{below_from_test, apart_from_test}
use Rattle.draft.proofs.Keeping.{Kept, FramesKept}
use Rattle.draft.proofs.LongerMemory.{each_both, each_made, frame_longer}
use Rattle.draft.proofs.Overlays.{front_written}
use Rattle.draft.proofs.PairLists.{pairs_length, part_fields}

-- a frame whose parts stand last
last_lawful : (n limit : ℕ) (before parts : List Part) (first count : ℕ) → length before ≡ first → length parts ≡ count → 1 ≤ count → count ≤ 64
    → ((f : ℕ) → In f (map (λ p. p.field) parts) → f < n) → Distinct (map (λ p. p.field) parts)
    → LawfulRule n (frame_rule (before ++ parts) (record { first = first; count = count; limit = limit }))
last_lawful n limit before parts first count at long some few below apart =
    let frame : Frame = record { first = first; count = count; limit = limit } in
    let fits : first + count ≤ length (before ++ parts) = omega (arith, length-append before parts) in
    let sense : makes_sense (before ++ parts) frame ≡ true = and_from _ _ (le-leb 1 count some) (and_from _ _ (le-leb count 64 few) (le-leb (first + count) (length (before ++ parts)) fits)) in
    let own : parts_of (before ++ parts) frame ≡ parts = ap (take count) (drop_at before parts first at) ∙ take_all count parts (omega arith) in
    let rule = sum_rule (parts_of (before ++ parts) frame) limit in
    subst (LawfulRule n) (sym (cond-true (makes_sense (before ++ parts) frame) rule no_rule sense))
    (subst (λ ps. LawfulRule n (sum_rule ps limit)) (sym own) (record {
      names_some = omega (arith, length-map parts (λ p. p.field));
      below = below;
      apart = apart;
    }))

module _ (d : Draft) (limit : ℕ) (list : List ℕ) (m : Held) where
  -- the frames with one more
  frames_kept : d.frames < length m.frames → d.parts + pair_count list ≤ length m.parts → 1 ≤ pair_count list → pair_count list ≤ 64
      → all_below d.fields (map first_field (pairs list)) ≡ true → distinct (map first_field (pairs list)) ≡ true
      → FramesKept d m → FramesKept (with_frame d (pair_count list)) (frame_noted m d limit list)
  frames_kept more fits some few below apart each =
      let count = pair_count list in
      let parts = map part_of (pairs list) in
      let old = take d.parts m.parts in
      let frame : Frame = record { first = d.parts; count = count; limit = limit } in
      let long : length parts ≡ count = length-map (pairs list) part_of ∙ pairs_length list in
      let before : length old ≡ d.parts = length-take-le d.parts m.parts (omega arith) in
      let names = part_fields (pairs list) in
      let lawful = last_lawful d.fields limit old parts d.parts count before long some few
      (λ f i. below_from_test d.fields (map first_field (pairs list)) below f (subst (In f) (sym names) i))
      (subst Distinct names (apart_from_test (map first_field (pairs list)) apart)) in
      let olds = each_made (LawfulRule d.fields) (frame_rule old) (frame_rule (old ++ parts)) (frame_longer d.fields old parts) (take d.frames m.frames) each in
      let both = each_both (LawfulRule d.fields) (map (frame_rule (old ++ parts)) (take d.frames m.frames)) (frame_rule (old ++ parts) frame ∷ []) olds (lawful, tt) in
      subst (λ ps. EachRule (LawfulRule d.fields) (map (frame_rule ps) (take (d.frames + 1) (set m.frames d.frames frame)))) (sym (front_written m.parts d.parts count parts long fits))
      (subst (λ fs. EachRule (LawfulRule d.fields) (map (frame_rule (old ++ parts)) fs)) (sym (take_more_set m.frames d.frames frame more))
      (subst (EachRule (LawfulRule d.fields)) (sym (map-append (frame_rule (old ++ parts)) (take d.frames m.frames) (frame ∷ []))) both))

  pub frame_kept : {R : Type 0} (values : R → Values) (rows : List R) → uppermost (frame_lines d (length rows) m list) ≡ None → Kept values d rows m
      → Kept values (with_frame d (pair_count list)) rows (frame_noted m d limit list)
  frame_kept values rows none kept =
      let count = pair_count list in
      let tests = none_met (frame_lines d (length rows) m list) none in
      let whole : lacking d ≤ 0 = ltb-false 0 (lacking d) tests.1.0 in
      let sized = tests.1.1.0 in
      let some : 1 ≤ count = grind (arith, nat_tests) in
      let most : count ≤ 64 = grind (arith, nat_tests) in
      let left = tests.1.1.1.0 in
      let few : d.frames < 32 = grind (arith, nat_tests) in
      let more : d.frames < length m.frames = grind (arith, nat_tests) in
      let fits : d.parts + count ≤ length m.parts = grind (arith, nat_tests) in
      record {
        few = kept.few;
        few_tables = kept.few_tables;
        few_frames = omega arith;
        counted = kept.counted;
        enough = kept.enough;
        ranges = kept.ranges;
        tables = elim kept.tables [ inl closed ↦ inl (record { none = closed.none; each = closed.each }) | inr opened ↦ absurd (omega (arith, opened.0)) ];
        frames = frames_kept more fits some most
            (not-false (all_below d.fields (map first_field (pairs list))) tests.1.1.1.1.0) (not-false (distinct (map first_field (pairs list))) tests.1.1.1.1.1.0) kept.frames;
      }
