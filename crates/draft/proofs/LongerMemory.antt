-- Rules that are lawful stay so for more fields, and where their memory grows behind them. Assumes nothing.
use Rattle.std.proofs.Common.{◌≡◌, ℕ, ◌+◌, ◌-◌, ◌≤◌, Bool, true, false, cond, ◌&&◌, leb, List, [], ◌∷◌, ◌++◌, map, length, take, drop, sym, refl, ap, ◌∙◌, subst, arith, length-append}
use lib.Seq.{take-append_seam}
use Rattle.std.proofs.lemmas.Bool.{le-leb}
use Rattle.std.proofs.lemmas.Bool.Decides.{nat_tests}
use Rattle.rules.specs.Books.{no_rule}
use Rattle.rules.specs.Rules.{Rule, EachRule, LawfulRule}
use Rattle.frames.specs.Reads.{frame_rule, sum_rule, parts_of, makes_sense as frame-sense}
use Rattle.frames.specs.declared.record.Frame.{Frame}
use Rattle.frames.specs.declared.record.Part.{Part}
use Rattle.tables.specs.Reads.{room, axes_of, positive, cells_of, table_rule, lookup_rule, makes_sense as table-sense}
use Rattle.tables.specs.declared.record.Cell.{Cell}
use Rattle.tables.specs.declared.record.Head.{Head}
use Rattle.draft.proofs.Overlays.{part_of_front, front_longer}

-- two lists of rules, one after the other
pub each_both : (P : Rule → Type 0) (qs rs : List Rule) → EachRule P qs → EachRule P rs → EachRule P (qs ++ rs)
each_both P [] rs first second = second
each_both P (q ∷ qs) rs first second = (first.0, each_both P qs rs first.1 second)

-- rules made from a list, where each of them stays lawful if it is made in another way
pub each_made : {A : Type 0} (P : Rule → Type 0) (made made' : A → Rule) → ((x : A) → P (made x) → P (made' x)) → (xs : List A) → EachRule P (map made xs) → EachRule P (map made' xs)
each_made P made made' stays [] each = tt
each_made P made made' stays (x ∷ xs) each = (stays x each.0, each_made P made made' stays xs each.1)

no_rule_unlawful : (n : ℕ) → LawfulRule n no_rule → ⊥
no_rule_unlawful n lawful = omega (arith, lawful.names_some)

-- a part that lies in the front
part_longer : {A : Type 0} (first size : ℕ) (xs ys : List A) → first + size ≤ length xs → take size (drop first (xs ++ ys)) ≡ take size (drop first xs)
part_longer first size xs ys fits =
    sym (part_of_front first size (length xs) (xs ++ ys) fits) ∙ ap (λ l. take size (drop first l)) (take-append_seam xs ys)

-- a place that lies in the front lies in the whole
still_within : {A : Type 0} (k : ℕ) (xs ys : List A) → k ≤ length xs → leb k (length (xs ++ ys)) ≡ leb k (length xs)
still_within k xs ys within = let long = length-append xs ys in le-leb k (length (xs ++ ys)) (omega arith) ∙ sym (le-leb k (length xs) within)

-- a rule that is there if a test holds, and whose test and form stay, stays lawful
lawful_stays : (n : ℕ) (sense sense' : Bool) (rule rule' : Rule) → (sense ≡ true → (sense' ≡ sense) × (rule' ≡ rule)) → LawfulRule n (cond sense rule no_rule) → LawfulRule n (cond sense' rule' no_rule)
lawful_stays n false sense' rule rule' stays lawful = absurd (no_rule_unlawful n lawful)
lawful_stays n true sense' rule rule' stays lawful =
    let same = stays refl in
    subst (λ b. LawfulRule n (cond b rule' no_rule)) (sym same.0) (subst (LawfulRule n) (sym same.1) lawful)

-- a lawful table stays so with more cells behind
pub table_longer : (n : ℕ) (xs ys : List Cell) (head : Head) → LawfulRule n (table_rule xs head) → LawfulRule n (table_rule (xs ++ ys) head)
table_longer n xs ys head =
    lawful_stays n (table-sense xs head) (table-sense (xs ++ ys) head) (lookup_rule head.x (axes_of head) (cells_of xs head)) (lookup_rule head.x (axes_of head) (cells_of (xs ++ ys) head))
    (λ sense.
    let size = room (axes_of head) in
    let fits : head.first + size ≤ length xs = grind (arith, nat_tests) in (
      ap (λ b. leb 1 head.axis_count && (leb head.axis_count 4 && (positive (axes_of head) && (leb size 1024 && b)))) (still_within (head.first + size) xs ys fits),
      ap (lookup_rule head.x (axes_of head)) (part_longer head.first size xs ys fits),
    ))

-- lawful tables of a front of the cells are so in a longer front
pub tables_longer : (n first last : ℕ) (cells : List Cell) (heads : List Head) → first ≤ last → EachRule (LawfulRule n) (map (table_rule (take first cells)) heads)
    → EachRule (LawfulRule n) (map (table_rule (take last cells)) heads)
tables_longer n first last cells heads le each =
    let rest = take (last - first) (drop first cells) in
    subst (λ cs. EachRule (LawfulRule n) (map (table_rule cs) heads)) (sym (front_longer first last cells le))
    (each_made (LawfulRule n) (table_rule (take first cells)) (table_rule (take first cells ++ rest)) (table_longer n (take first cells) rest) heads each)

-- a lawful frame stays so with more parts behind
pub frame_longer : (n : ℕ) (xs ys : List Part) (frame : Frame) → LawfulRule n (frame_rule xs frame) → LawfulRule n (frame_rule (xs ++ ys) frame)
frame_longer n xs ys frame =
    lawful_stays n (frame-sense xs frame) (frame-sense (xs ++ ys) frame) (sum_rule (parts_of xs frame) frame.limit) (sum_rule (parts_of (xs ++ ys) frame) frame.limit)
    (λ sense.
    let fits : frame.first + frame.count ≤ length xs = grind (arith, nat_tests) in (
      ap (λ b. leb 1 frame.count && (leb frame.count 64 && b)) (still_within (frame.first + frame.count) xs ys fits),
      ap (λ parts. sum_rule parts frame.limit) (part_longer frame.first frame.count xs ys fits),
    ))
