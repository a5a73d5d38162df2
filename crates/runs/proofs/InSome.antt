-- The values in the first runs of a list. Assumes nothing.
use Rattle.std.proofs.Common.{◌≡◌, ℕ, zero, suc, ◌+◌, ◌<◌, ◌≤◌, min, Bool, true, false, ◌&&◌, ◌||◌, ltb, leb, List, [], ◌∷◌, length, get_or, take, set, sym, refl, ap, ◌∙◌, ap₂, ⊎_elim, add-one, arith, length-set, get_or-set_same}
use Rattle.std.proofs.lemmas.Bool.{cases_lt, cases_eq, leb-true, and_parts}
use Rattle.std.proofs.lemmas.Bool.Decides.{nat_tests}
use Rattle.rows.specs.declared.run.Run.{Run}
use Rattle.rows.specs.Runs.{RunAfter, in_run, in_some, runs_from}
use Rattle.rows.proofs.RunLists.{runs_cover, runs_few, runs_from_wider}
use Rattle.rows.specs.Values.{Values, Same, either, from_to, up_to}

or_false : (b : Bool) → (b || false) ≡ b
or_false true = refl
or_false false = refl

or_assoc : (a b c : Bool) → (a || (b || c)) ≡ ((a || b) || c)
or_assoc true b c = refl
or_assoc false b c = refl

-- one run more, which stands at place i
pub in_some_more : (ps : List Run) (i : ℕ) (run : Run) → i < length ps → run ≡ get_or ps i run → (v : ℕ)
    → in_some (take (i + 1) ps) v ≡ (in_some (take i ps) v || in_run run v)
in_some_more ps i run h e v = ap (λ n. in_some (take n ps) v) (add-one i) ∙ go ps i h e
  where
    go : (ps : List Run) (i : ℕ) → i < length ps → run ≡ get_or ps i run → in_some (take (suc i) ps) v ≡ (in_some (take i ps) v || in_run run v)
    go [] i h e = absurd (omega arith)
    go (p ∷ ps) zero h e = or_false (in_run p v) ∙ ap (λ q. in_run q v) (sym e)
    go (p ∷ ps) (suc i) h e = ap (λ b. in_run p v || b) (go ps i (omega arith) e) ∙ or_assoc (in_run p v) (in_some (take i ps) v) (in_run run v)

-- writing at place i leaves the runs before it
pub in_some_before : (ps : List Run) (i : ℕ) (run : Run) (v : ℕ) → in_some (take i (set ps i run)) v ≡ in_some (take i ps) v
in_some_before [] i run v = refl
in_some_before (p ∷ ps) zero run v = refl
in_some_before (p ∷ ps) (suc i) run v = ap (λ b. in_run p v || b) (in_some_before ps i run v)

-- the part of a run below 128 joins the runs before it
pub joins : (old made joined : Values) (ps : List Run) (i : ℕ) (run : Run) (top : ℕ) → i < length ps → run ≡ get_or ps i run → top ≡ min run.high 127
    → Same old (λ v. ltb v 128 && in_some (take i ps) v) → Same made (from_to 256 run.low top) → Same joined (either old made)
    → Same joined (λ v. ltb v 128 && in_some (take (i + 1) ps) v)
joins old made joined ps i run top within stands cut_at before new both v =
    both v ∙ ap₂ ◌||◌ (before v) (new v) ∙ cut_run (in_some (take i ps) v) ∙ ap (λ b. ltb v 128 && b) (sym (in_some_more ps i run within stands v))
  where
    cut_run : (b : Bool) → ((ltb v 128 && b) || from_to 256 run.low top v) ≡ (ltb v 128 && (b || in_run run v))
    cut_run b = grind (arith, nat_tests)

-- the values in the runs so far and in the next one are those below the place two past its end
pub next_joins : (p : Values) (from : ℕ) (run : Run) → RunAfter p from run → (v : ℕ)
    → ((p v && ltb v from) || in_run run v) ≡ (p v && ltb v (run.high + 2))
next_joins p from run next v =
    let above = next.above in
    let forward = next.forward in
    ⊎_elim
    (λ before.
    ⊎_elim
    (λ old. grind (arith, nat_tests))
    (λ gap. let none = next.gap v gap before in grind (arith, nat_tests))
    (cases_lt v from))
    (λ after.
    ⊎_elim
    (λ inner. let some = next.filled v after (omega arith) in grind (arith, nat_tests))
    (λ past. ⊎_elim
    (λ end. let none : p v ≡ false = ap p end ∙ next.ends in grind (arith, nat_tests))
    (λ beyond. grind (arith, nat_tests))
    (cases_eq v (run.high + 1)))
    (cases_lt v (run.high + 1)))
    (cases_lt v run.low)

-- a run of a set cut at 127 ends there or before
pub ends : {p : Values} (q : Values) (from : ℕ) (run : Run) → Same p (up_to q 127) → RunAfter p from run → run.high ≤ 127
ends q from run same next =
    leb-true run.high 127 (and_parts (q run.high) (leb run.high 127) (sym (same run.high) ∙ next.filled run.high next.forward (omega arith))).1

-- writing the next run at place i, after those that stand before it
pub placed : (ps : List Run) (i : ℕ) (run : Run) (rest : List Run) (v : ℕ) → i < length ps
    → (in_some (take (i + 1) (set ps i run)) v || in_some rest v) ≡ (in_some (take i ps) v || in_some (run ∷ rest) v)
placed ps i run rest v room =
    ap (λ b. b || in_some rest v)
    (in_some_more (set ps i run) i run (omega (arith, length-set ps i run)) (sym (get_or-set_same ps i run run room)) v
    ∙ ap (λ b. b || in_run run v) (in_some_before ps i run v))
    ∙ sym (or_assoc (in_some (take i ps) v) (in_run run v) (in_some rest v))

-- the runs of a set whose values lie below 128
pub low_runs : (p : Values) → ((v : ℕ) → 128 ≤ v → p v ≡ false) → (length (runs_from 256 0 p) ≤ 64) × ((v : ℕ) → in_some (runs_from 256 0 p) v ≡ p v)
low_runs p low =
    let cut = runs_from_wider 128 128 0 p (λ w h. low w (omega arith)) in (
      omega (arith, ap length cut, (runs_few 128 0 p).0),
      λ v. ap (λ runs. in_some runs v) cut ∙ runs_cover 128 0 p v ∙ all v (low v),
    )
  where
    all : (v : ℕ) → (128 ≤ v → p v ≡ false) → (p v && (leb 0 v && ltb v (0 + 128))) ≡ p v
    all v low = grind (arith, nat_tests, low)
