-- The list of a set's runs. Assumes nothing.
use Rattle.std.proofs.Common.{◌≡◌, ℕ, zero, suc, ◌+◌, ◌-◌, ◌*◌, ◌<◌, ◌≤◌, Bool, true, false, cond, ◌&&◌, ◌||◌, eqb, ltb, leb, List, [], ◌∷◌, ◌++◌, length, sym, refl, ap, ◌∙◌, ap₂, ◌⊎◌, inl, inr, ⊎_elim, suc-add, arith}
use Rattle.std.proofs.lemmas.Bool.{cases_Bool, cond-true, cond-false, both_ways}
use Rattle.std.proofs.lemmas.Bool.Decides.{nat_tests}
use Rattle.std.proofs.lemmas.List.{append-nil}
use Rattle.rows.specs.declared.run.Run.{Run}
use Rattle.rows.specs.Values.{Values}
use Rattle.rows.specs.Runs.{RunAfter, begun_at, runs_from, in_run, in_some, run_text, list_text}

-- the run of one value
abbrev one : ℕ → Run
one v = record { low = v; high = v }

-- a number that is not in the set is passed over
pub runs_from_gap : (n v : ℕ) (p : Values) → p v ≡ false → runs_from (suc n) v p ≡ runs_from n (v + 1) p
unfolding runs_from
runs_from_gap n v p e = cond-false (p v) _ _ e

-- a value whose neighbour above is in the set too
runs_from_more : (n v : ℕ) (p : Values) → p v ≡ true → p (v + 1) ≡ true → runs_from (suc n) v p ≡ begun_at v (runs_from n (v + 1) p)
unfolding runs_from
runs_from_more n v p here next = cond-true (p v) _ _ here ∙ cond-true (p (v + 1)) _ _ next

-- a value whose neighbour above is not
runs_from_last : (n v : ℕ) (p : Values) → p v ≡ true → p (v + 1) ≡ false → runs_from (suc n) v p ≡ one v ∷ runs_from n (v + 1) p
unfolding runs_from
runs_from_last n v p here next = cond-true (p v) _ _ here ∙ cond-false (p (v + 1)) _ _ next

runs_from_zero : (v : ℕ) (p : Values) → runs_from zero v p ≡ []
unfolding runs_from
runs_from_zero v p = refl

-- no run where there is no value
pub none_from : (n v : ℕ) (p : Values) → ((w : ℕ) → v ≤ w → p w ≡ false) → runs_from n v p ≡ []
none_from zero v p none = runs_from_zero v p
none_from (suc n) v p none = runs_from_gap n v p (none v (omega arith)) ∙ none_from n (v + 1) p (λ w h. none w (omega arith))

-- where no number from v + n on is in the set, those below are all
pub runs_from_wider : (m n v : ℕ) (p : Values) → ((w : ℕ) → v + n ≤ w → p w ≡ false) → runs_from (n + m) v p ≡ runs_from n v p
unfolding runs_from
runs_from_wider m zero v p none = none_from (0 + m) v p (λ w h. none w (omega arith)) ∙ sym (runs_from_zero v p)
runs_from_wider m (suc n) v p none =
    ap (λ k. runs_from k v p) (suc-add n m)
    ∙ ap (λ above. cond (p v) (cond (p (v + 1)) (begun_at v above) (one v ∷ above)) above)
    (runs_from_wider m n (v + 1) p (λ w h. none w (omega arith)))

-- k numbers that are not in the set are passed over
gap_from : (k n v : ℕ) (p : Values) → ((w : ℕ) → v ≤ w → w < v + k → p w ≡ false) → runs_from (k + n) v p ≡ runs_from n (v + k) p
gap_from zero n v p gap = ap₂ (λ m w. runs_from m w p) (omega arith) (omega arith)
gap_from (suc k) n v p gap =
    ap (λ m. runs_from m v p) (suc-add k n) ∙ runs_from_gap (k + n) v p (gap v (omega arith) (omega arith))
    ∙ gap_from k n (v + 1) p (λ w h l. gap w (omega arith) (omega arith)) ∙ ap (λ w. runs_from n w p) (omega arith)

-- the run from v to v + k, and then what stands above it
run_from : (k n v : ℕ) (p : Values) → ((w : ℕ) → v ≤ w → w ≤ v + k → p w ≡ true) → p (v + k + 1) ≡ false
    → runs_from (suc (k + n)) v p ≡ record { low = v; high = v + k } ∷ runs_from n (v + k + 1) p
run_from zero n v p here ends =
    let at : v + 0 ≡ v = omega arith in
    let same : 0 + n ≡ n = omega arith in
    ap (λ m. runs_from (suc m) v p) same ∙ runs_from_last n v p (here v (omega arith) (omega arith)) (ap (λ w. p (w + 1)) (sym at) ∙ ends)
    ∙ ap (λ w. record { low = v; high = w } ∷ runs_from n (w + 1) p) (sym at)
run_from (suc k) n v p here ends =
    let at : v + 1 + k ≡ v + suc k = omega arith in
    let above = run_from k n (v + 1) p (λ w h l. here w (omega arith) (omega arith)) (ap (λ w. p (w + 1)) at ∙ ends) in
    ap (λ m. runs_from (suc m) v p) (suc-add k n) ∙ runs_from_more (suc (k + n)) v p (here v (omega arith) (omega arith)) (here (v + 1) (omega arith) (omega arith))
    ∙ ap (begun_at v) above ∙ ap (λ w. record { low = v; high = w } ∷ runs_from n (w + 1) p) at

-- the next run at or above `from` is the first of the list, and the others lie two numbers past its end or above
pub next_is_first : (span from : ℕ) (p : Values) (run : Run) → ((v : ℕ) → p v ≡ true → v < span) → RunAfter p from run
    → runs_from (span - from) from p ≡ run ∷ runs_from (span - (run.high + 2)) (run.high + 2) p
next_is_first span from p run inside next =
    let above = next.above in
    let forward = next.forward in
    let within : run.high < span = inside run.high (next.filled run.high forward (omega arith)) in
    let k = run.high - run.low in
    let n = span - (run.high + 1) in
    let high_is : run.low + k ≡ run.high = omega arith in
    ap (λ m. runs_from m from p) (omega arith)
    ∙ gap_from (run.low - from) (suc (k + n)) from p (λ w h l. next.gap w h (omega arith))
    ∙ ap (λ v. runs_from (suc (k + n)) v p) (omega arith)
    ∙ run_from k n run.low p (λ w h l. next.filled w h (omega arith)) (ap (λ v. p (v + 1)) high_is ∙ next.ends)
    ∙ ap (λ v. record { low = run.low; high = v } ∷ runs_from n (v + 1) p) high_is
    ∙ ap (λ runs. run ∷ runs) (past n (run.high + 1) next.ends ∙ ap₂ (λ m v. runs_from m v p) (omega arith) (omega arith))
  where
    -- the number after a run may be left out
    past : (n v : ℕ) → p v ≡ false → runs_from n v p ≡ runs_from (n - 1) (v + 1) p
    past zero v gone = runs_from_zero v p ∙ sym (runs_from_zero (v + 1) p)
    past (suc n) v gone = runs_from_gap n v p gone ∙ ap (λ m. runs_from m (v + 1) p) (omega arith)

-- ---- what the list has

-- a list that begins with a value of the set begins with a run from it
begins : (n v : ℕ) (p : Values) → p v ≡ true → (high : ℕ) × (runs : List Run) × (runs_from (suc n) v p ≡ record { low = v; high = high } ∷ runs) × (v ≤ high)
begins zero v p here =
    ⊎_elim
    (λ next. (v, [], runs_from_more zero v p here next ∙ ap (begun_at v) (runs_from_zero (v + 1) p), omega arith))
    (λ last. (v, runs_from zero (v + 1) p, runs_from_last zero v p here last, omega arith))
    (cases_Bool (p (v + 1)))
begins (suc n) v p here =
    ⊎_elim
    (λ next.
    let above = begins n (v + 1) p next in
    (above.0, above.1, runs_from_more (suc n) v p here next ∙ ap (begun_at v) above.2, omega (arith, above.3)))
    (λ last. (v, runs_from (suc n) (v + 1) p, runs_from_last (suc n) v p here last, omega arith))
    (cases_Bool (p (v + 1)))

-- one number more before the runs of those above it
covers_more : (n v : ℕ) (p : Values) (w : ℕ) → p v ≡ true → p (v + 1) ≡ true → in_some (begun_at v (runs_from n (v + 1) p)) w ≡ (eqb w v || in_some (runs_from n (v + 1) p) w)
covers_more zero v p w here next = ap (λ runs. in_some (begun_at v runs) w) (runs_from_zero (v + 1) p) ∙ one_value ∙ ap (λ runs. eqb w v || in_some runs w) (sym (runs_from_zero (v + 1) p))
  where
    one_value : (in_run (one v) w || false) ≡ (eqb w v || false)
    one_value = grind (arith, nat_tests)
covers_more (suc n) v p w here next =
    let above = begins n (v + 1) p next in
    ap (λ runs. in_some (begun_at v runs) w) above.2 ∙ wider above.0 above.3 (in_some above.1 w) ∙ ap (λ runs. eqb w v || in_some runs w) (sym above.2)
  where
    wider : (high : ℕ) → v + 1 ≤ high → (rest : Bool) → (in_run (record { low = v; high = high }) w || rest) ≡ (eqb w v || (in_run (record { low = v + 1; high = high }) w || rest))
    wider high h rest = grind (arith, nat_tests)

-- the runs have the values of the set among the n numbers from v on, and no others
pub runs_cover : (n v : ℕ) (p : Values) (w : ℕ) → in_some (runs_from n v p) w ≡ (p w && (leb v w && ltb w (v + n)))
runs_cover zero v p w = ap (λ runs. in_some runs w) (runs_from_zero v p) ∙ nothing
  where
    nothing : false ≡ (p w && (leb v w && ltb w (v + 0)))
    nothing = grind (arith, nat_tests)
runs_cover (suc n) v p w =
    let above = runs_cover n (v + 1) p w in
    ⊎_elim
    (λ here. ⊎_elim
    (λ next. ap (λ runs. in_some runs w) (runs_from_more n v p here next) ∙ covers_more n v p w here next ∙ ap (λ b. eqb w v || b) above ∙ joined here)
    (λ last. ap (λ runs. in_some runs w) (runs_from_last n v p here last) ∙ ap (λ b. in_run (one v) w || b) above ∙ apart here)
    (cases_Bool (p (v + 1))))
    (λ gap. ap (λ runs. in_some runs w) (runs_from_gap n v p gap) ∙ above ∙ passed gap)
    (cases_Bool (p v))
  where
    joined : p v ≡ true → (eqb w v || (p w && (leb (v + 1) w && ltb w (v + 1 + n)))) ≡ (p w && (leb v w && ltb w (v + suc n)))
    joined here = at_or_above (λ e. ap p e ∙ here)
      where
        at_or_above : (w ≡ v → p w ≡ true) → (eqb w v || (p w && (leb (v + 1) w && ltb w (v + 1 + n)))) ≡ (p w && (leb v w && ltb w (v + suc n)))
        at_or_above there = grind (arith, nat_tests, there)

    apart : p v ≡ true → (in_run (one v) w || (p w && (leb (v + 1) w && ltb w (v + 1 + n)))) ≡ (p w && (leb v w && ltb w (v + suc n)))
    apart here = grind (arith, nat_tests)

    passed : p v ≡ false → (p w && (leb (v + 1) w && ltb w (v + 1 + n))) ≡ (p w && (leb v w && ltb w (v + suc n)))
    passed gap = grind (arith, nat_tests)

-- a run takes up its values and the number after it, which is in none
pub runs_few : (n v : ℕ) (p : Values) → (2 * length (runs_from n v p) ≤ n + 1) × (p v ≡ false → 2 * length (runs_from n v p) ≤ n)
runs_few zero v p = let none = ap length (runs_from_zero v p) in (omega arith, λ _. omega arith)
runs_few (suc n) v p =
    let above = runs_few n (v + 1) p in
    ⊎_elim
    (λ here. (
      ⊎_elim
          (λ next.
          let longer = ap length (runs_from_more n v p here next) in
          omega (arith, begun_at_length v (runs_from n (v + 1) p), above.0))
          (λ last.
          let longer = ap length (runs_from_last n v p here last) in
          omega (arith, above.1 last))
          (cases_Bool (p (v + 1))),
      λ gone. absurd (both_ways (p v) gone here),
    ))
    (λ gap.
    let same = ap length (runs_from_gap n v p gap) in
    (omega (arith, above.0), λ _. omega (arith, above.0)))
    (cases_Bool (p v))
  where
    begun_at_length : (v : ℕ) (runs : List Run) → (length (begun_at v runs) ≡ 1) ⊎ (length (begun_at v runs) ≡ length runs)
    begun_at_length v [] = inl refl
    begun_at_length v (run ∷ runs) = inr refl

-- ---- how runs are written

-- runs that are written after others: each with a space before it
abbrev pub others_text : List Run → List ℕ
others_text [] = []
others_text (run ∷ runs) = 32 ∷ run_text run ++ others_text runs

-- the first run, and then the others
pub text_of_first : (run : Run) (runs : List Run) → run_text run ++ others_text runs ≡ list_text (run ∷ runs)
text_of_first run [] = append-nil (run_text run)
text_of_first run (next ∷ runs) = ap (λ text. run_text run ++ (32 ∷ text)) (text_of_first next runs)
