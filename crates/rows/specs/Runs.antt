-- The runs of neighbouring values that a set is made of.
-- Assumes nothing.
use Rattle.std.specs.Prelude.{◌≡◌, ℕ, zero, suc, ◌+◌, ◌-◌, ◌<◌, ◌≤◌, true, false, cond, ◌&&◌, ◌||◌, List, [], ◌∷◌, ◌++◌, map, decimal, Option, MatchOption, ◌==◌, nat_le}
use Rattle.std.specs.List.{join_with_byte}
use Rattle.rows.specs.declared.run.Run.{Run}
use Rattle.rows.specs.declared.listing.RowRuns.{RowRuns}
use Rattle.rows.specs.Values.{Values}

-- one of the longest runs of neighbours in p, with no value of p between `from` and it
pub record RunAfter (p : Values) (from : ℕ) (run : Run) : Type 0 where
  pub above : from ≤ run.low
  pub gap : (v : ℕ) → from ≤ v → v < run.low → p v ≡ false
  pub forward : run.low ≤ run.high
  pub filled : (v : ℕ) → run.low ≤ v → v ≤ run.high → p v ≡ true
  pub ends : p (run.high + 1) ≡ false

-- the first run at or above `from`, or that no value is left there
abbrev pub NextRun : Values → ℕ → Option Run → Type 0
NextRun p from r = MatchOption r ((v : ℕ) → from ≤ v → p v ≡ false) (RunAfter p from)

-- how a run is written: a value alone, or low, a hyphen and high
abbrev pub run_text : Run → List ℕ
run_text run = cond (run.low == run.high) (decimal run.low) (decimal run.low ++ (45 ∷ decimal run.high))

-- the runs, the first of which begins at v already
abbrev pub begun_at : ℕ → List Run → List Run
begun_at v [] = record { low = v; high = v } ∷ []
begun_at v (run ∷ runs) = record { low = v; high = run.high } ∷ runs

-- the longest runs of p among the n numbers from v on, lowest first: a value joins the run of its neighbour above,
-- or is a run of its own
unfoldable pub runs_from : ℕ → ℕ → Values → List Run
runs_from zero v p = []
runs_from (suc n) v p =
    let above = runs_from n (v + 1) p in
    cond (p v) (cond (p (v + 1)) (begun_at v above) (record { low = v; high = v } ∷ above)) above

-- the runs of a row that are still to come, at a kind of this span
abbrev pub runs_left : {R : Type 0} → ℕ → (R → Values) → RowRuns R → List Run
runs_left span values s = runs_from (span - s.from) s.from (values s.row)

-- v lies in the run, both ends included
abbrev pub in_run : Run → Values
in_run run v = nat_le run.low v && nat_le v run.high

-- v lies in one of the runs
abbrev pub in_some : List Run → Values
in_some [] v = false
in_some (run ∷ runs) v = in_run run v || in_some runs v

-- how runs are written, with a space between each two
abbrev pub list_text : List Run → List ℕ
list_text runs = join_with_byte 32 (map run_text runs)
