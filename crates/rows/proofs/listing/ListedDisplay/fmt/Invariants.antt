use Rattle.std.proofs.Common.{◌≡◌, ℕ, List, ◌++◌}
use Rattle.std.specs.Fmt.{HasWritten, IsPlainFormatter}
use Rattle.rows.specs.Runs.{runs_from, runs_left, list_text}
use Rattle.rows.proofs.RunLists.{others_text}
use Rattle.rows.proofs.listing.ListedDisplay.fmt.Given as goal

-- what is written so far and the runs that are left, each with a space before it, are the text
abbrev pub invariant-loop-run : goal.invariant-loop-run
invariant-loop-run g l =
    IsPlainFormatter l.fn.f
    → (done : List ℕ) × HasWritten g.W.Write.write_str_gives l.fn.f done l.f
    × (done ++ others_text (runs_left g.R.Row.SPAN g.R.Row.values l.run-iterator) ≡ list_text (runs_from g.R.Row.SPAN 0 (g.R.Row.values l.fn.self.0)))
