use Rattle.std.proofs.Common.{rules, [], ◌∷◌, ◌++◌, ap, sym, ◌∙◌}
use mathlib.Core.List.{append_assoc}
use Rattle.std.proofs.Output.{has_written_append}
use Rattle.rows.specs.Runs.{run_text, runs_left, list_text}
use Rattle.rows.proofs.RunLists.{others_text, text_of_first}
use Rattle.rows.proofs.listing.ListedDisplay.fmt.Goals as goal
use Rattle.rows.proofs.listing.ListedDisplay.fmt.Goals.{in-Some+in_ok-write, in_default}

pub loop-run-init : goal.loop-run-init
loop-run-init g c plain =
    let left = runs_left g.R.Row.SPAN g.R.Row.values in
    let passed = c.into_iter-run-iterator.ensures.into_iter_gives in
    elim c.match-next.branch [
      | in-Some+in_ok-write w ↦
          let first = w.in-Some.first in (
            run_text first,
            search rules,
            ap (λ it. run_text first ++ others_text (left it)) passed ∙ text_of_first first (left c.next.new.self)
                ∙ ap list_text (sym w.in-Some.ensures.steps ∙ c.runs_of-runs.ensures),
          )
      | in_default w ↦
          let none = w.in_default.ensures.steps in (
            [],
            search rules,
            ap (λ it. others_text (left it)) passed ∙ ap others_text none.1 ∙ ap list_text (sym none.0 ∙ c.runs_of-runs.ensures),
          )
    ]

pub loop-run-preserved : goal.loop-run-preserved
loop-run-preserved g c plain =
    let before = c.loop-run.invariant plain in
    let run = c.in-Some-run.run' in (
      before.0 ++ (32 ∷ run_text run),
      has_written_append _ _ _ _ _ _ before.1 (search rules),
      append_assoc before.0 (32 ∷ run_text run) _ ∙ ap (λ runs. before.0 ++ others_text runs) (sym c.in-Some-run.ensures.steps) ∙ before.2,
    )
