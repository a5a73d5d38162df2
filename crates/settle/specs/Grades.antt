-- How a grade is written.
-- Assumes nothing.
use Rattle.std.specs.Prelude.{ℕ, List, codes}
use Rattle.settle.specs.declared.outcome.Grade.{Grade}
use Rattle.settle.specs.declared.outcome.Grade.TheVariants.{Exact, Local, Nothing}

-- the word for a grade, as bytes
abbrev pub grade_word : Grade → List ℕ
grade_word Exact = codes "exact"
grade_word Local = codes "local"
grade_word Nothing = codes "none"
