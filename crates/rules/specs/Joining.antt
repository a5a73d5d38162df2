-- Where the rules of a joined book stand.
-- Assumes nothing.
use Rattle.std.specs.Prelude.{◌≡◌, ℕ, ◌+◌, ◌<◌, ◌≤◌, List, length, Some, None, Option}
use Rattle.rules.specs.Rules.{Rule}
use Rattle.rules.specs.declared.pair.Place.{Place}
use Rattle.rules.specs.declared.pair.Place.TheVariants.{First, Second}

-- rule k of the rules qs and then rs is told as one of qs or of rs, by its place there; none above 1,023
abbrev pub Placed : List Rule → List Rule → ℕ → Option Place → Type 0
Placed qs rs k None = 1023 < k
Placed qs rs k (Some (First j)) = (k ≤ 1023) × (j ≡ k) × (j < length qs)
Placed qs rs k (Some (Second j)) = (k ≤ 1023) × (length qs + j ≡ k)
