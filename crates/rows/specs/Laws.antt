-- What holds of every kind of row.
-- Assumes nothing.
use Rattle.std.specs.Prelude.{◌≡◌, ℕ, ◌+◌, ◌<◌, ◌≤◌, true}
use Rattle.rows.specs.Values.{Values, Same, without, how_many}

-- the laws of a kind whose records R read as sets of numbers below the span
pub record Laws (R : Type 0) (span : ℕ) (values : R → Values) : Type 0 where
  pub some_value : 0 < span
  pub few_values : span ≤ 256
  pub below_span : (r : R) (v : ℕ) → values r v ≡ true → v < span
  pub size_at_most_span : (r : R) → how_many span (values r) ≤ span
  pub equal_sets_equal_sizes : (r s : R) → Same (values r) (values s) → how_many span (values r) ≡ how_many span (values s)
  pub without_lowers_by_one : (r s : R) (v : ℕ) → values r v ≡ true → Same (values s) (without (values r) v) → how_many span (values r) ≡ how_many span (values s) + 1
