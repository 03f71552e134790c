-- The level nearest to a mean.
use Rattle.std.specs.Prelude.{ℕ, ◌+◌, ◌-◌, ◌*◌, ◌/◌, ◌<◌, ◌≤◌, List}
use Rattle.histogram.specs.Totals.{count_of, level_sum}

-- The level nearest to s / n, the lower one at a half.
abbrev pub nearest_level : ℕ → ℕ → ℕ
nearest_level n s = (2 * s + n - 1) / (2 * n)

-- In other words: s / n is at most a half above v, and less than a half below it.
pub record Nearest (n s v : ℕ) : Type 0 where
  pub above : 2 * s ≤ 2 * (n * v) + n
  pub below : 2 * (n * v) < 2 * s + n

-- The level nearest to the mean of the pixels of the levels from a to b.
abbrev pub mean_level : List ℕ → ℕ → ℕ → ℕ
mean_level h a b = nearest_level (count_of h a b) (level_sum h a b)
