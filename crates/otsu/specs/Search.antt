-- What the search for Otsu's threshold is given.
use Rattle.std.specs.Prelude.{◌≡◌, ℕ, ◌<◌, List, slice_index}
use Rattle.histogram.specs.Totals.{count_of}

-- lo and up are the lowest and the highest occupied level, and differ.
pub record Range (h : List ℕ) (lo up : ℕ) : Type 0 where
  pub apart : lo < up
  pub level : up < 256
  pub none_below : count_of h 0 lo ≡ slice_index h lo
  pub at_lo : 0 < slice_index h lo
  pub at_up : 0 < slice_index h up
