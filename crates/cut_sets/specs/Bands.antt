-- Bands of levels.
use Rattle.std.specs.Prelude.{ℕ, ◌+◌, ◌-◌, ◌<◌, ◌≤◌, cond, ◌&&◌, List, length, Some, None, Option, nat_le, slice_index_or}
use Rattle.histogram.specs.Totals.{count_of}
use Rattle.histogram.specs.Means.{mean_level}
use Rattle.cut_sets.specs.declared.band.Band.{Band}

abbrev pub band : ℕ → ℕ → ℕ → ℕ → Band
band low high level count = record { low = low; high = high; level = level; count = count }

-- What stands at a place that no band was put into.
abbrev pub no_band : Band
no_band = band 0 0 0 0

abbrev pub band_at : List Band → ℕ → Band
band_at bs i = slice_index_or bs i no_band

-- The band of the levels from a to b, with the level nearest to the mean of its pixels.
abbrev pub mean_band_of : List ℕ → ℕ → ℕ → Band
mean_band_of h a b = band a b (mean_level h a b) (count_of h a b)

-- A band by its number, counted from 1; an absent one is none.
abbrev pub numbered : List Band → ℕ → Option Band
numbered bs n = cond (nat_le 1 n && nat_le n (length bs)) (Some (band_at bs (n - 1))) None

-- The levels of the first c bands lie inside them.
abbrev pub Inside : ℕ → List Band → Type 0
Inside c bs = (i : ℕ) → i < c → ((band_at bs i).low ≤ (band_at bs i).level) × ((band_at bs i).level ≤ (band_at bs i).high)

-- The first c bands rise: each ends below the next.
abbrev pub Rising : ℕ → List Band → Type 0
Rising c bs = (i : ℕ) → i + 1 < c → (band_at bs i).high < (band_at bs (i + 1)).low

-- The first c bands are a cut set of c classes.
pub record Cuts (c : ℕ) (bs : List Band) : Type 0 where
  pub some : 2 ≤ c
  pub few : c ≤ 8
  pub inside : Inside c bs
  pub rising : Rising c bs
