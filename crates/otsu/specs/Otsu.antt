-- Otsu's threshold of a histogram h, in whole numbers.
use Rattle.std.specs.Prelude.{ℕ, suc, ◌+◌, ◌-◌, ◌*◌, ◌<◌, ◌≤◌, Bool, cond, List, [], ◌∷◌, nat_lt}
use Rattle.std.specs.List.{range_with_len}
use Rattle.histogram.specs.Counts.{lowest, highest}
use Rattle.histogram.specs.Totals.{count_of, level_sum}
use Rattle.cut_sets.specs.declared.band.Band.{Band}
use Rattle.cut_sets.specs.Bands.{mean_band_of}

-- The two classes of a threshold k: the pixels up to k and those above, how many and the sum of their levels.
abbrev pub n0 : List ℕ → ℕ → ℕ
n0 h k = count_of h 0 k

abbrev pub s0 : List ℕ → ℕ → ℕ
s0 h k = level_sum h 0 k

abbrev pub n1 : List ℕ → ℕ → ℕ
n1 h k = count_of h (suc k) 255

abbrev pub s1 : List ℕ → ℕ → ℕ
s1 h k = level_sum h (suc k) 255

-- The criterion of k is the fraction (s0² · n1 + s1² · n0) / (n0 · n1).
abbrev pub top : List ℕ → ℕ → ℕ
top h k = s0 h k * s0 h k * n1 h k + s1 h k * s1 h k * n0 h k

abbrev pub bottom : List ℕ → ℕ → ℕ
bottom h k = n0 h k * n1 h k

-- Whether the criterion of j is above that of k, by cross products.
abbrev pub above : List ℕ → ℕ → ℕ → Bool
above h j k = nat_lt (top h k * bottom h j) (top h j * bottom h k)

-- The first of k and ks whose criterion is largest.
unfoldable pub first_largest_of : List ℕ → ℕ → List ℕ → ℕ
first_largest_of h k [] = k
first_largest_of h k (j ∷ js) = let m = first_largest_of h j js in cond (above h m k) m k

-- Otsu's threshold: the first from LO to UP - 1 whose criterion is largest.
abbrev pub otsu_level : List ℕ → ℕ
otsu_level h = first_largest_of h (lowest h) (range_with_len (lowest h + 1) (highest h - lowest h - 1))

-- The cut set of two classes, each with the level nearest to its mean.
abbrev pub otsu_bands : List ℕ → List Band
otsu_bands h = mean_band_of h (lowest h) (otsu_level h) ∷ (mean_band_of h (suc (otsu_level h)) (highest h) ∷ [])

-- In other words: k is a threshold, none has a larger criterion, and each lower one has a smaller one.
pub record Otsu (h : List ℕ) (lo up k : ℕ) : Type 0 where
  pub from : lo ≤ k
  pub under : k < up
  pub largest : (j : ℕ) → lo ≤ j → j < up → top h j * bottom h k ≤ top h k * bottom h j
  pub first : (j : ℕ) → lo ≤ j → j < k → top h j * bottom h k < top h k * bottom h j
