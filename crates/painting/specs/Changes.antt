-- By how much a painting changes a picture.
use Rattle.std.specs.Prelude.{ℕ, ◌+◌, List, [], ◌∷◌}
use Rattle.histogram.specs.Totals.{sum_of}
use Rattle.cut_sets.specs.declared.band.Band.{Band}
use Rattle.cut_sets.specs.Painted.{painted}

-- The total of the distances between levels and bytes, place by place.
abbrev pub changed : (ℕ → ℕ → ℕ) → List ℕ → List ℕ → ℕ
changed d [] ys = 0
changed d (x ∷ xs) [] = 0
changed d (x ∷ xs) (y ∷ ys) = d x y + changed d xs ys

-- The total, over the pixels of a histogram, of the distances between a level and what it is painted with.
-- A picture and its painting differ by this of the picture's histogram, wherever its pixels lie.
abbrev pub change_of : (ℕ → ℕ → ℕ) → List Band → List ℕ → ℕ
change_of d bs h = sum_of (λ j. d j (painted bs j)) h 0 256
