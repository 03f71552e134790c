-- The sum of a cut set: the total, over the pixels in hand, of the distance from the pixel to its band's level.
use Rattle.std.specs.Prelude.{ℕ, ◌+◌, List, [], ◌∷◌}
use Rattle.histogram.specs.Totals.{total}
use Rattle.cut_sets.specs.declared.band.Band.{Band}

-- What one band adds to it.
abbrev pub band_sum_of : (ℕ → ℕ → ℕ) → List ℕ → Band → ℕ
band_sum_of d h b = total (λ j. d j b.level) h b.low b.high

abbrev pub cut_sum : (ℕ → ℕ → ℕ) → List ℕ → List Band → ℕ
cut_sum d h [] = 0
cut_sum d h (b ∷ bs) = band_sum_of d h b + cut_sum d h bs
