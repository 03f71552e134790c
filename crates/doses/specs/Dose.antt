-- Dose pictures: which level a float sample has, and which samples are clipped.
-- A float is not a number (nan), infinite (inf) or finite (fin), the last two with a sign, true for minus.
-- The size of fin s m e is m times the fraction up e / down e, a power of two.
use Rattle.std.specs.Prelude.{ℕ, ◌*◌, ◌/◌, Bool, true, false, cond, not, ◌&&◌, ◌||◌, List, map, nat_le, nat_lt, Float}
use Rattle.std.specs.Float.{nan, inf, fin}
use Rattle.std.specs.Float.Ieee.{up, down}
use Rattle.pictures.specs.Raster.{Raster}
use Rattle.pictures.specs.Bytes.{byte_raster}

-- Not a number, or below 0. Minus zero is not below 0.
abbrev pub too_low : Float → Bool
too_low nan = true
too_low (inf minus) = minus
too_low (fin minus m e) = minus && nat_lt 0 m

-- 256 or more.
abbrev pub too_high : Float → Bool
too_high nan = false
too_high (inf minus) = not minus
too_high (fin minus m e) = not minus && nat_le (256 * down e) (m * up e)

abbrev pub clips : Float → Bool
clips x = too_low x || too_high x

-- The size without its fraction.
abbrev pub whole_part : Float → ℕ
whole_part nan = 0
whole_part (inf minus) = 0
whole_part (fin minus m e) = m * up e / down e

-- The level of a sample: clipped to 0 or 255, or else the sample without its fraction.
abbrev pub dose_level_of : Float → ℕ
dose_level_of x = cond (too_low x) 0 (cond (too_high x) 255 (whole_part x))

-- The picture of some samples for a column count.
abbrev pub dose_raster : ℕ → List Float → Raster
dose_raster c ss = byte_raster c (map dose_level_of ss)
