-- Pictures that lie on another picture, and that each of them is sound where the one below is.
use Rattle.std.specs.Prelude.{ℕ, ◌+◌, ◌-◌, ◌*◌, ◌/◌, ◌≤◌, min}
use Rattle.std.proofs.Common.{arith}
use Rattle.pictures.specs.Raster.{Raster, Sound, place}
use Rattle.pictures.specs.Drawn.{drawn, drawn-sound}

-- A negative has 255 less the level below.
abbrev pub negated : Raster → Raster
negated p = drawn p.columns p.rows (λ x y. 255 - place p x y)

-- A window is the part from column left and row top on, of at most c columns and r rows, that lies inside.
abbrev pub windowed : ℕ → ℕ → ℕ → ℕ → Raster → Raster
windowed left top c r p = drawn (min c (p.columns - left)) (min r (p.rows - top)) (λ x y. place p (left + x) (top + y))

-- The sum of the four levels of a block of two columns and two rows.
abbrev pub block_sum : Raster → ℕ → ℕ → ℕ
block_sum p x y = place p (2 * x) (2 * y) + place p (2 * x + 1) (2 * y) + place p (2 * x) (2 * y + 1) + place p (2 * x + 1) (2 * y + 1)

-- A halving has a level for each whole block: a quarter of its sum, rounded down.
abbrev pub halved : Raster → Raster
halved p = drawn (p.columns / 2) (p.rows / 2) (λ x y. block_sum p x y / 4)

pub negated-sound : (p : Raster) → Sound p → Sound (negated p)
negated-sound p s = drawn-sound p.columns p.rows (λ x y. 255 - place p x y) s.narrow s.low (λ x y. omega arith)

pub windowed-sound : (left top c r : ℕ) (p : Raster) → Sound p → Sound (windowed left top c r p)
windowed-sound left top c r p s =
    drawn-sound (min c (p.columns - left)) (min r (p.rows - top)) (λ x y. place p (left + x) (top + y)) (omega (arith, s.narrow)) (omega (arith, s.low))
    (λ x y. s.bytes ((top + y) * p.columns + (left + x)))

quarter : (a b c d : ℕ) → a ≤ 255 → b ≤ 255 → c ≤ 255 → d ≤ 255 → (a + b + c + d) / 4 ≤ 255
quarter a b c d h i j k = omega arith

pub halved-sound : (p : Raster) → Sound p → Sound (halved p)
halved-sound p s =
    drawn-sound (p.columns / 2) (p.rows / 2) (λ x y. block_sum p x y / 4) (omega (arith, s.narrow)) (omega (arith, s.low))
    (λ x y. quarter (place p (2 * x) (2 * y)) (place p (2 * x + 1) (2 * y)) (place p (2 * x) (2 * y + 1)) (place p (2 * x + 1) (2 * y + 1)) (s.bytes _) (s.bytes _) (s.bytes _) (s.bytes _))
