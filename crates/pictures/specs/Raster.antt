-- What a picture means: its columns, its rows, and its levels row by row.
use Rattle.std.specs.Prelude.{◌≡◌, ℕ, ◌+◌, ◌*◌, ◌≤◌, cond, ◌&&◌, List, length, Some, None, Option, nat_lt, slice_index}

pub record Raster : Type 0 where
  pub columns : ℕ
  pub rows : ℕ
  pub levels : List ℕ

-- A raster is a picture: at most 4,096 columns and rows, a level at each place, none above 255.
pub record Sound (p : Raster) : Type 0 where
  pub narrow : p.columns ≤ 4096
  pub low : p.rows ≤ 4096
  pub whole : length p.levels ≡ p.columns * p.rows
  pub bytes : (i : ℕ) → slice_index p.levels i ≤ 255

abbrev pub raster : ℕ → ℕ → List ℕ → Raster
raster c r l = record { columns = c; rows = r; levels = l }

-- The level at column x of row y, where that is inside.
abbrev pub place : Raster → ℕ → ℕ → ℕ
place p x y = slice_index p.levels (y * p.columns + x)

-- The level at column x of row y; none outside.
abbrev pub level_at : Raster → ℕ → ℕ → Option ℕ
level_at p x y = cond (nat_lt x p.columns && nat_lt y p.rows) (Some (place p x y)) None

-- How many pixels there are.
abbrev pub size : Raster → ℕ
size p = length p.levels
