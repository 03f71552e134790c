-- Byte pictures.
use Rattle.std.specs.Prelude.{ℕ, ◌+◌, ◌*◌, ◌/◌, min, cond, List, length, take, nat_le, nat_lt, slice_index}
use Rattle.std.proofs.Common.{arith}
use Rattle.pictures.specs.Raster.{Raster, Sound, raster}
use Rattle.pictures.specs.Drawn.{drawn, drawn-sound}

-- A column count of 0 or above 4,096 makes a picture without columns.
abbrev pub columns_given : ℕ → ℕ
columns_given c = cond (nat_le c 4096) c 0

-- The whole rows of c columns that n bytes hold, at most 4,096; without columns there are none.
abbrev pub whole_rows : ℕ → ℕ → ℕ
whole_rows c n = cond (nat_lt 0 c) (min 4096 (n / c)) 0

-- The first bytes, as whole rows of k columns.
abbrev pub rows_of : ℕ → List ℕ → Raster
rows_of k bs = raster k (whole_rows k (length bs)) (take (k * whole_rows k (length bs)) bs)

-- The picture of some bytes for a column count.
abbrev pub byte_raster : ℕ → List ℕ → Raster
byte_raster c bs = rows_of (columns_given c) bs

-- What c columns and r rows over some levels mean, whatever the numbers. What `new` answers means `byte_raster`.
abbrev pub showing : ℕ → ℕ → List ℕ → Raster
showing c r bs = drawn (min c 4096) (min r 4096) (λ x y. min 255 (slice_index bs (y * min c 4096 + x)))

pub showing-sound : (c r : ℕ) (bs : List ℕ) → Sound (showing c r bs)
showing-sound c r bs = drawn-sound (min c 4096) (min r 4096) (λ x y. min 255 (slice_index bs (y * min c 4096 + x))) (omega arith) (omega arith) (λ x y. omega arith)
