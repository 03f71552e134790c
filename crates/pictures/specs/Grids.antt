-- Samples in the caller's memory as whole rows: where the sample of a place stands, and what the rows mean.
use Rattle.std.specs.Prelude.{ℕ, ◌+◌, ◌*◌, cond, ◌&&◌, List, Some, None, Option, nat_lt}
use Rattle.std.specs.List.{slice_get}
use Rattle.pictures.specs.declared.grid.Grid.{Grid}
use Rattle.pictures.specs.declared.grid.Samples.{Samples}
use Rattle.pictures.specs.Raster.{Raster, Sound}
use Rattle.pictures.specs.Bytes.{showing, showing-sound}

-- The number of a place, counted row by row; none outside.
abbrev pub index_in : Grid → ℕ → ℕ → Option ℕ
index_in g x y = cond (nat_lt x g.columns && nat_lt y g.rows) (Some (y * g.columns + x)) None

-- The sample at a place; none outside.
abbrev pub sample_in : {S : Type 0} → Samples S → ℕ → ℕ → Option S
sample_in s x y = cond (nat_lt x s.grid.columns && nat_lt y s.grid.rows) (slice_get s.samples.now (y * s.grid.columns + x)) None

-- What the rows of a grid mean whose samples have some levels.
abbrev pub grid_showing : Grid → List ℕ → Raster
grid_showing g ls = showing g.columns g.rows ls

pub grid_showing-sound : (g : Grid) (ls : List ℕ) → Sound (grid_showing g ls)
grid_showing-sound g ls = showing-sound g.columns g.rows ls
