-- What painting writes, and when it is refused.
use Rattle.std.specs.Prelude.{ℕ, cond, List, ◌++◌, map, length, drop, Ok, Err, Result, nat_lt}
use Rattle.pictures.specs.Raster.{Raster, size}
use Rattle.cut_sets.specs.declared.band.Band.{Band}
use Rattle.cut_sets.specs.Painted.{painted}
use Rattle.faults.specs.declared.ShortBuffer.{ShortBuffer}

-- A buffer after a picture was painted into it: a byte for each pixel, row by row, and behind them what was there.
abbrev pub painted_over : List Band → Raster → List ℕ → List ℕ
painted_over bs p b = map (painted bs) p.levels ++ drop (size p) b

-- Refused where the buffer has fewer bytes than the picture has pixels, with the bytes needed.
abbrev pub answer_to : Raster → List ℕ → Result (Unit {0}) ShortBuffer
answer_to p b = cond (nat_lt (length b) (size p)) (Err (record { needed = size p })) (Ok tt)
