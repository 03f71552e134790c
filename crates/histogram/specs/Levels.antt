-- A number for each of the 256 levels. Shut, so that no search writes out 256 places; its laws are in the proofs.
use Rattle.std.specs.Prelude.{ℕ, List, map, replicate}
use Rattle.std.specs.List.{range_with_len}

unfoldable pub each : (ℕ → ℕ) → List ℕ
each f = map f (range_with_len 0 256)

unfoldable pub zeros : List ℕ
zeros = replicate 256 0
