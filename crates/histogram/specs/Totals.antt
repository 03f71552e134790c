-- One sum serves everything: the total, over some levels, of count times a number for the level.
use Rattle.std.specs.Prelude.{ℕ, suc, ◌-◌, ◌*◌, List, map, sum, slice_index}
use Rattle.std.specs.List.{range_with_len}

-- Over the levels from a on and below z. Shut; its laws are in the proofs.
unfoldable pub sum_of : (ℕ → ℕ) → List ℕ → ℕ → ℕ → ℕ
sum_of f h a z = sum (map (λ j. slice_index h j * f j) (range_with_len a (z - a)))

-- Over the levels from a to b.
abbrev pub total : (ℕ → ℕ) → List ℕ → ℕ → ℕ → ℕ
total f h a b = sum_of f h a (suc b)

abbrev pub one : ℕ → ℕ
one j = 1

abbrev pub level : ℕ → ℕ
level j = j

-- The pixels of the levels from a to b, and the sum of their levels.
abbrev pub count_of : List ℕ → ℕ → ℕ → ℕ
count_of h a b = total one h a b

abbrev pub level_sum : List ℕ → ℕ → ℕ → ℕ
level_sum h a b = total level h a b

-- All pixels.
abbrev pub pixels : List ℕ → ℕ
pixels h = sum_of one h 0 256
