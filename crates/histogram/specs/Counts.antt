-- A histogram: how many pixels there are of each level, as a list of 256 numbers.
use Rattle.std.specs.Prelude.{ℕ, ◌+◌, ◌-◌, List, length, count_by, filter, nat_eq, nat_lt, slice_index}
use Rattle.std.specs.List.{range_with_len}
use Rattle.histogram.specs.Levels.{each}

-- How many pixels of level j a list of pixels has.
abbrev pub count : List ℕ → ℕ → ℕ
count xs j = count_by (λ v. nat_eq v j) xs

-- The histogram of a list of pixels.
abbrev pub histogram_of : List ℕ → List ℕ
histogram_of xs = each (λ j. count xs j)

-- Level by level, one histogram on top of another.
abbrev pub added : List ℕ → List ℕ → List ℕ
added h k = each (λ j. slice_index h j + slice_index k j)

-- Level by level, one histogram off another, which has at least as many pixels of each level.
abbrev pub removed : List ℕ → List ℕ → List ℕ
removed h k = each (λ j. slice_index h j - slice_index k j)

-- The occupied levels, those with a pixel, from low to high.
unfoldable pub occupied : List ℕ → List ℕ
occupied h = filter (λ j. nat_lt 0 (slice_index h j)) (range_with_len 0 256)

-- The lowest and the highest occupied level, LO and UP; 0 where none is occupied.
abbrev pub lowest : List ℕ → ℕ
lowest h = slice_index (occupied h) 0

abbrev pub highest : List ℕ → ℕ
highest h = slice_index (occupied h) (length (occupied h) - 1)
