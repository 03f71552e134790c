-- How many levels are occupied, and between which they lie.
use Rattle.std.specs.Prelude.{ℕ, ◌-◌, List, length, slice_index}
use Rattle.histogram.specs.declared.histogram.Extent.{Extent}
use Rattle.histogram.specs.Counts.{occupied}

abbrev pub extent_by : List ℕ → Extent
extent_by os = record { occupied = length os; lowest = slice_index os 0; highest = slice_index os (length os - 1) }

abbrev pub extent_of : List ℕ → Extent
extent_of h = extent_by (occupied h)
