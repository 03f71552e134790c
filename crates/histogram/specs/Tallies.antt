-- What makes a histogram with a total a tally.
use Rattle.std.specs.Prelude.{◌≡◌, ℕ, ◌≤◌, List, length}
use Rattle.histogram.specs.Totals.{pixels}

pub record IsTally (h : List ℕ) (total : ℕ) : Type 0 where
  pub long : length h ≡ 256
  pub adds : pixels h ≡ total
  pub few : total ≤ 65536
