use Rattle.std.proofs.Common.{◌≡◌, ◌<◌}
use Rattle.histogram.specs.Totals.{sum_of, one, level}
use Rattle.histogram.proofs.tally.Tally.sums.Given as goal

abbrev pub invariant-loop-level : goal.invariant-loop-level
invariant-loop-level l =
    (l.count ≡ sum_of one l.self-inside.histogram.counts l.low l.level)
    × (l.levels ≡ sum_of level l.self-inside.histogram.counts l.low l.level)
    × (l.high < l.low → l.level ≡ l.low)
