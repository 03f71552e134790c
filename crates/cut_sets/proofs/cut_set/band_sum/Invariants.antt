use Rattle.std.proofs.Common.{◌≡◌, ◌<◌}
use Rattle.histogram.specs.Totals.{sum_of}
use Rattle.cut_sets.proofs.cut_set.band_sum.Given as goal

abbrev pub invariant-loop-level : goal.invariant-loop-level
invariant-loop-level g l =
    (l.sum ≡ sum_of (λ j. g.R.DistanceRule.table l.rule j l.band.level) l.tally l.band.low l.level)
    × (l.band.high < l.band.low → l.level ≡ l.band.low)
