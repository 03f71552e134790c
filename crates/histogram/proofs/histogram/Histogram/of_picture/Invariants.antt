use Rattle.std.proofs.Common.{◌≡◌, ◌+◌, ◌*◌, take}
use Rattle.histogram.specs.Counts.{histogram_of}
use Rattle.histogram.proofs.histogram.Histogram.of_picture.Given as goal

abbrev pub invariant-loop-x : goal.invariant-loop-x
invariant-loop-x g l = l.histogram.counts ≡ histogram_of (take (l.y * l.columns + l.x) (g.P.Picture.shown l.picture).levels)

abbrev pub invariant-loop-y : goal.invariant-loop-y
invariant-loop-y g l = l.histogram.counts ≡ histogram_of (take (l.y * l.columns) (g.P.Picture.shown l.picture).levels)
