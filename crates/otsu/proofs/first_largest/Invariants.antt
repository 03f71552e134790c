use Rattle.std.proofs.Common.{◌≡◌}
use Rattle.otsu.specs.Otsu.{Otsu, top, bottom}
use Rattle.otsu.proofs.Choice.{Parted}
use Rattle.otsu.proofs.first_largest.Given as goal

abbrev pub invariant-loop-k : goal.invariant-loop-k
invariant-loop-k l =
    Parted l.tally l.k l.classes
    × Otsu l.tally l.fn.extent.lowest l.k l.best
    × (l.most.num ≡ top l.tally l.best)
    × (l.most.den ≡ bottom l.tally l.best)
