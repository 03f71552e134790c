use Rattle.std.proofs.Common.{◌+◌}
use Rattle.histogram.proofs.Places.{Joined}
use Rattle.histogram.proofs.histogram.Histogram.add.Given as goal

abbrev pub invariant-loop-level : goal.invariant-loop-level
invariant-loop-level l = Joined ◌+◌ l.initial.self.counts l.count-items l.self.counts l.level
