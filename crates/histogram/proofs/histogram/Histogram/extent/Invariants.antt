use Rattle.std.proofs.Common.{◌≡◌, ◌≤◌}
use Rattle.histogram.specs.Extents.{extent_by}
use Rattle.histogram.proofs.Spans.{occupied_to}
use Rattle.histogram.proofs.histogram.Histogram.extent.Given as goal

abbrev pub invariant-loop-level : goal.invariant-loop-level
invariant-loop-level l = (l.extent ≡ extent_by (occupied_to l.count-items l.level)) × (l.extent.occupied ≤ l.level)
