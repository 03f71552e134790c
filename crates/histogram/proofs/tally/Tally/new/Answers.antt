use Rattle.std.proofs.Common.{length, ap, ◌∙◌, arith}
use Rattle.histogram.specs.Totals.{pixels}
use Rattle.histogram.proofs.Eachs.{zeros-long}
use Rattle.histogram.proofs.Weights.{pixels-zeros}
use Rattle.histogram.proofs.tally.Tally.new.Goals as goal

pub invariant_of-result : goal.invariant_of-result
invariant_of-result c = record { long = ap length c.new.ensures ∙ zeros-long; adds = ap pixels c.new.ensures ∙ pixels-zeros; few = omega arith }
