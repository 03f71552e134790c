use Rattle.std.proofs.Common.{◌+◌, arith, rules}
use Rattle.histogram.proofs.Places.{joined-none, joined-more, joined-all}
use Rattle.histogram.proofs.histogram.Histogram.add.Goals as goal

pub loop-level-init : goal.loop-level-init
loop-level-init c = joined-none ◌+◌ c.args.self.now.counts c.args.more.now.counts (search rules)

pub loop-level-preserved : goal.loop-level-preserved
loop-level-preserved c = joined-more ◌+◌ c.args.self.now.counts c.args.more.now.counts c.loop-level.self.counts c.loop-level.level _ (omega arith) (omega arith) c.loop-level.invariant

pub returns : goal.returns
returns c = joined-all ◌+◌ c.args.self.now.counts c.args.more.now.counts c.loop-level.self.counts c.loop-level.level (omega arith) c.loop-level.invariant
