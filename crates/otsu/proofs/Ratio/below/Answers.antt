use Rattle.std.proofs.Common.{arith}
use Rattle.otsu.proofs.Ratios.{by-remainders, by-wholes}
use Rattle.otsu.proofs.Ratio.below.Goals as goal

pub returns-then-whole-other_whole : goal.returns-then-whole-other_whole
returns-then-whole-other_whole c = by-remainders c.args.self.num c.args.self.den c.args.other.num c.args.other.den c.if-whole-other_whole.true

pub returns-else-whole-other_whole : goal.returns-else-whole-other_whole
returns-else-whole-other_whole c = by-wholes c.args.self.num c.args.self.den c.args.other.num c.args.other.den (omega arith) (omega arith) c.if-whole-other_whole.false
