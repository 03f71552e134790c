use Rattle.std.proofs.Common.{rules}
use Rattle.cut_sets.specs.Painted.{Paints}
use Rattle.cut_sets.specs.Sets.{bands_of}
use Rattle.cut_sets.proofs.Paints.{painted-is}
use Rattle.cut_sets.proofs.cut_set.CutSet.level_of.Goals as goal

pub returns-clause-value : goal.returns-clause-value
returns-clause-value c =
    let w : Paints (bands_of c.args.self.now) c.args.level c.unwrap_or.result.now.level = search rules in
    painted-is (bands_of c.args.self.now) c.args.level _ w
