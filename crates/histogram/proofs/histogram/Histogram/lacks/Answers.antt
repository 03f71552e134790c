use Rattle.std.proofs.Common.{◌∙◌, rules}
use Rattle.histogram.specs.Lacks.{Covers, Lacks}
use Rattle.histogram.proofs.Lacks.{lacking-at, lacking-none}
use Rattle.histogram.proofs.histogram.Histogram.lacks.Goals as goal

pub returns-in_err-level-clause-value : goal.returns-in_err-level-clause-value
returns-in_err-level-clause-value c =
    let l : Covers c.args.self.now.counts c.args.wanted.now.counts = search rules in
    c.from_residual.ensures ∙ lacking-none c.args.self.now.counts c.args.wanted.now.counts l

pub returns-clause-value : goal.returns-clause-value
returns-clause-value c =
    let l : Lacks c.args.self.now.counts c.args.wanted.now.counts c.in_ok-level.level = search rules in
    lacking-at c.args.self.now.counts c.args.wanted.now.counts c.in_ok-level.level l
