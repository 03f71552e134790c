use Rattle.doses.proofs.Doses.{clips-then, clips-else}
use Rattle.doses.proofs.is_clipped.Goals as goal

pub returns-then-sample : goal.returns-then-sample
returns-then-sample c = clips-then c.args.sample c.if-sample.true

pub returns-else-sample : goal.returns-else-sample
returns-else-sample c = clips-else c.args.sample c.if-sample.false
