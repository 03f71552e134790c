use Rattle.histogram.proofs.Eachs.{zeros-is}
use Rattle.histogram.proofs.histogram.Histogram.new.Goals as goal

pub returns : goal.returns
returns c = zeros-is
