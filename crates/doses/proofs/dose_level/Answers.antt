use Rattle.std.proofs.Common.{◌∙◌}
use Rattle.doses.proofs.Doses.{level-test}
use Rattle.doses.proofs.dose_level.Goals as goal

pub returns : goal.returns
returns c = c.saturating_f32_to_u8.ensures ∙ level-test c.args.sample
