use Rattle.std.proofs.Common.{◌≡◌, rules, ◌∙◌}
use Rattle.std.specs.Option.{option_map}
use Rattle.doses.specs.Dose.{dose_level_of}
use Rattle.doses.proofs.Doses.{dose-place}
use Rattle.doses.proofs.DosePicturePicture.level.Goals as goal

pub returns : goal.returns
returns c =
    let m : c.map.result ≡ option_map dose_level_of c.sample.result = search rules in
    m ∙ dose-place c.args.self.now.samples c.args.x c.args.y c.sample.result c.sample.ensures
