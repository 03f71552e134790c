use Rattle.pictures.proofs.Layers.{negated-some}
use Rattle.pictures.proofs.negative.NegativePicture.level.Goals as goal

pub returns : goal.returns
returns g c = negated-some (g.P.Picture.shown c.args.self.now.below) c.args.x c.args.y c.in_ok-level.level c.in_ok-level.ensures
