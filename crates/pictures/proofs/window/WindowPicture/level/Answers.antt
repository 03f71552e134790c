use Rattle.std.proofs.Common.{◌∙◌, arith}
use Rattle.pictures.proofs.Layers.{windowed-inside}
use Rattle.pictures.proofs.window.WindowPicture.level.Goals as goal

pub returns-then-y-rows : goal.returns-then-y-rows
returns-then-y-rows g c =
    let s = c.args.self.now in
    c.level.ensures ∙ windowed-inside s.left s.top s.columns s.rows (g.P.Picture.shown s.below) c.args.x c.args.y (omega arith) (omega arith)
