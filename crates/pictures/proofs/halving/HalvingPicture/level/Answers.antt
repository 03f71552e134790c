use Rattle.std.proofs.Common.{ℕ, Some, ap, ◌∙◌, arith}
use Rattle.pictures.proofs.Layers.{halved-some}
use Rattle.pictures.proofs.halving.HalvingPicture.level.Goals as goal

pub returns-in_ok-d : goal.returns-in_ok-d
returns-in_ok-d g c =
    ap (λ (v : ℕ). Some v) c.quarter.ensures
    ∙ halved-some (g.P.Picture.shown c.args.self.now.below) c.args.x c.args.y c.in_ok-a.a c.in_ok-b.b c.in_ok-c.c c.in_ok-d.d (omega arith) (omega arith)
    c.in_ok-a.ensures c.in_ok-b.ensures c.in_ok-c.ensures c.in_ok-d.ensures
