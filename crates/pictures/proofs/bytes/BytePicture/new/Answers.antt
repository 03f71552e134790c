use Rattle.std.proofs.Common.{refl, ap, ◌∙◌, arith}
use Rattle.pictures.specs.Grids.{grid_showing}
use Rattle.pictures.proofs.Grids.{grid-given}
use Rattle.pictures.proofs.bytes.BytePicture.new.Goals as goal

pub returns : goal.returns
returns c =
    let s = c.new.result in
    let bs = c.args.bytes.now in
    let e = c.new.ensures.samples in
    ap (grid_showing s.grid) e ∙ grid-given c.args.columns s bs bs e refl c.new.ensures.columns c.new.ensures.rows (λ i. omega (arith, c.type_inv.bytes i))
