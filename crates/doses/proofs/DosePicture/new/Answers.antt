use Rattle.std.proofs.Common.{map, ap, ◌∙◌}
use Rattle.std.proofs.lemmas.List.{length-map}
use Rattle.pictures.specs.Grids.{grid_showing}
use Rattle.pictures.proofs.Grids.{grid-given}
use Rattle.doses.specs.Dose.{dose_level_of}
use Rattle.doses.proofs.Doses.{doses-low}
use Rattle.doses.proofs.DosePicture.new.Goals as goal

pub returns-clause-shown : goal.returns-clause-shown
returns-clause-shown c =
    let s = c.new.result in
    let ss = c.args.samples.now in
    let e = c.new.ensures.samples in
    ap (λ xs. grid_showing s.grid (map dose_level_of xs)) e
    ∙ grid-given c.args.columns s ss (map dose_level_of ss) e (length-map ss dose_level_of) c.new.ensures.columns c.new.ensures.rows (doses-low ss)
