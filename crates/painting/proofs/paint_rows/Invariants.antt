use Rattle.std.proofs.Common.{◌+◌, ◌*◌}
use Rattle.cut_sets.specs.Painted.{painted}
use Rattle.cut_sets.specs.Sets.{bands_of}
use Rattle.painting.proofs.Rows.{Written}
use Rattle.painting.proofs.paint_rows.Given as goal

abbrev pub invariant-loop-x : goal.invariant-loop-x
invariant-loop-x g l = Written (painted (bands_of l.set)) (g.P.Picture.shown l.picture).levels l.initial.buffer l.buffer (l.y * l.columns + l.x)

abbrev pub invariant-loop-y : goal.invariant-loop-y
invariant-loop-y g l = Written (painted (bands_of l.set)) (g.P.Picture.shown l.picture).levels l.initial.buffer l.buffer (l.y * l.columns)
