use Rattle.std.proofs.Common.{arith}
use Rattle.pictures.proofs.Places.{never-none}
use Rattle.histogram.proofs.Walks.{seen}
use Rattle.cut_sets.specs.Painted.{painted}
use Rattle.cut_sets.specs.Sets.{bands_of}
use Rattle.painting.proofs.Rows.{written-pixel, written_row, written_all}
use Rattle.painting.proofs.paint_rows.Goals as goal
use Rattle.painting.proofs.paint_rows.Goals.{in-Some, in_default}

pub bounds-buffer-start : goal.bounds-buffer-start
bounds-buffer-start g c =
    let p = c.args.picture.now in
    let a = seen (g.P.Picture.shown p) (g.met.P.Picture.sound p) c.columns-columns.result c.loop-x.x c.loop-y.y c.in-Some.level c.columns-columns.ensures c.in-Some.ensures in
    omega (arith, a.within, c.requires)

pub loop-x-preserved : goal.loop-x-preserved
loop-x-preserved g c =
    let p = g.P.Picture.shown c.args.picture.now in
    let f = painted (bands_of c.args.set.now) in
    elim c.match-level.branch [
      | in-Some w ↦ written-pixel f p (g.met.P.Picture.sound c.args.picture.now) c.columns-columns.result c.loop-x.x c.loop-y.y w.in-Some.level c.columns-columns.ensures w.in-Some.ensures
          c.new-palette.result.levels w.level_of.result c.new-palette.ensures w.level_of.ensures
          c.loop-y.buffer c.loop-x.buffer c.match-level.buffer (omega (arith, c.requires)) w.buffer-is c.loop-x.invariant
      | in_default w ↦ absurd (never-none p c.loop-x.x c.loop-y.y (omega arith) (omega arith) w.in_default.ensures)
    ]

pub loop-y-preserved : goal.loop-y-preserved
loop-y-preserved g c =
    let p = g.P.Picture.shown c.args.picture.now in
    written_row (painted (bands_of c.args.set.now)) p.levels c.args.buffer.now c.loop-y.buffer c.loop-x.buffer c.loop-y.y c.columns-columns.result c.loop-x.x (omega arith) c.loop-y.invariant c.loop-x.invariant

pub returns : goal.returns
returns g c =
    let p = g.P.Picture.shown c.args.picture.now in
    written_all (painted (bands_of c.args.set.now)) p (g.met.P.Picture.sound c.args.picture.now) c.loop-y.y c.columns-columns.result c.columns-columns.ensures (omega arith) c.args.buffer.now c.loop-y.buffer c.loop-y.invariant
