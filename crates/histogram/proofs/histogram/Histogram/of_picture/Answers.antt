use Rattle.std.proofs.Common.{◌+◌, ◌*◌, get_or, ap, ◌∙◌, arith}
use Rattle.pictures.proofs.Places.{never-none}
use Rattle.histogram.proofs.Walks.{seen, counted_none, counted-more, counted-few}
use Rattle.histogram.proofs.histogram.Histogram.of_picture.Goals as goal
use Rattle.histogram.proofs.histogram.Histogram.of_picture.Goals.{in-Some, in_default}

pub loop-y-init : goal.loop-y-init
loop-y-init g c = c.new-histogram.ensures ∙ counted_none c.columns-columns.result (g.P.Picture.shown c.args.picture.now).levels

pub put-requires : goal.put-requires
put-requires g c =
    let p = g.P.Picture.shown c.args.picture.now in
    let s = g.met.P.Picture.sound c.args.picture.now in
    let n = c.columns-columns.result in
    let a = seen p s n c.loop-x.x c.loop-y.y c.in-Some.level c.columns-columns.ensures c.in-Some.ensures in
    let e = ap (λ h. get_or h c.in-Some.level 0) c.loop-x.invariant in
    omega (arith, e, counted-few p s (c.loop-y.y * n + c.loop-x.x) c.in-Some.level a.byte)

pub loop-x-preserved : goal.loop-x-preserved
loop-x-preserved g c =
    let p = g.P.Picture.shown c.args.picture.now in
    elim c.match-level.branch [
      | in-Some w ↦ counted-more p (g.met.P.Picture.sound c.args.picture.now) c.columns-columns.result c.loop-x.x c.loop-y.y w.in-Some.level c.columns-columns.ensures w.in-Some.ensures
          c.loop-x.histogram.counts c.match-level.histogram.counts c.loop-x.invariant (ap (λ t. t.counts) w.histogram-is ∙ w.put.ensures)
      | in_default w ↦ absurd (never-none p c.loop-x.x c.loop-y.y (omega arith) (omega arith) w.in_default.ensures)
    ]
