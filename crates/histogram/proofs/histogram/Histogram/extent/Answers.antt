use Rattle.std.proofs.Common.{sym, ap, ◌∙◌, arith}
use Rattle.histogram.specs.Extents.{extent_by}
use Rattle.histogram.proofs.Spans.{occupied_to, grown-yes, grown-no, occupied-is, extent-push}
use Rattle.histogram.proofs.histogram.Histogram.extent.Goals as goal
use Rattle.histogram.proofs.histogram.Histogram.extent.Goals.{then-count-gt0, else-count-gt0}

pub loop-level-preserved : goal.loop-level-preserved
loop-level-preserved c =
    let h = c.args.self.now.counts in
    let i = c.loop-level.level in
    elim c.if-count-gt0.branch [
      | then-count-gt0 w ↦
          let e = w.raised-extent.ensures in (
            w.extent-is ∙ extent-push (occupied_to h i) i c.loop-level.extent w.raised-extent.result c.loop-level.invariant.0 e.count e.first e.later e.last
                ∙ ap extent_by (sym (grown-yes h i (omega (arith, w.if-count-gt0.true)))),
            omega (arith, ap (λ x. x.occupied) w.extent-is, e.count, c.loop-level.invariant.1),
          )
      | else-count-gt0 w ↦ (
        w.extent-is ∙ c.loop-level.invariant.0 ∙ ap extent_by (sym (grown-no h i (omega (arith, w.if-count-gt0.false)))),
        omega (arith, ap (λ x. x.occupied) w.extent-is, c.loop-level.invariant.1),
      )
    ]

pub returns : goal.returns
returns c = c.loop-level.invariant.0 ∙ ap extent_by (occupied-is c.args.self.now.counts c.loop-level.level (omega arith))
