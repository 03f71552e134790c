use Rattle.std.proofs.Common.{◌≤◌, length, ap, ◌∙◌, arith, rules}
use Rattle.histogram.specs.Totals.{pixels, one}
use Rattle.histogram.proofs.Eachs.{each_long}
use Rattle.histogram.proofs.Laws.{sum-removed}
use Rattle.histogram.proofs.tally.Tally.remove.Goals as goal

pub overflow_cast-self : goal.overflow_cast-self
overflow_cast-self c =
    let t = c.self in
    let s = sum-removed one t.inside.histogram.counts c.args.less.now.counts c.in_default.ensures.lowest in
    let k : c.total.result ≤ 65536 = omega (arith, s, t.invariant.adds, t.invariant.few, c.total.ensures) in
    search rules

pub overflow_sub-self : goal.overflow_sub-self
overflow_sub-self c =
    let t = c.self in
    let s = sum-removed one t.inside.histogram.counts c.args.less.now.counts c.in_default.ensures.lowest in
    omega (arith, s, t.invariant.adds, c.total.ensures)

pub invariant_of-self : goal.invariant_of-self
invariant_of-self c =
    let t = c.self in
    let e = c.subtract.ensures in
    let s = sum-removed one t.inside.histogram.counts c.args.less.now.counts c.in_default.ensures.lowest in
    record { long = ap length e ∙ each_long _; adds = omega (arith, ap pixels e, s, t.invariant.adds, c.total.ensures); few = omega (arith, t.invariant.few) }

pub returns-clause-long : goal.returns-clause-long
returns-clause-long c = ap length c.subtract.ensures ∙ each_long _

pub returns-clause-few : goal.returns-clause-few
returns-clause-few c =
    let t = c.self in
    let s = sum-removed one t.inside.histogram.counts c.args.less.now.counts c.in_default.ensures.lowest in
    omega (arith, ap pixels c.subtract.ensures, s, t.invariant.adds, t.invariant.few)
