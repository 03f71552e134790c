use Rattle.std.proofs.Common.{length, ap, ◌∙◌, arith}
use Rattle.histogram.specs.Totals.{pixels, one}
use Rattle.histogram.proofs.Eachs.{each_long}
use Rattle.histogram.proofs.Laws.{sum_added, count-le}
use Rattle.histogram.proofs.tally.Tally.add.Goals as goal

pub add-requires : goal.add-requires
add-requires c = λ k.
    let t = c.self in
    let m = c.more in
    omega (arith, count-le t.inside.histogram.counts k t.invariant.long, count-le m.inside.histogram.counts k m.invariant.long, t.invariant.adds, m.invariant.adds, t.invariant.few, m.invariant.few)

pub invariant_of-self : goal.invariant_of-self
invariant_of-self c =
    let t = c.self in
    let m = c.more in
    let e = c.add.ensures in
    let s = ap pixels e ∙ sum_added one t.inside.histogram.counts m.inside.histogram.counts in
    record { long = ap length e ∙ each_long _; adds = omega (arith, s, t.invariant.adds, m.invariant.adds); few = omega arith }

pub returns-clause-long : goal.returns-clause-long
returns-clause-long c = ap length c.add.ensures ∙ each_long _

pub returns-clause-few : goal.returns-clause-few
returns-clause-few c =
    let t = c.self in
    let m = c.more in
    let s = ap pixels c.add.ensures ∙ sum_added one t.inside.histogram.counts m.inside.histogram.counts in
    omega (arith, s, t.invariant.adds, m.invariant.adds)
