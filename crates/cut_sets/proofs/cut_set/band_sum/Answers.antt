use Rattle.std.proofs.Common.{◌≡◌, ℕ, List, suc, ◌+◌, ◌*◌, ◌≤◌, get_or, sym, refl, ap, ◌∙◌, arith, rules}
use Rattle.histogram.specs.Totals.{sum_of, pixels}
use Rattle.histogram.proofs.Laws.{sum-none, sum_more, sum-unbegun}
use Rattle.cut_sets.specs.CutSums.{band_sum_of}
use Rattle.cut_sets.proofs.Parts.{distance_most}
use Rattle.cut_sets.proofs.cut_set.band_sum.Given as given
use Rattle.cut_sets.proofs.cut_set.band_sum.Goals as goal
use Rattle.cut_sets.proofs.cut_set.band_sum.Goals.{After-from-in-loop-level}

pub loop-level-init : goal.loop-level-init
loop-level-init g c =
    let d = g.R.DistanceRule.table c.args.rule.now in
    (sym (sum-none (λ j. d j c.args.band.level) c.args.tally.now c.args.band.low c.args.band.low (omega arith)), λ _. refl)

-- the total with one level more, and its bound
next : (g : given.Over) (c : After-from-in-loop-level g)
    → c.loop-level.sum + c.from.result * c.from-in-loop-level.result ≡ sum_of (λ j. g.R.DistanceRule.table c.args.rule.now j c.args.band.level) c.args.tally.now c.args.band.low (c.loop-level.level + 1)
next g c =
    let d = g.R.DistanceRule.table c.args.rule.now in
    let j = c.loop-level.level in
    let v = c.args.band.level in
    let h = c.args.tally.now in
    ap (λ n. n + c.from.result * c.from-in-loop-level.result) c.loop-level.invariant.0
    ∙ ap (λ n. sum_of (λ i. d i v) h c.args.band.low j + n * c.from-in-loop-level.result) (c.from.ensures ∙ c.count.ensures ∙ ap (λ k. get_or k j 0) c.histogram-histogram.ensures.counts)
    ∙ ap (λ n. sum_of (λ i. d i v) h c.args.band.low j + get_or h j 0 * n) (c.from-in-loop-level.ensures ∙ c.distance.ensures)
    ∙ sym (sum_more (λ i. d i v) h c.args.band.low j (omega arith))

-- what a band adds up to a level, at most
most : (g : given.Over) (r : g.row.R.Denot) (h : List ℕ) (v a z : ℕ) → v ≤ 255 → pixels h ≤ 65536 → z ≤ 256 → sum_of (λ j. g.R.DistanceRule.table r j v) h a z ≤ 65536 * 65025
most g r h v a z b few l = distance_most (g.R.DistanceRule.table r) h v a z (λ j k. g.met.R.DistanceRule.bounded r j v k b) few l

within : (g : given.Over) (c : After-from-in-loop-level g) → c.loop-level.sum + c.from.result * c.from-in-loop-level.result ≤ 65536 * 65025
within g c =
    omega (arith, next g c, most g c.args.rule.now c.args.tally.now c.args.band.level c.args.band.low (c.loop-level.level + 1) (omega arith) c.histogram-histogram.ensures.few (omega arith))

pub overflow_add-sum : goal.overflow_add-sum
overflow_add-sum g c = let k = within g c in search rules

pub loop-level-preserved : goal.loop-level-preserved
loop-level-preserved g c = (next g (goal.at.loop-level-preserved g c).After-from-in-loop-level, λ e. absurd (omega arith))

pub returns : goal.returns
returns g c =
    let e : c.loop-level.sum ≡ band_sum_of (g.R.DistanceRule.table c.args.rule.now) c.args.tally.now c.args.band =
    c.loop-level.invariant.0
    ∙ sum-unbegun (λ j. g.R.DistanceRule.table c.args.rule.now j c.args.band.level) c.args.tally.now c.args.band.low c.args.band.high c.loop-level.level c.loop-level.auto.level-end c.loop-level-test.false c.loop-level.invariant.1 in
    record { value = e; bound = omega (arith, e, most g c.args.rule.now c.args.tally.now c.args.band.level c.args.band.low (suc c.args.band.high) (omega arith) c.histogram-histogram.ensures.few (omega arith)) }

pub returns-2-clause-value : goal.returns-2-clause-value
returns-2-clause-value g c = next g (goal.at.returns-2-clause-value g c).After-from-in-loop-level ∙ (
    let e : c.loop-level.level + 1 ≡ suc c.args.band.high = omega arith in
    ap (sum_of (λ j. g.R.DistanceRule.table c.args.rule.now j c.args.band.level) c.args.tally.now c.args.band.low) e)

pub returns-2-clause-bound : goal.returns-2-clause-bound
returns-2-clause-bound g c = within g (goal.at.returns-2-clause-bound g c).After-from-in-loop-level
