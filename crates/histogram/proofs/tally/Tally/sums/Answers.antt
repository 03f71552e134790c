use Rattle.std.proofs.Common.{◌≡◌, ℕ, suc, refl, ap, ◌+◌, ◌*◌, ◌≤◌, get_or, sym, ◌∙◌, mul-one, arith, rules}
use Rattle.std.proofs.lemmas.Nat.{mul-le}
use Rattle.histogram.specs.Totals.{one, level, count_of, level_sum, pixels}
use Rattle.histogram.proofs.Laws.{sum-none, sum_more, sum-unbegun, sum-last, count-le, room}
use Rattle.histogram.proofs.tally.Tally.sums.Goals as goal
use Rattle.histogram.proofs.tally.Tally.sums.Goals.{Left-loop-level, else-loop-level-test, then-loop-level-test+else-level-high}

pub loop-level-init : goal.loop-level-init
loop-level-init c =
    let h = c.self.inside.histogram.counts in
    let a = c.args.low in
    (sym (sum-none one h a a (omega arith)), sym (sum-none level h a a (omega arith)), λ e. refl)

pub overflow_add-count : goal.overflow_add-count
overflow_add-count c =
    let t = c.self in
    let h = t.inside.histogram.counts in
    let j = c.loop-level.level in
    let r = room h c.args.low (j + 1) (omega arith) in
    let k : c.loop-level.count + get_or h j 0 ≤ 65536 = omega (arith, r.few, t.invariant.adds, t.invariant.few, sum_more one h c.args.low j (omega arith), mul-one (get_or h j 0), c.loop-level.invariant.0) in
    search rules

pub overflow_mul-levels : goal.overflow_mul-levels
overflow_mul-levels c =
    let t = c.self in
    let h = t.inside.histogram.counts in
    let j = c.loop-level.level in
    let k = mul-le (get_or h j 0) j 65536 255 (omega (arith, count-le h j t.invariant.long, t.invariant.adds, t.invariant.few)) (omega arith) in
    search rules

pub overflow_add-levels : goal.overflow_add-levels
overflow_add-levels c =
    let t = c.self in
    let h = t.inside.histogram.counts in
    let j = c.loop-level.level in
    let r = room h c.args.low (j + 1) (omega arith) in
    let k : c.loop-level.levels + get_or h j 0 * j ≤ 16711680 = omega (arith, r.few, r.dim, t.invariant.adds, t.invariant.few, sum_more level h c.args.low j (omega arith), c.loop-level.invariant.1) in
    search rules

pub loop-level-preserved : goal.loop-level-preserved
loop-level-preserved c =
    let h = c.self.inside.histogram.counts in
    let j = c.loop-level.level in (
      omega (arith, sum_more one h c.args.low j (omega arith), mul-one (get_or h j 0), c.loop-level.invariant.0),
      omega (arith, sum_more level h c.args.low j (omega arith), c.loop-level.invariant.1, ap (λ (n : ℕ). n * c.from.result) c.count-here.ensures, ap (λ (n : ℕ). get_or h j 0 * n) c.from.ensures),
      λ e. absurd (omega arith),
    )

-- what the loop leaves
left : (c : goal.Left-loop-level) → (c.loop-level-test.count ≡ count_of c.self.inside.histogram.counts c.args.low c.args.high) × (c.loop-level-test.levels ≡ level_sum c.self.inside.histogram.counts c.args.low c.args.high)
left c =
    let h = c.self.inside.histogram.counts in
    let a = c.args.low in
    let b = c.args.high in
    let z = c.loop-level.level in
    elim c.loop-level-test.branch [
      | else-loop-level-test w ↦ (
        w.count-is ∙ c.loop-level.invariant.0 ∙ sum-unbegun one h a b z c.loop-level.auto.level-end w.loop-level-test.false c.loop-level.invariant.2,
        w.levels-is ∙ c.loop-level.invariant.1 ∙ sum-unbegun level h a b z c.loop-level.auto.level-end w.loop-level-test.false c.loop-level.invariant.2,
      )
      | then-loop-level-test+else-level-high w ↦ (
        omega (arith, w.count-is, sum-last one h a b z _ _ (omega arith) (omega arith) c.loop-level.invariant.0 refl, mul-one (get_or h z 0), w.count-here.ensures),
        omega (arith, w.levels-is, sum-last level h a b z _ _ (omega arith) (omega arith) c.loop-level.invariant.1 refl, ap (λ (n : ℕ). n * w.from.result) w.count-here.ensures, ap (λ (n : ℕ). get_or h z 0 * n) w.from.ensures),
      )
    ]

pub invariant_of-result : goal.invariant_of-result
invariant_of-result c =
    let t = c.self in
    let r = room t.inside.histogram.counts c.args.low (suc c.args.high) (omega arith) in
    let e = left (goal.at.invariant_of-result c).Left-loop-level in
    record { few = omega (arith, r.few, t.invariant.adds, t.invariant.few, e.0); dim = omega (arith, r.dim, e.0, e.1) }

pub returns : goal.returns
returns c =
    let e = left (goal.at.returns c).Left-loop-level in
    record {
      count = omega (arith, e.0, ap (λ h. count_of h c.args.low c.args.high) c.self.view_is);
      levels = omega (arith, e.1, ap (λ h. level_sum h c.args.low c.args.high) c.self.view_is);
      few = omega (arith, c.self.invariant.adds, c.self.invariant.few, ap pixels c.self.view_is);
    }
