use Rattle.std.proofs.Common.{suc, ap, add-one, arith}
use Rattle.histogram.specs.Totals.{one, count_of}
use Rattle.histogram.proofs.Laws.{sum-join}
use Rattle.otsu.proofs.Classes.new.Goals as goal

pub invariant_of-result : goal.invariant_of-result
invariant_of-result c =
    let h = c.args.tally.now in
    let e = ap (λ z. count_of h z 255) (add-one c.args.k) in
    record {
      some_low = omega (arith, c.requires.some_low, c.count.ensures, c.sums-low.ensures.count);
      some_high = omega (arith, c.requires.some_high, c.count-2.ensures, c.sums-high.ensures.count, e);
      few = omega (arith, c.sums-low.ensures.few, c.count.ensures, c.sums-low.ensures.count, c.count-2.ensures, c.sums-high.ensures.count, e, sum-join one h 0 (suc c.args.k) 256 (omega arith) (omega arith));
      dim_low = omega (arith, c.count.ensures, c.levels.ensures, c.sums-low.result.dim);
      dim_high = omega (arith, c.count-2.ensures, c.levels-2.ensures, c.sums-high.result.dim);
    }
