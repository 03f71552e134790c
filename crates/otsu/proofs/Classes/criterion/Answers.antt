use Rattle.std.proofs.Common.{mul-pos, rules}
use Rattle.otsu.proofs.Sizes.{product_small, criterion_fits}
use Rattle.otsu.proofs.Classes.criterion.Goals as goal

pub overflow_mul-result-2 : goal.overflow_mul-result-2
overflow_mul-result-2 c = let h = criterion_fits c.args.self in search rules

pub overflow_mul-result-4 : goal.overflow_mul-result-4
overflow_mul-result-4 c = let h = criterion_fits c.args.self in search rules

pub overflow_add-result : goal.overflow_add-result
overflow_add-result c = let h = criterion_fits c.args.self in search rules

pub invariant_of-result : goal.invariant_of-result
invariant_of-result c =
    let s = c.args.self in
    record { positive = mul-pos s.some_low s.some_high; small = product_small s.n0 s.n1 s.few }
