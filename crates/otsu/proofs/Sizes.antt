-- The two classes of a threshold, and the size of its criterion.
use Rattle.std.proofs.Common.{◌≡◌, ℕ, suc, ◌+◌, ◌-◌, ◌*◌, ◌^◌, ◌<◌, ◌≤◌, List, length, get_or, ap, ◌∙◌, subst, inl, inr, le_trans, le_of_eq, mul-le-mul_right, mul_assoc, mul_comm, add-mul, mul-le-mul, mul-pos, mul-one, mul-add, mul_right_comm, arith}
use native.Mathlib.Nat.{mul-mul-mul_comm}
use Rattle.std.proofs.lemmas.Bool.{cases_lt}
use Rattle.histogram.specs.Counts.{occupied, lowest, highest}
use Rattle.histogram.specs.Totals.{sum_of, one, level}
use Rattle.histogram.proofs.Laws.{sum-suc, sum-empty, level-le, room}
use Rattle.histogram.proofs.Spans.{spanned}
use Rattle.otsu.specs.Otsu.{n0, s0, n1, bottom}
use Rattle.otsu.specs.Search.{Range}
use Rattle.otsu.specs.declared.Classes.{Classes}

pub range : (h : List ℕ) → 2 ≤ length (occupied h) → Range h (lowest h) (highest h)
range h l =
    let s = spanned h (omega arith) in
    record {
      apart = s.apart l;
      level = s.high;
      none_below = omega (arith, sum-suc one h 0 (lowest h) (omega arith), sum-empty one h 0 (lowest h) (λ j a b. s.none_below j b), mul-one (get_or h (lowest h) 0));
      at_lo = s.at_low;
      at_up = s.at_high;
    }

pub record Sides (h : List ℕ) (k : ℕ) : Type 0 where
  pub some-low : 0 < n0 h k
  pub some-high : 0 < n1 h k

pub classes : (h : List ℕ) (lo up k : ℕ) → Range h lo up → lo ≤ k → k < up → Sides h k
classes h lo up k r a b =
    let u = r.level in
    record {
      some-low = omega (arith, level-le h 0 (suc k) lo (omega arith) (omega arith), r.at_lo);
      some-high = omega (arith, level-le h (suc k) 256 up b (omega arith), r.at_up);
    }

pub bottom-pos : (h : List ℕ) (lo up k : ℕ) → Range h lo up → lo ≤ k → k < up → 0 < bottom h k
bottom-pos h lo up k r a b = let c = classes h lo up k r a b in mul-pos c.some-low c.some-high

-- The pixels of the lowest level are all up to it.
pub low_sum : (h : List ℕ) (lo up : ℕ) → Range h lo up → s0 h lo ≡ get_or h lo 0 * lo
low_sum h lo up r =
    let u = r.level in
    let x = r.apart in
    let n : sum_of one h 0 lo ≡ 0 = omega (arith, sum-suc one h 0 lo (omega arith), r.none_below, mul-one (get_or h lo 0)) in
    omega (arith, sum-suc level h 0 lo (omega arith), (room h 0 lo (omega arith)).dim, n)

-- ---- the criterion's size
amgm : (a d : ℕ) → a + (a + d) ≤ 65536 → a * (a + d) ≤ 2 ^ 30
amgm a d h =
    let q : (a + (a + d)) * (a + (a + d)) ≤ 65536 * 65536 = mul-le-mul h h in
    let x = mul-add a a d in
    let y = add-mul a (a + d) (a + (a + d)) in
    let z = mul-add a a (a + d) in
    let w = add-mul a d (a + (a + d)) in
    let v = mul-add d a (a + d) in
    let u = mul-add d a d in
    let t = mul_comm d a in
    let e : (a + (a + d)) * (a + (a + d)) ≡ a * (a + d) * 4 + d * d = omega arith in
    omega arith

pub product_small : (a b : ℕ) → a + b ≤ 65536 → a * b ≤ 2 ^ 30
product_small a b h =
    elim (cases_lt a b) [
      | inl l ↦ (let e : a + (b - a) ≡ b = omega arith in subst (λ (z : ℕ). a * z ≤ 2 ^ 30) e (amgm a (b - a) (omega arith)))
      | inr g ↦ (let e : b + (a - b) ≡ a = omega arith in le_trans (le_of_eq (mul_comm a b)) (subst (λ (z : ℕ). b * z ≤ 2 ^ 30) e (amgm b (a - b) (omega arith))))
    ]

term : (n m s : ℕ) → s ≤ 255 * n → s * s * m ≤ 65025 * (n * m * n)
term n m s h =
    le_trans (mul-le-mul_right m (mul-le-mul h h))
    (le_of_eq (ap (λ (z : ℕ). z * m) (mul-mul-mul_comm 255 n 255 n) ∙ mul_assoc 65025 (n * n) m ∙ ap (λ (z : ℕ). 65025 * z) (mul_right_comm n n m)))

pub top_small : (n0 s0 n1 s1 : ℕ) → n0 + n1 ≤ 65536 → s0 ≤ 255 * n0 → s1 ≤ 255 * n1 → s0 * s0 * n1 + s1 * s1 * n0 < 2 ^ 62
top_small n0 s0 n1 s1 h a b =
    let x : s0 * s0 * n1 ≤ 65025 * (n0 * n1 * n0) = term n0 n1 s0 a in
    let y : s1 * s1 * n0 ≤ 65025 * (n1 * n0 * n1) = term n1 n0 s1 b in
    let c : n1 * n0 * n1 ≡ n0 * n1 * n1 = ap (λ (z : ℕ). z * n1) (mul_comm n1 n0) in
    let s : n0 * n1 * (n0 + n1) ≡ n0 * n1 * n0 + n0 * n1 * n1 = mul-add (n0 * n1) n0 n1 in
    let m : n0 * n1 * (n0 + n1) ≤ 2 ^ 30 * 65536 = mul-le-mul (product_small n0 n1 h) h in
    omega arith

pub criterion_fits : (c : Classes) → c.s0 * c.s0 * c.n1 + c.s1 * c.s1 * c.n0 < 2 ^ 62
criterion_fits c = top_small c.n0 c.s0 c.n1 c.s1 c.few c.dim_low c.dim_high
