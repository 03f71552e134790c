-- The nearest level, and that it lies in its band.
use Rattle.std.proofs.Common.{◌≡◌, ℕ, suc, ◌+◌, ◌-◌, ◌*◌, ◌/◌, ◌<◌, ◌≤◌, List, inl, inr, mod-lt, mul_assoc, mul_comm, mul-le-mul_left, div-add-mod', mul-suc, mul_left_comm, arith}
use Rattle.std.proofs.lemmas.Bool.{cases_lt}
use Rattle.histogram.specs.Totals.{count_of, level_sum}
use Rattle.histogram.specs.Means.{nearest_level, Nearest, mean_level}
use Rattle.histogram.proofs.Laws.{levels-low, levels-high}

pub nearest : (n s : ℕ) → 0 < n → Nearest n s (nearest_level n s)
nearest n s h =
    let d = 2 * n in
    let m = 2 * s + n - 1 in
    let e = div-add-mod' m d in
    let D : 0 < d = omega arith in
    let r = mod-lt m D in
    let c : m / d * d ≡ 2 * (n * (m / d)) = simp (mul_assoc, mul_comm, mul_left_comm) in
    record { above = omega arith; below = omega arith }

-- v is at most x where n * v is at most a half of n above n * x.
half_le : (n v x : ℕ) → 0 < n → 2 * (n * v) < 2 * (n * x) + 2 * n → v ≤ x
half_le n v x p h = elim (cases_lt x v) [ inl o ↦ absurd (let k = mul-le-mul_left n o in let e = mul-suc n x in omega arith) | inr g ↦ g ]

-- A mean between a and b has its nearest level between them.
pub nearest-from : (n s a : ℕ) → 0 < n → a * n ≤ s → a ≤ nearest_level n s
nearest-from n s a p l =
    let q = nearest n s p in
    let c = mul_comm a n in
    half_le n a (nearest_level n s) p (omega (arith, q.above))

pub nearest-to : (n s b : ℕ) → 0 < n → s ≤ b * n → nearest_level n s ≤ b
nearest-to n s b p l =
    let q = nearest n s p in
    let c = mul_comm b n in
    half_le n (nearest_level n s) b p (omega (arith, q.below))

pub record Within (a b v : ℕ) : Type 0 where
  pub low : a ≤ v
  pub high : v ≤ b

pub mean-within : (h : List ℕ) (a b : ℕ) → a ≤ suc b → 0 < count_of h a b → Within a b (mean_level h a b)
mean-within h a b l p = record {
  low = nearest-from (count_of h a b) (level_sum h a b) a p (levels-low h a (suc b) l);
  high = nearest-to (count_of h a b) (level_sum h a b) b p (levels-high h a (suc b) b l (omega arith));
}
