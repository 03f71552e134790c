-- The laws of the one sum over levels: none, one more level, bands joined, pointwise order.
use Rattle.std.proofs.Common.{◌≡◌, ℕ, zero, suc, ◌+◌, ◌-◌, ◌*◌, ◌<◌, ◌≤◌, List, map, length, get_or, sum, sym, ap, ◌∙◌, subst, inl, inr, ⊎_elim, le_of_eq, add-zero, add-suc, mul_comm, add-mul, eq-zero-or-pos, mul-le-mul_left, mul-zero, zero-mul, mul-one, mul-add, add-one, arith}
use Rattle.std.proofs.lemmas.List.{get_or_past}
use Rattle.std.specs.List.{range_with_len}
use Rattle.std.proofs.lemmas.List.FromFn.{sum_by-map-range_with_len_more}
use Rattle.std.proofs.lemmas.Bool.{cases_lt}
use Rattle.histogram.specs.Totals.{sum_of, one, level, pixels}
use Rattle.histogram.specs.Counts.{added, removed}
use Rattle.histogram.specs.Lacks.{Covers}
use Rattle.histogram.proofs.Eachs.{each_at}

-- What holds at a, and at z + 1 where it holds at z, holds from a on.
pub climb : (P : ℕ → Type 0) (a : ℕ) → P a → ((z : ℕ) → a ≤ z → P z → P (suc z)) → (z : ℕ) → a ≤ z → P z
climb P a base step z l = let e : a + (z - a) ≡ z = omega arith in subst P e (go (z - a))
  where
    go : (d : ℕ) → P (a + d)
    go zero = subst P (sym (add-zero a)) base
    go (suc d) = subst P (sym (add-suc a d)) (step (a + d) (omega arith) (go d))

pub sum-none : (f : ℕ → ℕ) (h : List ℕ) (a z : ℕ) → z ≤ a → sum_of f h a z ≡ 0
unfolding sum_of
sum-none f h a z l =
    let e : z - a ≡ 0 = omega arith in
    ap (λ n. sum (map (λ j. get_or h j 0 * f j) (range_with_len a n))) e

pub sum-suc : (f : ℕ → ℕ) (h : List ℕ) (a z : ℕ) → a ≤ z → sum_of f h a (suc z) ≡ sum_of f h a z + get_or h z 0 * f z
unfolding sum_of
sum-suc f h a z l =
    let e : suc z - a ≡ (z - a) + 1 = omega arith in
    ap (λ n. sum (map (λ j. get_or h j 0 * f j) (range_with_len a n))) e
    ∙ sum_by-map-range_with_len_more (λ x. x) (λ j. get_or h j 0 * f j) a (z - a) z (omega arith)

pub sum_more : (f : ℕ → ℕ) (h : List ℕ) (a z : ℕ) → a ≤ z → sum_of f h a (z + 1) ≡ sum_of f h a z + get_or h z 0 * f z
sum_more f h a z l = ap (sum_of f h a) (add-one z) ∙ sum-suc f h a z l

pub sum_one : (f : ℕ → ℕ) (h : List ℕ) (a : ℕ) → sum_of f h a (suc a) ≡ get_or h a 0 * f a
sum_one f h a = omega (arith, sum-suc f h a a (omega arith), sum-none f h a a (omega arith))

pub sum-join : (f : ℕ → ℕ) (h : List ℕ) (a b c : ℕ) → a ≤ b → b ≤ c → sum_of f h a c ≡ sum_of f h a b + sum_of f h b c
sum-join f h a b c l m =
    climb (λ z. sum_of f h a z ≡ sum_of f h a b + sum_of f h b z) b (omega (arith, sum-none f h b b (omega arith)))
    (λ z k ih. omega (arith, sum-suc f h a z (omega arith), sum-suc f h b z k, ih)) c m

pub sum_same : (f g : ℕ → ℕ) (h k : List ℕ) (a z : ℕ) → ((j : ℕ) → a ≤ j → j < z → get_or h j 0 * f j ≡ get_or k j 0 * g j) → sum_of f h a z ≡ sum_of g k a z
sum_same f g h k a z e =
    ⊎_elim
    (λ (l : a < z).
    climb (λ y. y ≤ z → sum_of f h a y ≡ sum_of g k a y) a (λ _. omega (arith, sum-none f h a a (omega arith), sum-none g k a a (omega arith)))
    (λ y m ih n. omega (arith, sum-suc f h a y m, sum-suc g k a y m, ih (omega arith), e y m (omega arith))) z (omega arith) (omega arith))
    (λ (l : z ≤ a). omega (arith, sum-none f h a z l, sum-none g k a z l))
    (cases_lt a z)

-- Where f is at most g at each occupied level.
pub sum-le : (f g : ℕ → ℕ) (h : List ℕ) (a z : ℕ) → a ≤ z → ((j : ℕ) → a ≤ j → j < z → 0 < get_or h j 0 → f j ≤ g j) → sum_of f h a z ≤ sum_of g h a z
sum-le f g h a z l p =
    climb (λ y. y ≤ z → sum_of f h a y ≤ sum_of g h a y) a (λ _. omega (arith, sum-none f h a a (omega arith), sum-none g h a a (omega arith)))
    (λ y m ih n.
    let t : get_or h y 0 * f y ≤ get_or h y 0 * g y = elim (eq-zero-or-pos (get_or h y 0)) [
      | inl e ↦ le_of_eq (ap (λ x. x * f y) e ∙ zero-mul (f y) ∙ sym (ap (λ x. x * g y) e ∙ zero-mul (g y)))
      | inr o ↦ mul-le-mul_left (get_or h y 0) (p y m (omega arith) o)
    ] in
    omega (arith, sum-suc f h a y m, sum-suc g h a y m, ih (omega arith), t)) z l (omega arith)

pub sum-const : (c : ℕ) (h : List ℕ) (a z : ℕ) → a ≤ z → sum_of (λ j. c) h a z ≡ c * sum_of one h a z
sum-const c h a z l =
    climb (λ y. sum_of (λ j. c) h a y ≡ c * sum_of one h a y) a (sum-none (λ j. c) h a a (omega arith) ∙ sym (ap (λ n. c * n) (sum-none one h a a (omega arith)) ∙ mul-zero c))
    (λ y m ih.
    let u = ap (λ n. c * n) (sum-suc one h a y m) ∙ mul-add c (sum_of one h a y) (get_or h y 0 * 1) in
    let v : c * (get_or h y 0 * 1) ≡ get_or h y 0 * c = ap (λ n. c * n) (mul-one (get_or h y 0)) ∙ mul_comm c (get_or h y 0) in
    omega (arith, sum-suc (λ j. c) h a y m, u, v, ih)) z l

-- The pixels of one level are among those of a band that holds it.
pub level-le : (h : List ℕ) (a z j : ℕ) → a ≤ j → j < z → get_or h j 0 ≤ sum_of one h a z
level-le h a z j l m =
    omega (arith, sum-join one h a j z l (omega arith), sum-join one h j (suc j) z (omega arith) m, sum_one one h j, mul-one (get_or h j 0))

pub band-le : (f : ℕ → ℕ) (h : List ℕ) (a b y z : ℕ) → a ≤ b → b ≤ y → y ≤ z → sum_of f h b y ≤ sum_of f h a z
band-le f h a b y z l m n = omega (arith, sum-join f h a b z l (omega arith), sum-join f h b y z m n)

-- No pixel, no total.
pub sum-empty : (f : ℕ → ℕ) (h : List ℕ) (a z : ℕ) → ((j : ℕ) → a ≤ j → j < z → get_or h j 0 ≡ 0) → sum_of f h a z ≡ 0
sum-empty f h a z e =
    sum_same f (λ j. 0) h h a z (λ j l m. ap (λ n. n * f j) (e j l m) ∙ zero-mul (f j) ∙ sym (mul-zero (get_or h j 0)))
    ∙ ⊎_elim
    (λ (l : a < z). sum-const 0 h a z (omega arith) ∙ zero-mul (sum_of one h a z))
    (λ (l : z ≤ a). sum-none (λ j. 0) h a z l)
    (cases_lt a z)

-- The level sum is between the lowest and the highest level times the count.
pub levels-high : (h : List ℕ) (a z m : ℕ) → a ≤ z → z ≤ suc m → sum_of level h a z ≤ m * sum_of one h a z
levels-high h a z m l k =
    omega (arith, sum-le level (λ j. m) h a z l (λ j x y o. omega arith), sum-const m h a z l)

pub levels-low : (h : List ℕ) (a z : ℕ) → a ≤ z → a * sum_of one h a z ≤ sum_of level h a z
levels-low h a z l =
    omega (arith, sum-le (λ j. a) level h a z l (λ j x y o. x), sum-const a h a z l)

-- One histogram on top of another.
pub sum_added : (f : ℕ → ℕ) (h k : List ℕ) → sum_of f (added h k) 0 256 ≡ sum_of f h 0 256 + sum_of f k 0 256
sum_added f h k =
    climb (λ y. y ≤ 256 → sum_of f (added h k) 0 y ≡ sum_of f h 0 y + sum_of f k 0 y) 0
    (λ _. omega (arith, sum-none f (added h k) 0 0 (omega arith), sum-none f h 0 0 (omega arith), sum-none f k 0 0 (omega arith)))
    (λ y m ih n.
    let e = ap (λ x. x * f y) (each_at (λ j. get_or h j 0 + get_or k j 0) y (omega arith)) ∙ add-mul (get_or h y 0) (get_or k y 0) (f y) in
    omega (arith, sum-suc f (added h k) 0 y m, sum-suc f h 0 y m, sum-suc f k 0 y m, ih (omega arith), e)) 256 (omega arith) (omega arith)

-- One histogram off another that has all of its pixels.
pub sum-removed : (f : ℕ → ℕ) (h k : List ℕ) → Covers h k → sum_of f (removed h k) 0 256 + sum_of f k 0 256 ≡ sum_of f h 0 256
sum-removed f h k c =
    sym (sum_added f (removed h k) k)
    ∙ sum_same f f (added (removed h k) k) h 0 256
    (λ j l m.
    let e = each_at (λ i. get_or (removed h k) i 0 + get_or k i 0) j m in
    let d = each_at (λ i. get_or h i 0 - get_or k i 0) j m in
    let g : get_or (added (removed h k) k) j 0 ≡ get_or h j 0 = omega (arith, e, d, c j m) in
    ap (λ n. n * f j) g)

-- No count passes the number of pixels.
pub count-le : (h : List ℕ) (k : ℕ) → length h ≡ 256 → get_or h k 0 ≤ pixels h
count-le h k e =
    ⊎_elim
    (λ (l : k < 256). level-le h 0 256 k (omega arith) l)
    (λ (l : 256 ≤ k). rw (get_or_past h k 0 (omega (arith, e))) (omega arith))
    (cases_lt k 256)

-- What a band of levels holds at most.
pub record Room (h : List ℕ) (a z : ℕ) : Type 0 where
  pub few : sum_of one h a z ≤ pixels h
  pub dim : sum_of level h a z ≤ 255 * sum_of one h a z

pub room : (h : List ℕ) (a z : ℕ) → z ≤ 256 → Room h a z
room h a z l =
    ⊎_elim
    (λ (m : a < z). record { few = band-le one h 0 a z 256 (omega arith) (omega arith) l; dim = levels-high h a z 255 (omega arith) (omega arith) })
    (λ (m : z ≤ a). record { few = omega (arith, sum-none one h a z m); dim = omega (arith, sum-none level h a z m) })
    (cases_lt a z)

-- A loop over the levels from a to b that had no turn.
pub sum-unbegun : (f : ℕ → ℕ) (h : List ℕ) (a b z : ℕ) → (a ≤ b → z ≤ b) → b < z → (b < a → z ≡ a) → sum_of f h a z ≡ sum_of f h a (suc b)
sum-unbegun f h a b z in' past e =
    ⊎_elim
    (λ (l : b < a). sum-none f h a z (omega (arith, e l)) ∙ sym (sum-none f h a (suc b) (omega arith)))
    (λ (l : a ≤ b). absurd (omega (arith, in' l)))
    (cases_lt b a)

-- Its last turn.
pub sum-last : (f : ℕ → ℕ) (h : List ℕ) (a b z n v : ℕ) → a ≤ z → z ≡ b → n ≡ sum_of f h a z → v ≡ get_or h z 0 * f z → n + v ≡ sum_of f h a (suc b)
sum-last f h a b z n v l e i j = omega (arith, sum-suc f h a z l, ap (λ x. sum_of f h a (suc x)) e, i, j)

-- Where f is at most m at each level, the total is at most m a pixel.
pub sum-most : (f : ℕ → ℕ) (h : List ℕ) (m a z : ℕ) → ((j : ℕ) → j < z → f j ≤ m) → sum_of f h a z ≤ m * sum_of one h a z
sum-most f h m a z p =
    ⊎_elim
    (λ (l : a < z). omega (arith, sum-le f (λ j. m) h a z (omega arith) (λ j x y o. p j y), sum-const m h a z (omega arith)))
    (λ (l : z ≤ a). omega (arith, sum-none f h a z l))
    (cases_lt a z)
