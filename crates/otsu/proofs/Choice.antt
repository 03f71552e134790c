-- The first threshold whose criterion is largest: step by step, the only one, and by the definition.
use Rattle.std.proofs.Common.{◌≡◌, ℕ, zero, suc, ◌+◌, ◌-◌, ◌*◌, ◌<◌, ◌≤◌, true, false, cond, ltb, ◌⊎◌, List, length, get_or, sym, ap, ◌∙◌, subst, inl, inr, le_of_eq, le_refl, mul-one, add-one, arith}
use Rattle.std.specs.List.{range_with_len}
use Rattle.std.proofs.lemmas.Bool.{cases_lt, cases_order, cases_Bool, ltb-true, ltb-false, cond-true, cond-false}
use Rattle.histogram.specs.Counts.{occupied, lowest, highest}
use Rattle.histogram.specs.Totals.{sum_of, one, level}
use Rattle.histogram.proofs.Laws.{sum-suc, sum-join, sum_one, level-le, room}
use Rattle.otsu.specs.Otsu.{Otsu, top, bottom, above, first_largest_of, otsu_level}
use Rattle.otsu.specs.Search.{Range}
use Rattle.otsu.specs.declared.Classes.{Classes}
use Rattle.otsu.proofs.Ratios.{through-lt, through-le}
use Rattle.otsu.proofs.Sizes.{range, bottom-pos}

up_to : (j k : ℕ) → j < suc k → (j < k) ⊎ (j ≡ k)
up_to j k h = elim (cases_lt j k) [ inl l ↦ inl l | inr g ↦ inr (omega arith) ]

pub otsu-first : (h : List ℕ) (lo : ℕ) → Otsu h lo (suc lo) lo
otsu-first h lo = record {
  from = le_refl lo;
  under = omega arith;
  largest = λ j a b. (let e : j ≡ lo = omega arith in le_of_eq (ap (λ (z : ℕ). top h z * bottom h lo) e ∙ ap (λ (z : ℕ). top h lo * bottom h z) (sym e)));
  first = λ j a b. absurd (omega arith);
}

-- One threshold more, with a larger criterion.
pub otsu-takes : (h : List ℕ) (lo up k b : ℕ) → Range h lo up → lo < k → k < up → Otsu h lo k b → top h b * bottom h k < top h k * bottom h b → Otsu h lo (suc k) k
otsu-takes h lo up k b r a u o t =
    let before : (j : ℕ) → lo ≤ j → j < k → top h j * bottom h k < top h k * bottom h j =
    λ j x y. through-lt (top h j) (top h b) (top h k) (bottom h j) (bottom h b) (bottom h k) (bottom-pos h lo up j r x (omega arith)) (o.largest j x y) t in
    record {
      from = omega arith;
      under = omega arith;
      largest = λ j x y. elim (up_to j k y) [ inl l ↦ (let z = before j x l in omega arith) | inr e ↦ le_of_eq (ap (λ (z : ℕ). top h z * bottom h k) e ∙ ap (λ (z : ℕ). top h k * bottom h z) (sym e)) ];
      first = before;
    }

-- One threshold more, with none larger.
pub otsu-keeps : (h : List ℕ) (lo k b : ℕ) → Otsu h lo k b → top h k * bottom h b ≤ top h b * bottom h k → Otsu h lo (suc k) b
otsu-keeps h lo k b o t = record {
  from = o.from;
  under = (let u = o.under in omega arith);
  largest = λ j x y. elim (up_to j k y) [ inl l ↦ o.largest j x l | inr e ↦ subst (λ (z : ℕ). top h z * bottom h b ≤ top h b * bottom h z) (sym e) t ];
  first = o.first;
}

-- There is only one.
pub otsu-only : (h : List ℕ) (lo up j k : ℕ) → Otsu h lo up j → Otsu h lo up k → j ≡ k
otsu-only h lo up j k p q =
    elim (cases_order j k) [
      | inl e ↦ e
      | inr d ↦ elim d [
        | inl l ↦ absurd (let a = q.first j p.from l in let b = p.largest k q.from q.under in omega arith)
        | inr g ↦ absurd (let a = p.first k q.from g in let b = q.largest j p.from p.under in omega arith)
      ]
    ]

-- Of the thresholds from a to below z: the choice of the definition, which looks at the lowest last.
otsu-before : (h : List ℕ) (lo up a z m : ℕ) → Range h lo up → lo ≤ a → z ≤ up → Otsu h (suc a) z m
    → Otsu h a z (cond (above h m a) m a)
otsu-before h lo up a z m r l u o =
    elim (cases_Bool (above h m a)) [
      | inl t ↦ (let g = ltb-true (top h a * bottom h m) (top h m * bottom h a) t in
          subst (Otsu h a z) (sym (cond-true (above h m a) m a t)) (record {
            from = omega (arith, o.from);
            under = o.under;
            largest = λ j x y. elim (cases_lt a j) [ inl i ↦ o.largest j i y | inr i ↦ (let e : j ≡ a = omega arith in subst (λ n. top h n * bottom h m ≤ top h m * bottom h n) (sym e) (omega (arith, g))) ];
            first = λ j x y. elim (cases_lt a j) [ inl i ↦ o.first j i y | inr i ↦ (let e : j ≡ a = omega arith in subst (λ n. top h n * bottom h m < top h m * bottom h n) (sym e) g) ];
          }))
      | inr f ↦ (let g = ltb-false (top h a * bottom h m) (top h m * bottom h a) f in
          let p = bottom-pos h lo up m r (omega (arith, o.from)) (omega (arith, o.under)) in
          subst (Otsu h a z) (sym (cond-false (above h m a) m a f)) (record {
            from = le_refl a;
            under = omega (arith, o.from, o.under);
            largest = λ j x y. elim (cases_lt a j) [
              | inl i ↦ through-le (top h j) (top h m) (top h a) (bottom h j) (bottom h m) (bottom h a) p (o.largest j i y) g
              | inr i ↦ (let e : j ≡ a = omega arith in le_of_eq (ap (λ n. top h n * bottom h a) e ∙ ap (λ n. top h a * bottom h n) (sym e)))
            ];
            first = λ j x y. absurd (omega arith);
          }))
    ]

first-largest : (h : List ℕ) (lo up : ℕ) → Range h lo up → (n a : ℕ) → lo ≤ a → a + suc n ≤ up → Otsu h a (a + suc n) (first_largest_of h a (range_with_len (a + 1) n))
unfolding first_largest_of
first-largest h lo up r zero a l u = subst (λ z. Otsu h a z a) (sym (add-one a)) (otsu-first h a)
first-largest h lo up r (suc n) a l u =
    let e : a + 1 + suc n ≡ a + suc (suc n) = omega arith in
    let ih = first-largest h lo up r n (a + 1) (omega arith) (omega arith) in
    otsu-before h lo up a (a + suc (suc n)) _ r l (omega arith)
    (subst (λ b. Otsu h b (a + suc (suc n)) (first_largest_of h (a + 1) (range_with_len (a + 1 + 1) n))) (add-one a)
    (subst (λ z. Otsu h (a + 1) z (first_largest_of h (a + 1) (range_with_len (a + 1 + 1) n))) e ih))

pub otsu-level : (h : List ℕ) → 2 ≤ length (occupied h) → Otsu h (lowest h) (highest h) (otsu_level h)
otsu-level h l =
    let r = range h l in
    let lo = lowest h in
    let n = highest h - lowest h - 1 in
    let e : lo + suc n ≡ highest h = omega (arith, r.apart) in
    subst (λ z. Otsu h lo z (otsu_level h)) e (first-largest h lo (highest h) r n lo (le_refl lo) (omega (arith, e)))

-- ---- for the loop: the classes of the levels below z and from z on
pub record Parted (h : List ℕ) (z : ℕ) (c : Classes) : Type 0 where
  pub count0 : c.n0 ≡ sum_of one h 0 z
  pub sum0 : c.s0 ≡ sum_of level h 0 z
  pub count1 : c.n1 ≡ sum_of one h z 256
  pub sum1 : c.s1 ≡ sum_of level h z 256

-- Of the n pixels from the level k on, of the level sum s, v are of the level k, and some are above it.
pub record Leaves (k n s v : ℕ) : Type 0 where
  pub some : v < n
  pub among : v * k ≤ s
  pub dim : s - v * k ≤ 255 * (n - v)

module _ (h : List ℕ) (lo up : ℕ) (r : Range h lo up) (k v : ℕ) (c : Classes) (under : k < up) (here : v ≡ get_or h k 0) (p : Parted h k c) where
  -- the level, and those above it
  counts : c.n1 ≡ v + sum_of one h (suc k) 256
  counts = omega (arith, r.level, p.count1, here, sum-join one h k (suc k) 256 (omega arith) (omega (arith, r.level)), sum_one one h k, mul-one (get_or h k 0))

  sums : c.s1 ≡ v * k + sum_of level h (suc k) 256
  sums = omega (arith, r.level, p.sum1, ap (λ (n : ℕ). n * k) here, sum-join level h k (suc k) 256 (omega arith) (omega (arith, r.level)), sum_one level h k)

  pub raise-fits : Leaves k c.n1 c.s1 v
  raise-fits = record {
    some = omega (arith, counts, r.at_up, r.level, level-le h (suc k) 256 up (omega arith) (omega (arith, r.level)));
    among = omega (arith, sums);
    dim = omega (arith, counts, sums, (room h (suc k) 256 (omega arith)).dim);
  }

  pub parted-next : (d : Classes) → d.n0 ≡ c.n0 + v → d.s0 ≡ c.s0 + v * k → d.n1 ≡ c.n1 - v → d.s1 ≡ c.s1 - v * k → Parted h (suc k) d
  parted-next d a b e f = record {
    count0 = omega (arith, a, p.count0, here, sum-suc one h 0 k (omega arith), mul-one (get_or h k 0));
    sum0 = omega (arith, b, p.sum0, ap (λ (n : ℕ). n * k) here, sum-suc level h 0 k (omega arith));
    count1 = omega (arith, e, counts);
    sum1 = omega (arith, f, sums);
  }

pub top-is : (h : List ℕ) (k num : ℕ) (c : Classes) → Parted h (suc k) c → num ≡ c.s0 * c.s0 * c.n1 + c.s1 * c.s1 * c.n0 → num ≡ top h k
top-is h k num c p f = let a = p.count0 in let b = p.sum0 in let d = p.count1 in let e = p.sum1 in cc

pub bottom-is : (h : List ℕ) (k den : ℕ) (c : Classes) → Parted h (suc k) c → den ≡ c.n0 * c.n1 → den ≡ bottom h k
bottom-is h k den c p f = let a = p.count0 in let d = p.count1 in cc

pub step-takes : (h : List ℕ) (lo up k b mn md nn nd : ℕ) → Range h lo up → lo < k → k < up → Otsu h lo k b → mn ≡ top h b → md ≡ bottom h b → nn ≡ top h k → nd ≡ bottom h k
    → ltb (mn * nd) (nn * md) ≡ true → Otsu h lo (k + 1) k
step-takes h lo up k b mn md nn nd r a u o e1 e2 e3 e4 t =
    let l = ltb-true (mn * nd) (nn * md) t in
    let x : mn * nd ≡ top h b * bottom h k = cc in
    let y : nn * md ≡ top h k * bottom h b = cc in
    subst (λ z. Otsu h lo z k) (sym (add-one k)) (otsu-takes h lo up k b r a u o (omega arith))

pub step_keeps : (h : List ℕ) (lo k b mn md nn nd : ℕ) → Otsu h lo k b → mn ≡ top h b → md ≡ bottom h b → nn ≡ top h k → nd ≡ bottom h k
    → ltb (mn * nd) (nn * md) ≡ false → Otsu h lo (k + 1) b
step_keeps h lo k b mn md nn nd o e1 e2 e3 e4 t =
    let l = ltb-false (mn * nd) (nn * md) t in
    let x : mn * nd ≡ top h b * bottom h k = cc in
    let y : nn * md ≡ top h k * bottom h b = cc in
    subst (λ z. Otsu h lo z b) (sym (add-one k)) (otsu-keeps h lo k b o (omega arith))
