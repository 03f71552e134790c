-- Between the lowest and the highest occupied level lie all pixels.
use Rattle.std.proofs.Common.{◌≡◌, ℕ, zero, suc, ◌+◌, ◌-◌, ◌<◌, ◌≤◌, cond, ltb, List, [], ◌∷◌, ◌++◌, length, get_or, filter, sym, refl, ap, ◌∙◌, subst, ⊎_elim, append-nil, add-one, arith}
use Rattle.std.specs.List.{range_with_len}
use Rattle.std.proofs.lemmas.List.{length_push, get_or_push, map-id}
use Rattle.std.proofs.lemmas.List.FromFn.{filter_of_map_range_with_len_more}
use Rattle.std.proofs.lemmas.Bool.{cases_eq, cases_lt, lt-ltb, le-ltb}
use Rattle.histogram.specs.declared.histogram.Extent.{Extent}
use Rattle.histogram.specs.Counts.{occupied}
use Rattle.histogram.specs.Extents.{extent_by}

-- The occupied levels below i.
abbrev pub occupied_to : List ℕ → ℕ → List ℕ
occupied_to h i = filter (λ j. ltb 0 (get_or h j 0)) (range_with_len 0 i)

grown : (h : List ℕ) (i : ℕ) → occupied_to h (i + 1) ≡ occupied_to h i ++ cond (ltb 0 (get_or h i 0)) (i ∷ []) []
grown h i =
    ap (filter (λ j. ltb 0 (get_or h j 0))) (sym (map-id (range_with_len 0 (i + 1))))
    ∙ filter_of_map_range_with_len_more (λ j. ltb 0 (get_or h j 0)) (λ j. j) 0 i i (omega arith)
    ∙ ap (λ l. filter (λ j. ltb 0 (get_or h j 0)) l ++ cond (ltb 0 (get_or h i 0)) (i ∷ []) []) (map-id (range_with_len 0 i))

pub grown-yes : (h : List ℕ) (i : ℕ) → 0 < get_or h i 0 → occupied_to h (i + 1) ≡ occupied_to h i ++ i ∷ []
grown-yes h i o = grown h i ∙ ap (λ t. occupied_to h i ++ cond t (i ∷ []) []) (lt-ltb 0 (get_or h i 0) o)

pub grown-no : (h : List ℕ) (i : ℕ) → get_or h i 0 ≡ 0 → occupied_to h (i + 1) ≡ occupied_to h i
grown-no h i e = grown h i ∙ ap (λ t. occupied_to h i ++ cond t (i ∷ []) []) (le-ltb 0 (get_or h i 0) (omega arith)) ∙ append-nil (occupied_to h i)

pub occupied-is : (h : List ℕ) (i : ℕ) → i ≡ 256 → occupied_to h i ≡ occupied h
unfolding occupied
occupied-is h i e = ap (occupied_to h) e

same-extent : (a b : Extent) → a.occupied ≡ b.occupied → a.lowest ≡ b.lowest → a.highest ≡ b.highest → a ≡ b
same-extent a b p q r = λ i. record { occupied = p i; lowest = q i; highest = r i }

last-push : (os : List ℕ) (v : ℕ) → get_or (os ++ v ∷ []) (length (os ++ v ∷ []) - 1) 0 ≡ v
last-push os v = get_or_push os v 0 (length (os ++ v ∷ []) - 1) (omega (arith, length_push os v))

-- One occupied level more.
pub extent-push : (os : List ℕ) (v : ℕ) (e r : Extent) → e ≡ extent_by os → r.occupied ≡ e.occupied + 1 → (e.occupied ≡ 0 → r.lowest ≡ v) → (0 < e.occupied → r.lowest ≡ e.lowest) → r.highest ≡ v
    → r ≡ extent_by (os ++ v ∷ [])
extent-push os v e r is count first later last =
    same-extent r (extent_by (os ++ v ∷ [])) (count ∙ ap (λ x. x.occupied + 1) is ∙ sym (length_push os v)) (low os is) (last ∙ sym (last-push os v))
  where
    low : (xs : List ℕ) → e ≡ extent_by xs → r.lowest ≡ get_or (xs ++ v ∷ []) 0 0
    low [] i = first (ap (λ x. x.occupied) i)
    low (x ∷ xs) i = later (let n = ap (λ y. y.occupied) i in omega (arith, n)) ∙ ap (λ y. y.lowest) i

-- What the occupied levels below z say of a histogram.
pub record Spanned (h : List ℕ) (z : ℕ) (os : List ℕ) : Type 0 where
  pub low : get_or os 0 0 < z
  pub high : get_or os (length os - 1) 0 < z
  pub order : get_or os 0 0 ≤ get_or os (length os - 1) 0
  pub apart : 2 ≤ length os → get_or os 0 0 < get_or os (length os - 1) 0
  pub at_low : 0 < get_or h (get_or os 0 0) 0
  pub at_high : 0 < get_or h (get_or os (length os - 1) 0) 0
  pub none_below : (j : ℕ) → j < get_or os 0 0 → get_or h j 0 ≡ 0
  pub none_above : (j : ℕ) → get_or os (length os - 1) 0 < j → j < z → get_or h j 0 ≡ 0

abbrev Empty : List ℕ → ℕ → Type 0
Empty h z = (j : ℕ) → j < z → get_or h j 0 ≡ 0

-- either no level below i is occupied, or they are spanned
abbrev Known : List ℕ → ℕ → List ℕ → Type 0
Known h i [] = Empty h i
Known h i (x ∷ xs) = Spanned h i (x ∷ xs)

first_of : (h : List ℕ) (i : ℕ) (os : List ℕ) → 0 < get_or h i 0 → Known h i os → Spanned h (i + 1) (os ++ i ∷ [])
first_of h i [] o k = record {
  low = omega arith;
  high = omega arith;
  order = omega arith;
  apart = λ n. absurd (omega arith);
  at_low = o;
  at_high = o;
  none_below = k;
  none_above = λ j l m. absurd (omega arith);
}
first_of h i (x ∷ xs) o k =
    let e = last-push (x ∷ xs) i in
    let l = k.low in
    record {
      low = omega arith;
      high = omega (arith, e);
      order = omega (arith, e);
      apart = λ n. omega (arith, e);
      at_low = k.at_low;
      at_high = subst (λ v. 0 < get_or h v 0) (sym e) o;
      none_below = k.none_below;
      none_above = λ j l m. absurd (omega (arith, e));
    }

pass : (h : List ℕ) (i : ℕ) (os : List ℕ) → get_or h i 0 ≡ 0 → Known h i os → Known h (i + 1) os
pass h i [] o k = λ j l. ⊎_elim (λ (e : j ≡ i). ap (λ n. get_or h n 0) e ∙ o) (λ (d : j ≡ i → ⊥). k j (omega arith)) (cases_eq j i)
pass h i (x ∷ xs) o k = record {
  low = omega (arith, k.low);
  high = omega (arith, k.high);
  order = k.order;
  apart = k.apart;
  at_low = k.at_low;
  at_high = k.at_high;
  none_below = k.none_below;
  none_above = λ j l m. ⊎_elim (λ (e : j ≡ i). ap (λ n. get_or h n 0) e ∙ o) (λ (d : j ≡ i → ⊥). k.none_above j l (omega arith)) (cases_eq j i);
}

known-push : (h : List ℕ) (i : ℕ) (os : List ℕ) → Spanned h (i + 1) (os ++ i ∷ []) → Known h (i + 1) (os ++ i ∷ [])
known-push h i [] s = s
known-push h i (x ∷ xs) s = s

known : (h : List ℕ) (i : ℕ) → Known h i (occupied_to h i)
known h zero = λ j l. absurd (omega arith)
known h (suc i) =
    let k = known h i in
    subst (λ n. Known h n (occupied_to h n)) (add-one i)
    (⊎_elim
    (λ (o : 0 < get_or h i 0). subst (Known h (i + 1)) (sym (grown-yes h i o)) (known-push h i (occupied_to h i) (first_of h i (occupied_to h i) o k)))
    (λ (e : get_or h i 0 ≤ 0). let z : get_or h i 0 ≡ 0 = omega arith in subst (Known h (i + 1)) (sym (grown-no h i z)) (pass h i (occupied_to h i) z k))
    (cases_lt 0 (get_or h i 0)))

pub spanned : (h : List ℕ) → 0 < length (occupied h) → Spanned h 256 (occupied h)
spanned h p = by (occupied h) p (subst (Known h 256) (occupied-is h 256 refl) (known h 256))
  where
    by : (os : List ℕ) → 0 < length os → Known h 256 os → Spanned h 256 os
    by [] q k = absurd (omega arith)
    by (x ∷ xs) q k = k
