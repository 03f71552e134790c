-- A total over pixels is a total over levels, each as often as it comes.
use Rattle.std.proofs.Common.{◌≡◌, ℕ, suc, ◌+◌, ◌*◌, ◌<◌, ◌≤◌, cond, eqb, List, [], ◌∷◌, length, get_or, sum_by, sym, refl, ap, ◌∙◌, add-mul, one-mul, arith}
use Rattle.std.specs.List.{AllByRecursion}
use Rattle.std.proofs.lemmas.List.Sums.{sum_by-cons}
use Rattle.std.proofs.ByRecursion.{All-from_get_or}
use Rattle.std.proofs.lemmas.Bool.{eq-eqb, ne_eqb, cond-true, cond-false}
use Rattle.pictures.specs.Raster.{Raster, Sound, size}
use Rattle.histogram.specs.Levels.{zeros}
use Rattle.histogram.specs.Totals.{sum_of, one, pixels}
use Rattle.histogram.specs.Counts.{count, histogram_of}
use Rattle.histogram.proofs.Eachs.{each_at, zeros-at}
use Rattle.histogram.proofs.Laws.{sum-suc, sum-join, sum_same, sum-empty}

-- One pixel of level x more.
one_more : (f : ℕ → ℕ) (h k : List ℕ) (x z : ℕ) → x < z → ((j : ℕ) → j < z → (j ≡ x → ⊥) → get_or k j 0 ≡ get_or h j 0) → get_or k x 0 ≡ 1 + get_or h x 0
    → sum_of f k 0 z ≡ f x + sum_of f h 0 z
one_more f h k x z l other here =
    let low : sum_of f k 0 x ≡ sum_of f h 0 x = sum_same f f k h 0 x (λ j a b. ap (λ n. n * f j) (other j (omega arith) (λ e. omega arith))) in
    let high : sum_of f k (suc x) z ≡ sum_of f h (suc x) z = sum_same f f k h (suc x) z (λ j a b. ap (λ n. n * f j) (other j b (λ e. omega arith))) in
    let at = ap (λ n. n * f x) here ∙ add-mul 1 (get_or h x 0) (f x) ∙ ap (λ n. n + get_or h x 0 * f x) (one-mul (f x)) in
    omega (
      arith,
      sum-join f k 0 (suc x) z (omega arith) l,
      sum-join f h 0 (suc x) z (omega arith) l,
      sum-suc f k 0 x (omega arith),
      sum-suc f h 0 x (omega arith),
      low,
      high,
      at,
    )

count_same : (x : ℕ) (xs : List ℕ) → count (x ∷ xs) x ≡ 1 + count xs x
count_same x xs = sum_by-cons (λ v. cond (eqb v x) 1 0) x xs ∙ ap (λ n. n + count xs x) (cond-true {A = ℕ} (eqb x x) 1 0 (eq-eqb x x refl))

count-other : (x j : ℕ) (xs : List ℕ) → (j ≡ x → ⊥) → count (x ∷ xs) j ≡ count xs j
count-other x j xs d = omega (arith, sum_by-cons (λ v. cond (eqb v j) 1 0) x xs, cond-false {A = ℕ} (eqb x j) 1 0 (ne_eqb x j (λ e. d (sym e))))

pub weighed : (f : ℕ → ℕ) (xs : List ℕ) → AllByRecursion (λ v. v ≤ 255) xs → sum_of f (histogram_of xs) 0 256 ≡ sum_by f xs
weighed f [] a = sum-empty f (histogram_of []) 0 256 (λ j l m. each_at (λ i. count [] i) j m)
weighed f (x ∷ xs) a =
    let at : (j : ℕ) → j < 256 → get_or (histogram_of xs) j 0 ≡ count xs j = λ j l. each_at (λ i. count xs i) j l in
    let more : (j : ℕ) → j < 256 → get_or (histogram_of (x ∷ xs)) j 0 ≡ count (x ∷ xs) j = λ j l. each_at (λ i. count (x ∷ xs) i) j l in
    let low : x < 256 = omega (arith, a.0) in
    one_more f (histogram_of xs) (histogram_of (x ∷ xs)) x 256 low
    (λ j l d. more j l ∙ count-other x j xs d ∙ sym (at j l))
    (more x low ∙ count_same x xs ∙ ap (λ n. 1 + n) (sym (at x low)))
    ∙ omega (arith, weighed f xs a.1, sum_by-cons f x xs)

ones : (xs : List ℕ) → sum_by one xs ≡ length xs
ones [] = refl
ones (x ∷ xs) = omega (arith, sum_by-cons one x xs, ones xs)

pub all-low : (p : Raster) → Sound p → AllByRecursion (λ v. v ≤ 255) p.levels
all-low p s = All-from_get_or (λ v. v ≤ 255) p.levels 0 (λ i _. s.bytes i)

pub pixels-of : (p : Raster) → Sound p → pixels (histogram_of p.levels) ≡ size p
pixels-of p s = weighed one p.levels (all-low p s) ∙ ones p.levels

pub pixels-zeros : pixels zeros ≡ 0
pixels-zeros = sum-empty one zeros 0 256 (λ j l m. zeros-at j m)
