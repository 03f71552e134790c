-- A walk over a picture, row by row, and the histogram of what it has passed.
use Rattle.std.proofs.Common.{◌≡◌, ℕ, ◌+◌, ◌*◌, ◌<◌, ◌≤◌, cond, eqb, ◌≢◌, List, [], ◌∷◌, ◌++◌, length, get_or, take, set, Some, sym, refl, ap, ◌∙◌, subst, ⊎_elim, add_assoc, mul_comm, zero-mul, arith, length-take}
use Rattle.std.proofs.lemmas.List.{ext_get_or, length-set, get_or-set_same, get_or-set_other, take_more}
use Rattle.std.proofs.lemmas.List.Sums.{sum_by_push, count_by-le-length}
use Rattle.std.proofs.lemmas.Bool.{cases_eq, eq-eqb, ne_eqb, cond-true, cond-false}
use Rattle.std.proofs.lemmas.Nat.{mul-le, mul-add-lt}
use Rattle.pictures.specs.Raster.{Raster, Sound, level_at}
use Rattle.pictures.proofs.Places.{answered}
use Rattle.histogram.specs.Levels.{each, zeros}
use Rattle.histogram.specs.Counts.{count, histogram_of}
use Rattle.histogram.proofs.Eachs.{each_at, each_long}

-- What was answered at a place, by the place's number in a walk; n is the number of columns.
pub record Seen (p : Raster) (i v : ℕ) : Type 0 where
  pub byte : v < 256
  pub within : i < length p.levels
  pub is : v ≡ get_or p.levels i 0

pub seen : (p : Raster) → Sound p → (n x y v : ℕ) → n ≡ p.columns → Some v ≡ level_at p x y → Seen p (y * n + x) v
seen p s n x y v e h =
    let a = answered p x y v h in
    subst (λ k. Seen p (y * k + x) v) (sym e) (record {
      byte = omega (arith, a.is, s.bytes (y * p.columns + x));
      within = omega (arith, mul-add-lt y p.columns x p.rows a.row a.column, s.whole);
      is = a.is;
    })

pub rows-done : (p : Raster) → Sound p → (y n : ℕ) → n ≡ p.columns → y ≡ p.rows → y * n ≡ length p.levels
rows-done p s y n e q = rw (e, q) (mul_comm p.rows p.columns ∙ sym s.whole)

counted-push : (xs : List ℕ) (v : ℕ) → v < 256 → set (histogram_of xs) v (get_or (histogram_of xs) v 0 + 1) ≡ histogram_of (xs ++ v ∷ [])
counted-push xs v h =
    ext_get_or 0 _ _ (length-set (histogram_of xs) v _ ∙ each_long (count xs) ∙ sym (each_long (count (xs ++ v ∷ []))))
    (λ k l.
    let l' : k < 256 = omega (arith, length-set (histogram_of xs) v (get_or (histogram_of xs) v 0 + 1), each_long (count xs)) in
    let w : v < length (histogram_of xs) = omega (arith, each_long (count xs)) in
    let t = each_at (count (xs ++ v ∷ [])) k l' in
    let p = sum_by_push (λ u. cond (eqb u k) 1 0) xs v in
    ⊎_elim
    (λ (q : k ≡ v).
    let z = cond-true {A = ℕ} (eqb v k) 1 0 (eq-eqb v k (sym q)) in
    rw (q, get_or-set_same) (omega (arith, each_at (count xs) v h, subst (λ m. get_or (histogram_of (xs ++ v ∷ [])) m 0 ≡ count (xs ++ v ∷ []) m) q t, subst (λ m. count (xs ++ v ∷ []) m ≡ count xs m + cond (eqb v m) 1 0) q p, subst (λ m. ◌≡◌ {A = ℕ} (cond (eqb v m) 1 0) 1) q z)))
    (λ (q : k ≢ v).
    let z = cond-false {A = ℕ} (eqb v k) 1 0 (ne_eqb v k (λ e. q (sym e))) in
    rw get_or-set_other (omega (arith, each_at (count xs) k l', t, p, z)))
    (cases_eq k v))

pub counted_none : (n : ℕ) (xs : List ℕ) → zeros ≡ histogram_of (take (0 * n) xs)
unfolding zeros each
counted_none n xs = rw zero-mul refl

-- One pixel of a walk; h is the histogram before it and m after.
pub counted-more : (p : Raster) → Sound p → (n x y v : ℕ) → n ≡ p.columns → Some v ≡ level_at p x y → (h m : List ℕ)
    → h ≡ histogram_of (take (y * n + x) p.levels) → m ≡ set h v (get_or h v 0 + 1) → m ≡ histogram_of (take (y * n + (x + 1)) p.levels)
counted-more p s n x y v e f h m i j =
    let a = seen p s n x y v e f in
    let xs = p.levels in
    let k = y * n + x in
    j ∙ ap (λ q. set q v (get_or q v 0 + 1)) i ∙ counted-push (take k xs) v a.byte
    ∙ ap histogram_of (ap (λ w. take k xs ++ w ∷ []) a.is ∙ sym (take_more xs k 0 a.within))
    ∙ ap (λ q. histogram_of (take q xs)) (add_assoc (y * n) x 1)

-- No count passes the number of pixels that a picture can have.
pub counted-few : (p : Raster) → Sound p → (i v : ℕ) → v < 256 → get_or (histogram_of (take i p.levels)) v 0 ≤ 16777216
counted-few p s i v h =
    let m = mul-le p.columns p.rows 4096 4096 s.narrow s.low in
    omega (arith, each_at (count (take i p.levels)) v h, count_by-le-length (λ u. eqb u v) (take i p.levels), length-take i p.levels, m, s.whole)
