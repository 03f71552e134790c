-- A sample's level and its clipping, from the operations of floats.
use Rattle.std.proofs.Common.{◌≡◌, ℕ, ◌+◌, ◌*◌, ◌/◌, ◌<◌, ◌≤◌, Bool, true, false, not, ◌&&◌, ◌||◌, eqb, ltb, leb, List, map, length, get_or, Option, None, cond, pos, sym, refl, ap, ◌∙◌, inl, inr, ⊎_elim, div-lt_iff_lt-mul, mul-pos, le-div_iff_mul-le, zero-mul, mul-one, arith}
use native.Mathlib.Nat.{zero-div}
use lib.Ieee.{Float, nan, inf, fin, up, down, le, lt, eq, to_unsigned, of_bits, binary32}
use lib.Ieee.Fits.{up_pos, down_pos}
use Rattle.std.proofs.lemmas.List.{get_or-map, get_or_past, length-map}
use Rattle.std.proofs.lemmas.Bool.{cases_lt, cases_order, eq-eqb, ne_eqb, lt-ltb, le-ltb, le-leb, lt-leb, and_from, and_left, and_right, or_from, or_left, or_right}
use Rattle.std.specs.Option.{option_map}
use Rattle.std.specs.List.{slice_get}
use Rattle.std.proofs.lemmas.Option.{slice_get-map}
use Rattle.pictures.specs.declared.grid.Samples.{Samples}
use Rattle.pictures.specs.Raster.{level_at}
use Rattle.pictures.specs.Grids.{sample_in, grid_showing}
use Rattle.pictures.proofs.Grids.{grid-at}
use Rattle.doses.specs.Dose.{too_low, too_high, clips, dose_level_of}

-- How floats of one sign are compared.
at_most : (a b : ℕ) → (ltb a b || (eqb a b && true)) ≡ leb a b
at_most a b = elim (cases_order a b) [
  | inl e ↦ or_right (ltb a b) (eqb a b && true) (and_from (eqb a b) true (eq-eqb a b e) refl) ∙ sym (le-leb a b (omega arith))
  | inr (inl l) ↦ or_left (ltb a b) (eqb a b && true) (lt-ltb a b l) ∙ sym (le-leb a b (omega arith))
  | inr (inr l) ↦ or_from (ltb a b) (eqb a b && true) (le-ltb a b (omega arith)) (and_left (eqb a b) true (ne_eqb a b (λ e. omega arith))) ∙ sym (lt-leb a b l)
]

-- 256 is at most x.
high-test : (x : Float) → le (fin false 1 (pos 8)) x ≡ too_high x
unfolding le lt eq
high-test nan = refl
high-test (inf true) = refl
high-test (inf false) = refl
high-test (fin true m e) = and_right (eqb (256 * down e) (m * up e * 1)) (eqb (256 * down e) 0) (ne_eqb (256 * down e) 0 (λ z. let p = down_pos e in omega arith))
high-test (fin false m e) = at_most (256 * down e) (m * up e * 1) ∙ ap (leb (256 * down e)) (mul-one (m * up e))

-- 0 is at most x.
low-test : (x : Float) → le (fin false 0 (pos 0)) x ≡ not (too_low x)
unfolding le lt eq
low-test nan = refl
low-test (inf true) = refl
low-test (inf false) = refl
low-test (fin true m e) =
    let a = 0 * down e in
    let b = m * up e * 1 in
    let z : a ≡ 0 = zero-mul (down e) in
    ⊎_elim
    (λ (h : 0 < m). let p = mul-pos h (up_pos e) in and_left (eqb a b) (eqb a 0) (ne_eqb a b (λ q. omega (arith, mul-one (m * up e)))) ∙ ap not (sym (lt-ltb 0 m h)))
    (λ (h : m ≤ 0).
    let y : m ≡ 0 = omega arith in
    let k : b ≡ 0 = mul-one (m * up e) ∙ ap (λ n. n * up e) y ∙ zero-mul (up e) in
    and_from (eqb a b) (eqb a 0) (eq-eqb a b (z ∙ sym k)) (eq-eqb a 0 z) ∙ ap not (sym (le-ltb 0 m h)))
    (cases_lt 0 m)
low-test (fin false m e) =
    at_most (0 * down e) (m * up e * 1) ∙ le-leb (0 * down e) (m * up e * 1) (omega (arith, zero-mul (down e)))

-- A cast that keeps to the range of levels.
pub level-test : (x : Float) → to_unsigned 8 x ≡ dose_level_of x
unfolding to_unsigned
level-test nan = refl
level-test (inf true) = refl
level-test (inf false) = refl
level-test (fin true m e) =
    ⊎_elim
    (λ (h : 0 < m). rw (lt-ltb 0 m h) refl)
    (λ (h : m ≤ 0).
    let y : m ≡ 0 = omega arith in
    rw (le-ltb 0 m h) (sym (ap (λ n. n * up e / down e) y ∙ ap (λ n. n / down e) (zero-mul (up e)) ∙ zero-div (down e))))
    (cases_lt 0 m)
level-test (fin false m e) =
    ⊎_elim
    (λ (h : m * up e < 256 * down e). let k = (div-lt_iff_lt-mul (down_pos e)).1 h in rw (lt-leb (256 * down e) (m * up e) h) (omega arith))
    (λ (h : 256 * down e ≤ m * up e). let k = (le-div_iff_mul-le (down_pos e)).1 h in rw (le-leb (256 * down e) (m * up e) h) (omega arith))
    (cases_lt (m * up e) (256 * down e))

dose-low : (x : Float) → dose_level_of x ≤ 255
unfolding to_unsigned
dose-low nan = omega arith
dose-low (inf true) = omega arith
dose-low (inf false) = omega arith
dose-low (fin true m e) = omega (arith, level-test (fin true m e))
dose-low (fin false m e) = omega (arith, level-test (fin false m e))

-- The constants of the code.
literal-256 : of_bits binary32 1132462080 ≡ fin false 1 (pos 8)
unfolding of_bits
literal-256 = refl

literal-0 : of_bits binary32 0 ≡ fin false 0 (pos 0)
unfolding of_bits
literal-0 = refl

pub clips-then : (x : Float) → le (of_bits binary32 0) x ≡ true → le (of_bits binary32 1132462080) x ≡ clips x
clips-then x h =
    ap (λ y. le y x) literal-256 ∙ high-test x ∙ go (too_low x) (sym (low-test x) ∙ ap (λ y. le y x) (sym literal-0) ∙ h)
  where
    go : (b : Bool) → not b ≡ true → too_high x ≡ (b || too_high x)
    go true e = cc
    go false e = refl

pub clips-else : (x : Float) → le (of_bits binary32 0) x ≡ false → true ≡ clips x
clips-else x h = go (too_low x) (sym (low-test x) ∙ ap (λ y. le y x) (sym literal-0) ∙ h)
  where
    go : (b : Bool) → not b ≡ false → true ≡ (b || too_high x)
    go true e = refl
    go false e = cc

-- The levels of some samples, place by place.
pub dose-at : (ss : List Float) (i : ℕ) → get_or (map dose_level_of ss) i 0 ≡ dose_level_of (get_or ss i nan)
dose-at ss i =
    ⊎_elim
    (λ (l : i < length ss). get_or-map dose_level_of ss i nan 0 l)
    (λ (l : length ss ≤ i). get_or_past (map dose_level_of ss) i 0 (omega (arith, length-map ss dose_level_of)) ∙ ap dose_level_of (sym (get_or_past ss i nan l)))
    (cases_lt i (length ss))

pub doses-low : (ss : List Float) (i : ℕ) → get_or (map dose_level_of ss) i 0 ≤ 255
doses-low ss i = omega (arith, dose-at ss i, dose-low (get_or ss i nan))

-- The level of the sample at a place of a grid.
pub dose-place : (s : Samples Float) (x y : ℕ) (o : Option Float) → o ≡ sample_in s x y → option_map dose_level_of o ≡ level_at (grid_showing s.grid (map dose_level_of s.samples.now)) x y
dose-place s x y o e =
    let g = s.grid in
    ap (option_map dose_level_of) e ∙ go (ltb x g.columns && ltb y g.rows)
    ∙ grid-at s (map dose_level_of s.samples.now) x y (length-map s.samples.now dose_level_of) (doses-low s.samples.now)
  where
    go : (b : Bool) → option_map dose_level_of (cond b (slice_get s.samples.now (y * s.grid.columns + x)) None) ≡ cond b (slice_get (map dose_level_of s.samples.now) (y * s.grid.columns + x)) None
    go true = sym (slice_get-map dose_level_of s.samples.now (y * s.grid.columns + x))
    go false = refl
