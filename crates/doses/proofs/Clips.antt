-- A clip search that is right in words gives the first clipped sample.
use Rattle.std.proofs.Common.{◌≡◌, ℕ, ◌+◌, ◌*◌, ◌<◌, ◌≤◌, true, false, List, get_or, Some, None, Option, sym, ap, ◌∙◌, subst, ⊎_elim, mul_comm, arith}
use lib.Ieee.{Float, nan}
use Rattle.std.specs.Option.{option_map}
use Rattle.std.proofs.lemmas.Bool.{cases_lt}
use Rattle.std.proofs.lemmas.Nat.{mul-le, mul-add-lt, div-mul-add, mod-mul-add}
use Rattle.doses.specs.declared.Place.{Place}
use Rattle.doses.specs.Dose.{clips}
use Rattle.doses.specs.Clips.{place_of, ClearTo, first_clip, FirstClip}
use Rattle.pictures.proofs.Firsts.{first_found, first-none}

same_place : (p q : Place) → p.x ≡ q.x → p.y ≡ q.y → p ≡ q
same_place p q e f = λ i. record { x = e i; y = f i }

pub first-clip : (c r : ℕ) (ss : List Float) (o : Option Place) → FirstClip c r ss o → o ≡ first_clip c r ss
first-clip c r ss None h = sym (ap (option_map (place_of c)) (first-none (λ i. clips (get_or ss i nan)) (r * c) h))
first-clip c r ss (Some p) h =
    let at = p.y * c + p.x in
    let l : at < r * c = omega (arith, mul-add-lt p.y c p.x r h.1 h.0, mul_comm c r) in
    ap (λ (q : Place). Some q) (same_place p (place_of c at) (sym (mod-mul-add p.y c p.x h.0)) (sym (div-mul-add p.y c p.x h.0)))
    ∙ sym (ap (option_map (place_of c)) (first_found (λ i. clips (get_or ss i nan)) (r * c) at l h.2 h.3))

-- One sample more that is not clipped.
pub clear-more : (ss : List Float) (n : ℕ) → ClearTo ss n → clips (get_or ss n nan) ≡ false → ClearTo ss (n + 1)
clear-more ss n f t k h =
    ⊎_elim
    (λ (l : k < n). f k l)
    (λ (l : n ≤ k). let e : n ≡ k = omega arith in subst (λ m. clips (get_or ss m nan) ≡ false) e t)
    (cases_lt k n)

-- What a search over all rows of n columns has passed, and what one that stopped in row y has found.
module _ (c r n : ℕ) (ss : List Float) (e : n ≡ c) (y : ℕ) where
  pub clear-all : r ≤ y → ClearTo ss (y * n) → FirstClip c r ss None
  clear-all l h = λ k m. h k (omega (arith, mul-le r c y n l (omega arith)))

  pub clip-found : (x : ℕ) → x < n → y < r → true ≡ clips (get_or ss (y * n + x) nan) → ClearTo ss (y * n + x) → FirstClip c r ss (Some (record { x = x; y = y }))
  clip-found x h k t f = (
    omega arith,
    k,
    subst (λ m. clips (get_or ss (y * m + x) nan) ≡ true) e (sym t),
    subst (λ m. ClearTo ss (y * m + x)) e f,
  )
