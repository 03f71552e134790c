-- Which number is the first that passes a test.
use Rattle.std.proofs.Common.{◌≡◌, ℕ, zero, suc, ◌+◌, ◌<◌, ◌≤◌, Bool, true, false, Some, None, filter, refl, ap, ◌∙◌, ⊎_elim, arith}
use Rattle.std.specs.List.{slice_get, range_with_len}
use Rattle.std.proofs.lemmas.Bool.{cases_eq}
use Rattle.pictures.specs.Firsts.{first_below}

module _ (test : ℕ → Bool) where
  from : (n a v : ℕ) → a ≤ v → v < a + n → test v ≡ true → ((j : ℕ) → j < v → test j ≡ false) → slice_get (filter test (range_with_len a n)) 0 ≡ Some v
  from zero a v l m t f = absurd (omega arith)
  from (suc n) a v l m t f =
      ⊎_elim
      (λ (e : a ≡ v). rw (ap test e ∙ t) (ap (λ (x : ℕ). Some x) e))
      (λ (d : a ≡ v → ⊥). rw (f a (omega arith)) (from n (a + 1) v (omega arith) (omega arith) t f))
      (cases_eq a v)

  none_from : (n a : ℕ) → ((j : ℕ) → j < a + n → test j ≡ false) → slice_get (filter test (range_with_len a n)) 0 ≡ None
  none_from zero a f = refl
  none_from (suc n) a f = rw (f a (omega arith)) (none_from n (a + 1) (λ j l. f j (omega arith)))

  pub first_found : (n v : ℕ) → v < n → test v ≡ true → ((j : ℕ) → j < v → test j ≡ false) → first_below n test ≡ Some v
  first_found n v l t f = from n 0 v (omega arith) (omega arith) t f

  pub first-none : (n : ℕ) → ((j : ℕ) → j < n → test j ≡ false) → first_below n test ≡ None
  first-none n f = none_from n 0 (λ j l. f j (omega arith))
