-- How many bytes at the front pass a test.
use Rattle.std.proofs.Common.{◌≡◌, ℕ, zero, suc, ◌+◌, ◌<◌, ◌≤◌, Bool, true, false, cond, List, [], ◌∷◌, ◌++◌, length, get_or, take, drop, refl, ap, ◌∙◌, arith}
use Rattle.std.specs.List.{AllByRecursion}
use Rattle.std.proofs.lemmas.List.{at_drop_more}
use Rattle.pgm_reader.specs.Format.{run, starts}

-- one byte more that passes
pub run_more : (t : ℕ → Bool) (xs : List ℕ) (i : ℕ) → i < length xs → t (get_or xs i 0) ≡ true → run t xs ≡ i + run t (drop i xs) → run t xs ≡ i + 1 + run t (drop (i + 1) xs)
run_more t xs i h e inv =
    let s : run t (drop i xs) ≡ suc (run t (drop (i + 1) xs)) = at_drop_more (run t) xs i 0 h ∙ ap (λ v. cond v (suc (run t (drop (i + 1) xs))) 0) e in
    omega (arith, s, inv)

pub run-le : (t : ℕ → Bool) (bs : List ℕ) → run t bs ≤ length bs
run-le t [] = omega arith
run-le t (b ∷ bs) = grind (arith, run-le t bs)

pub all-run : (t : ℕ → Bool) (bs : List ℕ) → AllByRecursion (λ b. t b ≡ true) (take (run t bs) bs)
all-run t [] = tt
all-run t (b ∷ bs) = by (t b) refl (all-run t bs)
  where
    by : (v : Bool) → t b ≡ v → AllByRecursion (λ b. t b ≡ true) (take (run t bs) bs) → AllByRecursion (λ b. t b ≡ true) (take (cond v (suc (run t bs)) 0) (b ∷ bs))
    by true e h = (e, h)
    by false e h = tt

pub run-some : (t : ℕ → Bool) (bs : List ℕ) → starts t bs ≡ true → 0 < run t bs
run-some t [] h = grind arith
run-some t (b ∷ bs) h = grind arith

pub run-front : (t : ℕ → Bool) (ws rest : List ℕ) → AllByRecursion (λ b. t b ≡ true) ws → starts t rest ≡ false → run t (ws ++ rest) ≡ length ws
run-front t [] [] a h = refl
run-front t [] (b ∷ bs) a h = grind arith
run-front t (w ∷ ws) rest a h = grind (arith, a.0, run-front t ws rest a.1 h)

-- a list that is one run
pub run-full : (t : ℕ → Bool) (ws : List ℕ) → AllByRecursion (λ b. t b ≡ true) ws → run t ws ≡ length ws
run-full t [] a = refl
run-full t (w ∷ ws) a = grind (arith, a.0, run-full t ws a.1)

pub full-run : (t : ℕ → Bool) (ws : List ℕ) → run t ws ≡ length ws → AllByRecursion (λ b. t b ≡ true) ws
full-run t [] e = tt
full-run t (w ∷ ws) e = (grind arith, full-run t ws (grind arith))

pub starts-front : (t : ℕ → Bool) (ws rest : List ℕ) → starts t ws ≡ true → starts t (ws ++ rest) ≡ true
starts-front t [] rest h = grind arith
starts-front t (w ∷ ws) rest h = h

pub starts-all : (t : ℕ → Bool) (ws : List ℕ) → AllByRecursion (λ b. t b ≡ true) ws → 0 < length ws → starts t ws ≡ true
starts-all t [] a h = absurd (omega arith)
starts-all t (w ∷ ws) a h = a.0

pub starts-take : (t : ℕ → Bool) (bs : List ℕ) (n : ℕ) → 0 < n → starts t bs ≡ true → starts t (take n bs) ≡ true
starts-take t [] n h e = grind arith
starts-take t (b ∷ bs) zero h e = absurd (omega arith)
starts-take t (b ∷ bs) (suc n) h e = e
