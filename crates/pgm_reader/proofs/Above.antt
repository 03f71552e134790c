-- The first byte above a limit.
use Rattle.std.proofs.Common.{◌≡◌, ℕ, ◌+◌, ◌≤◌, Bool, true, cond, ltb, leb, List, ◌∷◌, length, Some, None, sym, refl, ap, subst, arith, le-leb, leb-true}
use Rattle.std.specs.List.{AllByRecursion, position}
use Rattle.std.proofs.lemmas.List.Recursion.{is_position_or_len}
use Rattle.std.proofs.lemmas.List.{take_all}
use Rattle.std.proofs.ByRecursion.{All-weaker}
use Rattle.pgm_reader.specs.Format.{run, up_to, first_above_of}
use Rattle.pgm_reader.proofs.Runs.{all-run, run-full}

above-none : (top : ℕ) (xs : List ℕ) → length xs ≤ up_to top xs → first_above_of top xs ≡ None
above-none top xs h = grind arith

-- the first byte above top, in std's words
pub position_above : (top : ℕ) (xs : List ℕ) → position (λ b. ltb top b) xs ≡ first_above_of top xs
position_above top xs = ap (λ n. cond (ltb n (length xs)) (Some n) None) (sym (is_position_or_len (up_to top) (λ b. ltb top b) refl step xs))
  where
    step : (x : ℕ) (xs : List ℕ) → up_to top (x ∷ xs) ≡ cond (ltb top x) 0 (1 + up_to top xs)
    step x xs = grind arith

-- there is none exactly where all are up to it
pub none_above : (top : ℕ) (xs : List ℕ) → first_above_of top xs ≡ None → AllByRecursion (λ b. b ≤ top) xs
none_above top xs e =
    let t : ℕ → Bool = λ b. leb b top in
    let long : length xs ≤ up_to top xs = grind arith in
    let all : AllByRecursion (λ b. t b ≡ true) xs = subst (AllByRecursion (λ b. t b ≡ true)) (take_all (run t xs) xs long) (all-run t xs) in
    All-weaker (λ b. t b ≡ true) (λ b. b ≤ top) (λ b f. leb-true b top f) xs all

pub all_none : (top : ℕ) (xs : List ℕ) → AllByRecursion (λ b. b ≤ top) xs → first_above_of top xs ≡ None
all_none top xs all =
    let t : ℕ → Bool = λ b. leb b top in
    above-none top xs (omega (arith, run-full t xs (All-weaker (λ b. b ≤ top) (λ b. t b ≡ true) (λ b f. le-leb b top f) xs all)))
