-- The laws of the shut lists of 256 numbers.
use Rattle.std.proofs.Common.{◌≡◌, ℕ, ◌*◌, ◌<◌, List, length, get_or, replicate, sum, sym, refl, ap, mul-one, arith}
use Rattle.std.proofs.lemmas.List.{get_or-replicate}
use Rattle.std.proofs.lemmas.List.FromFn.{length-map-range_with_len, get_or-map-range_with_len, fill_by_all}
use Rattle.histogram.specs.Levels.{each, zeros}
use Rattle.histogram.specs.Totals.{sum_of, pixels}

pub each_at : (f : ℕ → ℕ) (j : ℕ) → j < 256 → get_or (each f) j 0 ≡ f j
unfolding each
each_at f j h = get_or-map-range_with_len f 0 256 j j 0 h (omega arith)

pub each_long : (f : ℕ → ℕ) → length (each f) ≡ 256
unfolding each
each_long f = length-map-range_with_len f 0 256

pub each_all : (f : ℕ → ℕ) (xs : List ℕ) → length xs ≡ 256 → ((k : ℕ) → k < 256 → get_or xs k 0 ≡ f k) → xs ≡ each f
unfolding each
each_all f xs e h = fill_by_all f xs 256 0 e h

pub zeros-is : replicate 256 0 ≡ zeros
unfolding zeros
zeros-is = refl

pub zeros-at : (j : ℕ) → j < 256 → get_or zeros j 0 ≡ 0
unfolding zeros
zeros-at j h = get_or-replicate 256 j 0 0 h

pub zeros-long : length zeros ≡ 256
unfolding zeros
zeros-long = refl

pub pixels-is : (h : List ℕ) → length h ≡ 256 → sum h ≡ pixels h
unfolding sum_of each
pixels-is h e = ap sum (each_all (λ j. get_or h j 0 * 1) h e (λ k _. sym (mul-one (get_or h k 0))))
