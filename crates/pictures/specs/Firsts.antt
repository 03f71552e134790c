-- The first of the numbers below n that passes a test; none where none does.
use Rattle.std.specs.Prelude.{ℕ, Bool, filter, Option}
use Rattle.std.specs.List.{slice_get, range_with_len}

abbrev pub first_below : ℕ → (ℕ → Bool) → Option ℕ
first_below n test = slice_get (filter test (range_with_len 0 n)) 0
