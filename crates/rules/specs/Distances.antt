-- Distances between two levels.
use Rattle.std.specs.Prelude.{ℕ, ◌+◌, ◌-◌, ◌*◌, cond, nat_le}

abbrev pub gap : ℕ → ℕ → ℕ
gap a b = (a - b) + (b - a)

-- The three rules.
abbrev pub squares : ℕ → ℕ → ℕ
squares a b = gap a b * gap a b

abbrev pub absolute : ℕ → ℕ → ℕ
absolute a b = gap a b

abbrev pub tolerance : ℕ → ℕ → ℕ → ℕ
tolerance t a b = cond (nat_le (gap a b) t) 0 1
