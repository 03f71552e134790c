-- The first clipped sample of a dose picture, row by row.
use Rattle.std.specs.Prelude.{◌≡◌, ℕ, ◌+◌, ◌*◌, ◌/◌, ◌%◌, ◌<◌, true, false, List, Some, None, Option, slice_index_or, Float}
use Rattle.std.specs.Float.{nan}
use Rattle.std.specs.Option.{option_map}
use Rattle.doses.specs.declared.Place.{Place}
use Rattle.pictures.specs.Firsts.{first_below}
use Rattle.doses.specs.Dose.{clips}

-- The place of the sample number i in c columns.
abbrev pub place_of : ℕ → ℕ → Place
place_of c i = record { x = i % c; y = i / c }

-- The first of the clipped samples of c columns and r rows; none where there is none.
abbrev pub first_clip : ℕ → ℕ → List Float → Option Place
first_clip c r ss = option_map (place_of c) (first_below (r * c) (λ i. clips (slice_index_or ss i nan)))

-- No sample before the sample number n is clipped.
abbrev pub ClearTo : List Float → ℕ → Type 0
ClearTo ss n = (k : ℕ) → k < n → clips (slice_index_or ss k nan) ≡ false

-- In other words: the place is inside, its sample is clipped and none before it; or no sample is.
abbrev pub FirstClip : ℕ → ℕ → List Float → Option Place → Type 0
FirstClip c r ss None = ClearTo ss (r * c)
FirstClip c r ss (Some p) = (p.x < c) × (p.y < r) × (clips (slice_index_or ss (p.y * c + p.x) nan) ≡ true) × ClearTo ss (p.y * c + p.x)
