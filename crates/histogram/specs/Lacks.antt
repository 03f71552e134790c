-- Whether a histogram h has all pixels of another, k.
use Rattle.std.specs.Prelude.{ℕ, ◌<◌, ◌≤◌, List, Option, nat_lt, slice_index}
use Rattle.pictures.specs.Firsts.{first_below}

-- The lowest level of which k has more pixels than h; none where h has all pixels of k.
unfoldable pub lacking : List ℕ → List ℕ → Option ℕ
lacking h k = first_below 256 (λ j. nat_lt (slice_index h j) (slice_index k j))

-- In other words: h has enough pixels of each level.
abbrev pub Covers : List ℕ → List ℕ → Type 0
Covers h k = (j : ℕ) → j < 256 → slice_index k j ≤ slice_index h j

-- h has too few pixels of level v, and enough of each lower one.
pub record Lacks (h k : List ℕ) (v : ℕ) : Type 0 where
  pub level : v < 256
  pub fewer : slice_index h v < slice_index k v
  pub lowest : (j : ℕ) → j < v → slice_index k j ≤ slice_index h j
