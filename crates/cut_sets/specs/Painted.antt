-- The level that stands for a level in a cut set.
use Rattle.std.specs.Prelude.{◌≡◌, ℕ, ◌+◌, ◌<◌, ◌≤◌, cond, List, [], ◌∷◌, length, nat_le}
use Rattle.cut_sets.specs.declared.band.Band.{Band}
use Rattle.cut_sets.specs.Bands.{band_at}

-- That of the first band whose high reaches it; that of the last band for all levels above. Without a band, 0.
abbrev pub painted : List Band → ℕ → ℕ
painted [] v = 0
painted (b ∷ []) v = b.level
painted (b ∷ (c ∷ bs)) v = cond (nat_le v b.high) b.level (painted (c ∷ bs) v)

-- In other words: w is the level of a band such that all bands before it end below v, and it reaches v or is the last.
pub record Paints (bs : List Band) (v w : ℕ) : Type 0 where
  pub place : ℕ
  pub there : place < length bs
  pub passed : (i : ℕ) → i < place → (band_at bs i).high < v
  pub reached : place + 1 < length bs → v ≤ (band_at bs place).high
  pub is : w ≡ (band_at bs place).level
