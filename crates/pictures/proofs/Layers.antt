-- What a question to a picture that lies on another answers.
use Rattle.std.proofs.Common.{◌≡◌, ℕ, ◌+◌, ◌-◌, ◌*◌, ◌/◌, ◌<◌, min, Some, sym, ◌∙◌, arith}
use Rattle.pictures.specs.Raster.{Raster, level_at, place}
use Rattle.pictures.specs.Layers.{negated, windowed, block_sum, halved}
use Rattle.pictures.proofs.Places.{inside, drawn-inside, answered}

pub negated-some : (p : Raster) (x y v : ℕ) → Some v ≡ level_at p x y → Some (255 - v) ≡ level_at (negated p) x y
negated-some p x y v h =
    let a = answered p x y v h in
    rw a.is (sym (drawn-inside p.columns p.rows (λ i j. 255 - place p i j) x y a.column a.row))

pub windowed-inside : (left top c r : ℕ) (p : Raster) (x y : ℕ) → x < min c (p.columns - left) → y < min r (p.rows - top)
    → level_at p (left + x) (top + y) ≡ level_at (windowed left top c r p) x y
windowed-inside left top c r p x y h k =
    inside p (left + x) (top + y) (omega arith) (omega arith)
    ∙ sym (drawn-inside (min c (p.columns - left)) (min r (p.rows - top)) (λ i j. place p (left + i) (top + j)) x y h k)

pub halved-some : (p : Raster) (x y a b c d : ℕ) → x < p.columns / 2 → y < p.rows / 2
    → Some a ≡ level_at p (2 * x) (2 * y) → Some b ≡ level_at p (2 * x + 1) (2 * y) → Some c ≡ level_at p (2 * x) (2 * y + 1) → Some d ≡ level_at p (2 * x + 1) (2 * y + 1)
    → Some ((a + b + c + d) / 4) ≡ level_at (halved p) x y
halved-some p x y a b c d h k ea eb ec ed =
    rw ((answered p _ _ a ea).is, (answered p _ _ b eb).is, (answered p _ _ c ec).is, (answered p _ _ d ed).is)
    (sym (drawn-inside (p.columns / 2) (p.rows / 2) (λ i j. block_sum p i j / 4) x y h k))
