-- Pictures that are drawn place by place. Every kind of picture is one, so that soundness and places are argued once.
use Rattle.std.specs.Prelude.{◌≡◌, ℕ, ◌+◌, ◌*◌, ◌/◌, ◌%◌, ◌<◌, ◌≤◌, map, length, slice_index}
use Rattle.std.proofs.Common.{◌∙◌, ⊎_elim, arith}
use Rattle.std.specs.List.{range_with_len}
use Rattle.std.proofs.lemmas.List.{get_or_past}
use Rattle.std.proofs.lemmas.List.FromFn.{length-map-range_with_len, get_or-map-range_with_len}
use Rattle.std.proofs.lemmas.Nat.{mul-add-lt, div-mul-add, mod-mul-add}
use Rattle.std.proofs.lemmas.Bool.{cases_lt}
use Rattle.pictures.specs.Raster.{Raster, Sound, raster, place}

-- The picture of c columns and r rows with the level g x y at column x of row y.
abbrev pub drawn : ℕ → ℕ → (ℕ → ℕ → ℕ) → Raster
drawn c r g = raster c r (map (λ i. g (i % c) (i / c)) (range_with_len 0 (c * r)))

low-counted : (f : ℕ → ℕ) (n : ℕ) → ((i : ℕ) → f i ≤ 255) → (i : ℕ) → slice_index (map f (range_with_len 0 n)) i ≤ 255
low-counted f n h i =
    ⊎_elim
    (λ (l : i < n). rw (get_or-map-range_with_len f 0 n i i 0 l (omega arith)) (h i))
    (λ (l : n ≤ i). let q : length (map f (range_with_len 0 n)) ≤ i = rw length-map-range_with_len l in rw get_or_past (omega arith))
    (cases_lt i n)

pub drawn-sound : (c r : ℕ) (g : ℕ → ℕ → ℕ) → c ≤ 4096 → r ≤ 4096 → ((x y : ℕ) → g x y ≤ 255) → Sound (drawn c r g)
drawn-sound c r g n l h = record {
  narrow = n;
  low = l;
  whole = length-map-range_with_len (λ i. g (i % c) (i / c)) 0 (c * r);
  bytes = low-counted (λ i. g (i % c) (i / c)) (c * r) (λ i. h (i % c) (i / c));
}

pub drawn-place : (c r : ℕ) (g : ℕ → ℕ → ℕ) (x y : ℕ) → x < c → y < r → place (drawn c r g) x y ≡ g x y
drawn-place c r g x y h k =
    let q : y * c + x < c * r = mul-add-lt y c x r k h in
    get_or-map-range_with_len (λ i. g (i % c) (i / c)) 0 (c * r) (y * c + x) (y * c + x) 0 q (omega arith)
    ∙ rw (mod-mul-add y c x h, div-mul-add y c x h)
