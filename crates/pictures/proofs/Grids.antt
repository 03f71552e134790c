-- What a grid over some samples means.
use Rattle.std.proofs.Common.{◌≡◌, ℕ, ◌+◌, ◌*◌, ◌≤◌, true, false, ◌&&◌, ltb, List, length, get_or, take, Some, None, Bool, cond, ◌<◌, sym, refl, ap, ◌∙◌, arith}
use Rattle.std.specs.List.{slice_get}
use Rattle.std.proofs.lemmas.Bool.{cond-true, and_parts, ltb-true, lt-ltb}
use Rattle.std.proofs.lemmas.List.{get_or-take}
use Rattle.std.proofs.lemmas.Nat.{mul-add-lt}
use Rattle.std.proofs.lemmas.Option.{cond_some, slice_get-get_or}
use Rattle.pictures.specs.declared.bytes.BytePicture.{BytePicture}
use Rattle.pictures.specs.declared.grid.Grid.{Grid}
use Rattle.pictures.specs.declared.grid.Samples.{Samples}
use Rattle.pictures.specs.Raster.{raster, level_at}
use Rattle.pictures.specs.Grids.{index_in, sample_in, grid_showing}
use Rattle.pictures.specs.Bytes.{columns_given, whole_rows, byte_raster}
use Rattle.pictures.proofs.Places.{showing-rows}

-- Whatever the samples are, a grid's whole rows are there.
pub grid-rows : {S : Type 0} (s : Samples S) (ls : List ℕ) → length ls ≡ length s.samples.now → ((i : ℕ) → get_or ls i 0 ≤ 255)
    → grid_showing s.grid ls ≡ raster s.grid.columns s.grid.rows (take (s.grid.columns * s.grid.rows) ls)
grid-rows s ls l h = showing-rows s.grid.columns s.grid.rows ls s.grid.narrow s.grid.low (omega (arith, s.held)) h

-- A grid of some samples for a column count means the picture of their levels.
pub grid-given : {S : Type 0} (c : ℕ) (s : Samples S) (ss : List S) (ls : List ℕ) → s.samples.now ≡ ss → length ls ≡ length ss
    → s.grid.columns ≡ columns_given c → s.grid.rows ≡ whole_rows (columns_given c) (length ss) → ((i : ℕ) → get_or ls i 0 ≤ 255) → grid_showing s.grid ls ≡ byte_raster c ls
grid-given c s ss ls i l e f h =
    grid-rows s ls (l ∙ ap length (sym i)) h
    ∙ ap (λ k. raster k s.grid.rows (take (k * s.grid.rows) ls)) e
    ∙ ap (λ n. raster (columns_given c) n (take (columns_given c * n) ls)) (f ∙ ap (whole_rows (columns_given c)) (sym l))

-- The level at a place of a grid.
pub grid-at : {S : Type 0} (s : Samples S) (ls : List ℕ) (x y : ℕ) → length ls ≡ length s.samples.now → ((i : ℕ) → get_or ls i 0 ≤ 255)
    → cond (ltb x s.grid.columns && ltb y s.grid.rows) (slice_get ls (y * s.grid.columns + x)) None ≡ level_at (grid_showing s.grid ls) x y
grid-at s ls x y l h = go (ltb x g.columns && ltb y g.rows) refl ∙ ap (λ p. level_at p x y) (sym (grid-rows s ls l h))
  where
    g : Grid
    g = s.grid

    at : ℕ
    at = y * g.columns + x

    n : ℕ
    n = g.columns * g.rows

    go : (b : Bool) → b ≡ (ltb x g.columns && ltb y g.rows) → cond b (slice_get ls at) None ≡ cond b (Some (get_or (take n ls) at 0)) None
    go false e = refl
    go true e =
        let q = and_parts (ltb x g.columns) (ltb y g.rows) (sym e) in
        let m : at < n = mul-add-lt y g.columns x g.rows (ltb-true y g.rows q.1) (ltb-true x g.columns q.0) in
        slice_get-get_or ls at 0 (omega (arith, s.held)) ∙ ap (λ (v : ℕ). Some v) (sym (get_or-take n ls at 0 m))

-- A place inside has a sample.
pub index-inside : {S : Type 0} (s : Samples S) (x y : ℕ) → x < s.grid.columns → y < s.grid.rows → y * s.grid.columns + x < length s.samples.now
index-inside s x y h k = omega (arith, s.held, mul-add-lt y s.grid.columns x s.grid.rows k h)

-- The sample of a place that has a number.
pub sample-there : {S : Type 0} (s : Samples S) (x y at : ℕ) → index_in s.grid x y ≡ Some at → at < length s.samples.now
sample-there s x y at h =
    let q = cond_some (ltb x s.grid.columns && ltb y s.grid.rows) (y * s.grid.columns + x) at h in
    let p = and_parts (ltb x s.grid.columns) (ltb y s.grid.rows) q.0 in
    omega (arith, q.1, index-inside s x y (ltb-true x s.grid.columns p.0) (ltb-true y s.grid.rows p.1))

pub sample-is : {S : Type 0} (s : Samples S) (d : S) (x y at : ℕ) → index_in s.grid x y ≡ Some at → Some (get_or s.samples.now at d) ≡ sample_in s x y
sample-is s d x y at h =
    let q = cond_some (ltb x s.grid.columns && ltb y s.grid.rows) (y * s.grid.columns + x) at h in
    sym (cond-true (ltb x s.grid.columns && ltb y s.grid.rows) (slice_get s.samples.now (y * s.grid.columns + x)) None q.0 ∙ ap (slice_get s.samples.now) q.1 ∙ slice_get-get_or s.samples.now at d (sample-there s x y at h))

-- The sample at a place inside.
pub grid-inside : {S : Type 0} (s : Samples S) (d : S) (n x y : ℕ) → n ≡ s.grid.columns → x < n → y < s.grid.rows → sample_in s x y ≡ Some (get_or s.samples.now (y * n + x) d)
grid-inside s d n x y e h k =
    let g = s.grid in
    rw (lt-ltb x g.columns (omega arith), lt-ltb y g.rows k) (slice_get-get_or s.samples.now (y * g.columns + x) d (index-inside s x y (omega arith) k) ∙ ap (λ c. Some (get_or s.samples.now (y * c + x) d)) (sym e))

-- What a byte picture answers.
pub byte_level : (p : BytePicture) (x y : ℕ) → sample_in p.bytes x y ≡ level_at (grid_showing p.bytes.grid p.bytes.samples.now) x y
byte_level p x y = grid-at p.bytes p.bytes.samples.now x y refl p.levels
