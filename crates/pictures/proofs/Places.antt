-- What a question about a place answers.
use Rattle.std.proofs.Common.{◌≡◌, ℕ, ◌+◌, ◌*◌, ◌/◌, ◌%◌, ◌<◌, ◌≤◌, min, ◌&&◌, ltb, leb, List, length, get_or, take, Some, None, sym, ap, ◌∙◌, mul_comm, arith}
use Rattle.std.proofs.lemmas.Bool.{lt-ltb, le-leb, and_parts, ltb-true, cond-true}
use Rattle.std.proofs.lemmas.List.FromFn.{fill_by_all}
use Rattle.std.proofs.lemmas.List.{length-take-le, get_or-take, take_all}
use Rattle.std.proofs.lemmas.Option.{cond_some, none-some}
use Rattle.std.proofs.lemmas.Nat.{div-add-mod', div-mul-add}
use Rattle.pictures.specs.Raster.{Raster, raster, level_at, place}
use Rattle.pictures.specs.Drawn.{drawn, drawn-place}
use Rattle.pictures.specs.Bytes.{columns_given, whole_rows, rows_of, byte_raster, showing}

pub inside : (p : Raster) (x y : ℕ) → x < p.columns → y < p.rows → level_at p x y ≡ Some (place p x y)
inside p x y h k = rw (lt-ltb x p.columns h, lt-ltb y p.rows k)

pub drawn-inside : (c r : ℕ) (g : ℕ → ℕ → ℕ) (x y : ℕ) → x < c → y < r → level_at (drawn c r g) x y ≡ Some (g x y)
drawn-inside c r g x y h k = inside (drawn c r g) x y h k ∙ ap (λ (v : ℕ). Some v) (drawn-place c r g x y h k)

-- A level that was answered stands at its place.
pub record Answered (p : Raster) (x y v : ℕ) : Type 0 where
  pub column : x < p.columns
  pub row : y < p.rows
  pub is : v ≡ place p x y

pub answered : (p : Raster) (x y v : ℕ) → Some v ≡ level_at p x y → Answered p x y v
answered p x y v h =
    let q = cond_some (ltb x p.columns && ltb y p.rows) (place p x y) v (sym h) in
    let r = and_parts (ltb x p.columns) (ltb y p.rows) q.0 in
    record { column = ltb-true x p.columns r.0; row = ltb-true y p.rows r.1; is = sym q.1 }

-- Inside, none is never the answer.
pub never-none : (p : Raster) (x y : ℕ) → x < p.columns → y < p.rows → None ≡ level_at p x y → ⊥
never-none p x y h k e = none-some (place p x y) (e ∙ inside p x y h k)

-- Columns and rows that fit some levels mean the first levels, row by row.
pub showing-rows : (c r : ℕ) (bs : List ℕ) → c ≤ 4096 → r ≤ 4096 → c * r ≤ length bs → ((i : ℕ) → get_or bs i 0 ≤ 255) → showing c r bs ≡ raster c r (take (c * r) bs)
showing-rows c r bs n l w h =
    let e : min c 4096 ≡ c = omega arith in
    let f : min r 4096 ≡ r = omega arith in
    ap (λ k. drawn k (min r 4096) (λ x y. min 255 (get_or bs (y * k + x) 0))) e ∙ ap (λ k. drawn c k (λ x y. min 255 (get_or bs (y * c + x) 0))) f
    ∙ ap (raster c r) (sym (fill_by_all (λ i. min 255 (get_or bs (i / c * c + i % c) 0)) (take (c * r) bs) (c * r) 0 (length-take-le (c * r) bs w)
    (λ k q. get_or-take (c * r) bs k 0 q ∙ (let m = h k in let z : get_or bs k 0 ≡ min 255 (get_or bs k 0) = omega arith in z) ∙ ap (λ i. min 255 (get_or bs i 0)) (sym (div-add-mod' k c)))))

-- Bytes that are whole rows and no more mean all of them.
pub byte-whole : (c r : ℕ) (bs : List ℕ) → 1 ≤ c → c ≤ 4096 → r ≤ 4096 → length bs ≡ c * r → byte_raster c bs ≡ raster c r bs
byte-whole c r bs low n m l =
    let q : columns_given c ≡ c = cond-true (leb c 4096) c 0 (le-leb c 4096 n) in
    let z : length bs ≡ r * c + 0 = omega (arith, l, mul_comm c r) in
    let d : length bs / c ≡ r = ap (λ k. k / c) z ∙ div-mul-add r c 0 low in
    let s : whole_rows c (length bs) ≡ r = cond-true (ltb 0 c) (min 4096 (length bs / c)) 0 (lt-ltb 0 c low) ∙ omega (arith, d) in
    ap (λ k. rows_of k bs) q ∙ ap (λ k. raster c k (take (c * k) bs)) s ∙ ap (raster c r) (take_all (c * r) bs (omega (arith, l)))
