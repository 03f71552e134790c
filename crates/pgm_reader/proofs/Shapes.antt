-- The three numbers of a header.
use Rattle.std.proofs.Common.{◌≡◌, ℕ, ◌+◌, ◌≤◌, true, List, [], ◌∷◌, length, Ok, Err, Result, refl, ap, arith}
use Rattle.faults.specs.Faults.{and_then}
use Rattle.faults.specs.declared.Fault.{Fault}
use Rattle.pgm_reader.specs.declared.header.Shape.{Shape}
use Rattle.pgm_reader.specs.Format.{white, Found, closes, number_at, header_rule, to_rows, to_maxval, shape, shape_of}
use Rattle.pgm_reader.proofs.Numbers.{Divides, divides, divides-length}

pub then_ok : {X Y : Type 0} (r : Result X Fault) (k : X → Result Y Fault) (y : Y) → and_then r k ≡ Ok y → (x : X) × (r ≡ Ok x) × (k x ≡ Ok y)
then_ok (Ok x) k y h = (x, refl, h)
then_ok (Err e) k y h = grind arith

-- the three numbers of an accepted header, one behind the other
pub record Parts (bs : List ℕ) (s : Shape) : Type 0 where
  pub c : Found
  pub r : Found
  pub m : Found
  pub columns : Divides (header_rule 4096) 2 bs c
  pub rows : Divides (header_rule 4096) c.place c.rest r
  pub maxval : Divides (header_rule 255) r.place r.rest m
  pub is : s ≡ shape c.value r.value m.value (m.place + 1)

pub parts : (bs : List ℕ) (s : Shape) → shape_of bs ≡ Ok s → Parts bs s
parts bs s h =
    let size = header_rule 4096 in
    let top = header_rule 255 in
    let c = then_ok (number_at size 2 bs) (λ c. to_rows c.value (number_at size c.place c.rest)) s h in
    let r = then_ok (number_at size c.0.place c.0.rest) (λ r. to_maxval c.0.value r.value (number_at top r.place r.rest)) s c.2 in
    let m = then_ok (number_at top r.0.place r.0.rest) (λ m. Ok (shape c.0.value r.0.value m.value (m.place + 1))) s r.2 in
    record {
      c = c.0;
      r = r.0;
      m = m.0;
      columns = divides size 2 bs c.0 c.1;
      rows = divides size c.0.place c.0.rest r.0 r.1;
      maxval = divides top r.0.place r.0.rest m.0 m.1;
      is = same c.0 r.0 m.0 m.2;
    }
  where
    same : (c r m : Found) → ◌≡◌ {A = Result Shape Fault} (Ok (shape c.value r.value m.value (m.place + 1))) (Ok s) → s ≡ shape c.value r.value m.value (m.place + 1)
    same c r m e = cc

-- the white byte behind a header's number
pub closing-white : (top : ℕ) (bs : List ℕ) → closes (header_rule top) bs ≡ true → (b : ℕ) × (rest : List ℕ) × (bs ≡ b ∷ rest) × (white b ≡ true)
closing-white top [] h = grind arith
closing-white top (b ∷ bs) h = (b, bs, refl, h)

pub shape-bounds : (bs : List ℕ) (s : Shape) → shape_of bs ≡ Ok s → ((s.columns ≤ 4096) × (s.rows ≤ 4096)) × (s.first ≤ length bs + 2)
shape-bounds bs s h =
    let p = parts bs s h in
    let a = divides-length _ _ _ _ p.columns in
    let b = divides-length _ _ _ _ p.rows in
    let d = divides-length _ _ _ _ p.maxval in
    let w = closing-white 255 p.m.rest p.maxval.closing in (
      (
        omega (arith, ap (λ x. x.columns) p.is, p.columns.number.high),
        omega (arith, ap (λ x. x.rows) p.is, p.rows.number.high),
      ),
      omega (arith, ap (λ x. x.first) p.is, a, b, d, ap length w.2),
    )
