-- What reading a binary grey map (PGM, `P5`) answers, by how long its parts are. A place counts bytes from 0.
use Rattle.std.specs.Prelude.{ℕ, suc, ◌+◌, ◌-◌, ◌*◌, Bool, false, cond, ◌&&◌, ◌||◌, leb, List, [], ◌∷◌, length, take, drop, Some, None, Ok, Err, Option, Result, ◌==◌, nat_le, nat_lt}
use Rattle.faults.specs.Faults.{fault, and_then}
use Rattle.faults.specs.declared.Fault.{Fault}
use Rattle.pgm_reader.specs.declared.header.Shape.{Shape}
use Rattle.pgm_reader.specs.declared.read.Header.{Header}

-- space, TAB, LF, CR
abbrev pub white : ℕ → Bool
white b = b == 32 || (b == 9 || (b == 10 || b == 13))

abbrev pub digit : ℕ → Bool
digit b = nat_le 48 b && nat_le b 57

-- How many bytes at the front pass a test.
abbrev pub run : (ℕ → Bool) → List ℕ → ℕ
run t [] = 0
run t (b ∷ bs) = cond (t b) (suc (run t bs)) 0

-- The first byte is there and passes a test.
abbrev pub starts : (ℕ → Bool) → List ℕ → Bool
starts t [] = false
starts t (b ∷ bs) = t b

-- How many bytes at the front may stand before a number; the first of them is white (number_at).
abbrev pub gap : List ℕ → ℕ
gap bs = run white bs

-- The number that digits write behind those that made n.
abbrev pub value_from : ℕ → List ℕ → ℕ
value_from n [] = n
value_from n (c ∷ cs) = value_from (n * 10 + (c - 48)) cs

-- The rule for a number in a file: its range; the fault's number where a byte cannot stand or the file ends too early, and where the
-- value is out of range; and whether the file's end closes the number, as a white byte does.
pub record NumberRule : Type 0 where
  pub low : ℕ
  pub high : ℕ
  pub malformed : ℕ
  pub out_of_range : ℕ
  pub end_closes : Bool

-- A number read: its value, the place behind it, and the file from there on.
pub record Found : Type 0 where
  pub value : ℕ
  pub place : ℕ
  pub rest : List ℕ

abbrev pub found : ℕ → ℕ → List ℕ → Found
found v p bs = record { value = v; place = p; rest = bs }

-- A number may end where the file goes on with these bytes.
abbrev pub closes : NumberRule → List ℕ → Bool
closes rule [] = rule.end_closes
closes rule (b ∷ bs) = white b

-- A number of value v whose digits begin at place d and end before place q, where the file goes on with bs: first its range, then its end too.
abbrev pub ranged : NumberRule → ℕ → ℕ → ℕ → List ℕ → Result Found Fault
ranged rule v d q bs = cond (nat_le rule.low v && nat_le v rule.high) (Ok (found v q bs)) (Err (fault 1 rule.out_of_range d))

abbrev pub closed : NumberRule → ℕ → ℕ → ℕ → List ℕ → Result Found Fault
closed rule v d q bs = cond (closes rule bs) (ranged rule v d q bs) (Err (fault 1 rule.malformed q))

-- Digits at place p, behind those that begin at place d and made v.
abbrev pub digits_on : NumberRule → ℕ → ℕ → ℕ → List ℕ → Result Found Fault
digits_on rule v d p bs = closed rule (value_from v (take (run digit bs) bs)) d (p + run digit bs) (drop (run digit bs) bs)

-- One or more digits at place p.
abbrev pub digits_at : NumberRule → ℕ → List ℕ → Result Found Fault
digits_at rule p bs = cond (starts digit bs) (digits_on rule 0 p p bs) (Err (fault 1 rule.malformed p))

-- What is left of a gap at place p, and a number behind it.
abbrev pub gap_at : NumberRule → ℕ → List ℕ → Result Found Fault
gap_at rule p bs = digits_at rule (p + gap bs) (drop (gap bs) bs)

-- A gap at place p, and a number behind it.
abbrev pub number_at : NumberRule → ℕ → List ℕ → Result Found Fault
number_at rule p bs = cond (starts white bs) (gap_at rule p bs) (Err (fault 1 rule.malformed p))

-- A number of the header is from 1 to top, and the file's end does not close it.
abbrev pub header_rule : ℕ → NumberRule
header_rule top = record { low = 1; high = top; malformed = 12; out_of_range = 13; end_closes = false }

abbrev pub shape : ℕ → ℕ → ℕ → ℕ → Shape
shape c r m p = record { columns = c; rows = r; maxval = m; first = p }

-- The header from its maxval, its rows or its columns on. One white byte stands before the samples.
abbrev pub to_maxval : ℕ → ℕ → Result Found Fault → Result Shape Fault
to_maxval c r f = and_then f (λ m. Ok (shape c r m.value (m.place + 1)))

abbrev pub to_rows : ℕ → Result Found Fault → Result Shape Fault
to_rows c f = and_then f (λ r. to_maxval c r.value (number_at (header_rule 255) r.place r.rest))

abbrev pub to_columns : Result Found Fault → Result Shape Fault
to_columns f = and_then f (λ c. to_rows c.value (number_at (header_rule 4096) c.place c.rest))

-- The header, from the byte behind `P5` on.
abbrev pub shape_of : List ℕ → Result Shape Fault
shape_of bs = to_columns (number_at (header_rule 4096) 2 bs)

abbrev pub header : Shape → Header
header s = record { columns = s.columns; rows = s.rows; maxval = s.maxval; first = s.first; end = s.first + s.columns * s.rows }

-- The samples of the file bs with the header h, row by row: the bytes from the place first up to the place end.
abbrev pub samples : List ℕ → Header → List ℕ
samples bs h = take (h.end - h.first) (drop h.first bs)

-- How many bytes at the front are at most top; where that is not all of them, it is the index of the first above top.
abbrev pub up_to : ℕ → List ℕ → ℕ
up_to top bs = run (λ b. leb b top) bs

abbrev pub first_above_of : ℕ → List ℕ → Option ℕ
first_above_of top bs = cond (nat_lt (up_to top bs) (length bs)) (Some (up_to top bs)) None

abbrev pub unless_above : Header → Option ℕ → Result Header Fault
unless_above h None = Ok h
unless_above h (Some i) = Err (fault 1 15 (h.first + i))

-- The file bs whose header is s: all its samples are there, and none is above the maxval.
abbrev pub with_samples : List ℕ → Shape → Result Header Fault
with_samples bs s =
    cond (nat_lt (length bs) (s.first + s.columns * s.rows)) (Err (fault 1 14 (length bs))) (unless_above (header s) (first_above_of s.maxval (samples bs (header s))))

-- What reading the file answers; 80 and 53 are `P` and `5`.
unfoldable pub image_of : List ℕ → Result Header Fault
image_of [] = Err (fault 1 11 0)
image_of (a ∷ []) = Err (fault 1 11 0)
image_of (a ∷ b ∷ bs) = cond (a == 80 && b == 53) (and_then (shape_of bs) (with_samples (a ∷ b ∷ bs))) (Err (fault 1 11 0))
