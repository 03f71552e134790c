-- What the private functions of the reader promise each other.
use Rattle.std.specs.Prelude.{◌≡◌, ℕ, ◌+◌, ◌-◌, ◌≤◌, true, cond, List, ◌∷◌, length, take, drop, Some, None, Ok, Err, Option, Result, slice_index_or}
use Rattle.faults.specs.declared.Fault.{Fault}
use Rattle.pgm_reader.specs.declared.fault.ReadFault.{ReadFault}
use Rattle.pgm_reader.specs.declared.header.Kind.{Kind}
use Rattle.pgm_reader.specs.declared.header.Kind.TheVariants.{White, Digit, Other}
use Rattle.pgm_reader.specs.declared.header.Field.{Field}
use Rattle.pgm_reader.specs.declared.header.Field.TheVariants.{Columns, Rows, Maxval}
use Rattle.pgm_reader.specs.declared.header.Stage.{Stage}
use Rattle.pgm_reader.specs.declared.header.Stage.TheVariants.{Opened, Gap, Digits}
use Rattle.pgm_reader.specs.declared.header.Numbers.{Numbers}
use Rattle.pgm_reader.specs.declared.header.Shape.{Shape}
use Rattle.pgm_reader.specs.declared.header.HeaderMachine.{HeaderMachine}
use Rattle.pgm_reader.specs.Faults.{read_fault}
use Rattle.pgm_reader.specs.Format.{white, digit, NumberRule, Found, closed, digits_on, gap_at, number_at, header_rule, shape, to_maxval, to_rows, to_columns}

abbrev pub kind_of : ℕ → Kind
kind_of b = cond (white b) White (cond (digit b) (Digit (b - 48)) Other)

abbrev pub largest_of : Field → ℕ
largest_of Columns = 4096
largest_of (Rows columns) = 4096
largest_of (Maxval columns rows) = 255

abbrev pub rule_of : Field → NumberRule
rule_of field = header_rule (largest_of field)

-- The header from a field on whose number is f.
abbrev pub on_field : Field → Result Found Fault → Result Shape Fault
on_field Columns f = to_columns f
on_field (Rows columns) f = to_rows columns f
on_field (Maxval columns rows) f = to_maxval columns rows f

-- The header from a stage of a field on, if the file goes on with bs at place p.
abbrev pub on_stage : Field → Stage → ℕ → List ℕ → Result Shape Fault
on_stage field Opened p bs = on_field field (number_at (rule_of field) p bs)
on_stage field Gap p bs = on_field field (gap_at (rule_of field) p bs)
on_stage field (Digits start value) p bs = on_field field (digits_on (rule_of field) value start p bs)

-- What the machine m, at place p, will make of the header if the file goes on with bs.
abbrev pub left : HeaderMachine → ℕ → List ℕ → Result Shape Fault
left m p bs = on_stage m.field m.stage p bs

-- The same behind an answer of the machine: it goes on, or has the header, or ended the reading.
abbrev pub answered : HeaderMachine → Result (Option Numbers) ReadFault → ℕ → List ℕ → Result Shape Fault
answered m (Ok None) p bs = left m p bs
answered m (Ok (Some n)) p bs = Ok (shape n.columns n.rows n.maxval p)
answered m (Err f) p bs = Err (read_fault f)

-- The byte b at place p took the machine from m to m', with this answer.
abbrev pub Steps : HeaderMachine → HeaderMachine → ℕ → ℕ → Result (Option Numbers) ReadFault → Type 0
Steps m m' p b answer = (bs : List ℕ) → left m p (b ∷ bs) ≡ answered m' answer (p + 1) bs

-- The white byte behind a number of this start and value took the machine from m to m', with this answer.
abbrev pub Closes : HeaderMachine → HeaderMachine → ℕ → ℕ → Result (Option Numbers) ReadFault → Type 0
Closes m m' start value answer =
    (p b : ℕ) (bs : List ℕ) → white b ≡ true → on_field m.field (closed (rule_of m.field) value start p (b ∷ bs)) ≡ answered m' answer (p + 1) bs

-- The file bs starts with `P5`, and goes on with rest.
pub record Behind (bs rest : List ℕ) : Type 0 where
  pub long : 2 ≤ length bs
  pub first : slice_index_or bs 0 0 ≡ 80
  pub second : slice_index_or bs 1 0 ≡ 53
  pub follows : rest ≡ take (length bs - 2) (drop 2 bs)
