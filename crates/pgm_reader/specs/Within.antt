-- What a caller can count on when it takes the samples out of an accepted file.
use Rattle.std.specs.Prelude.{◌≡◌, ℕ, ◌+◌, ◌*◌, ◌≤◌, List, length, Ok, Err, Result}
use Rattle.pgm_reader.specs.declared.fault.ReadFault.{ReadFault}
use Rattle.pgm_reader.specs.declared.read.Header.{Header}

pub record Bounds (bs : List ℕ) (h : Header) : Type 0 where
  pub columns_low : 1 ≤ h.columns
  pub columns_high : h.columns ≤ 4096
  pub rows_low : 1 ≤ h.rows
  pub rows_high : h.rows ≤ 4096
  pub maxval_low : 1 ≤ h.maxval
  pub maxval_high : h.maxval ≤ 255
  pub area : h.end ≡ h.first + h.columns * h.rows
  pub order : h.first ≤ h.end
  pub inside : h.end ≤ length bs

abbrev pub Within : List ℕ → Result Header ReadFault → Type 0
Within bs (Ok h) = Bounds bs h
Within bs (Err f) = Unit {0}
