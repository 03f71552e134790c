-- What is known of an accepted file, for the layers above.
use Rattle.std.proofs.Common.{◌≡◌, ℕ, List, Ok, Err, Result, sym, arith}
use Rattle.faults.specs.Faults.{told}
use Rattle.pgm_reader.specs.declared.fault.ReadFault.{ReadFault}
use Rattle.pgm_reader.specs.declared.read.Header.{Header}
use Rattle.pgm_reader.specs.Faults.{read_fault}
use Rattle.pgm_reader.specs.Format.{image_of}
use Rattle.pgm_reader.specs.Grammar.{GreyMap}
use Rattle.pgm_reader.specs.Within.{Bounds, Within}
use Rattle.pgm_reader.proofs.Maps.{sound}

pub map-bounds : (bs : List ℕ) (h : Header) → GreyMap bs h → Bounds bs h
map-bounds bs h m =
    record {
      columns_low = m.columns.low;
      columns_high = m.columns.high;
      rows_low = m.rows.low;
      rows_high = m.rows.high;
      maxval_low = m.maxval.low;
      maxval_high = m.maxval.high;
      area = m.end;
      order = omega (arith, m.end);
      inside = omega (arith, m.end, m.first, m.enough);
    }

pub bounds : (bs : List ℕ) (h : Header) → image_of bs ≡ Ok h → Bounds bs h
bounds bs h e = map-bounds bs h (sound bs h e)

pub within-told : (bs : List ℕ) (r : Result Header ReadFault) → told read_fault r ≡ image_of bs → Within bs r
within-told bs (Ok h) e = bounds bs h (sym e)
within-told bs (Err f) e = tt
