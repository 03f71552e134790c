-- The listing of a file, and the line of a fault.
use Rattle.std.specs.Prelude.{ℕ, cond, List, [], ◌∷◌, ◌++◌, length, Ok, Err, codes, Result, nat_lt}
use Rattle.faults.specs.declared.Fault.{Fault}
use Rattle.faults.specs.Faults.{fault, fault_words, and_then}
use Rattle.text.specs.Texts.{line, placed}
use Rattle.pictures.specs.Raster.{Raster, raster}
use Rattle.rules.specs.Distances.{squares}
use Rattle.histogram.specs.Counts.{lowest, highest}
use Rattle.histogram.specs.Totals.{pixels}
use Rattle.station.specs.Account.{Account, Answer, accepted, cut_into, refused, Outcome, start, step, lay, otsu_cut}
use Rattle.pgm_reader.specs.declared.read.Header.{Header}
use Rattle.pgm_reader.specs.Format.{image_of, samples}
use Rattle.listing.specs.declared.lines.TwoClasses.{TwoClasses}
use Rattle.listing.specs.Classes.{two_classes_of}

-- The picture of a file: its samples are its levels, row by row.
abbrev pub file_picture : List ℕ → Header → Raster
file_picture bs h = raster h.columns h.rows (samples bs h)

-- The numbers of a cut into two classes.
abbrev pub cut_numbers : TwoClasses → ℕ → List ℕ
cut_numbers c sum = c.threshold ∷ (c.low ∷ (c.high ∷ (sum ∷ [])))

-- What is listed of a station after an Otsu cut that summed to s.
abbrev pub listing_lines : Account → ℕ → List ℕ
listing_lines a s =
    line (codes "pixels") (pixels a.hand ∷ [])
    ++ (line (codes "range") (lowest a.hand ∷ (highest a.hand ∷ []))
    ++ line (codes "otsu") (cut_numbers (two_classes_of a.cuts) s))

-- What comes after a call: its fault, or what is made of the account and the sum that it answered.
abbrev pub after_call : {X : Type 0} → Answer → (ℕ → Result X Fault) → Result X Fault
after_call accepted next = next 0
after_call (cut_into c s) next = next s
after_call (refused f) next = Err f

-- A picture's listing: it is laid on a new station with squares, which then cuts it by Otsu's threshold.
abbrev pub after_lay : Outcome → Result (List ℕ) Fault
after_lay o =
    after_call o.answer (λ _. after_call (step squares o.next otsu_cut).answer (λ s. Ok (listing_lines (step squares o.next otsu_cut).next s)))

unfoldable pub picture_listing : Raster → Result (List ℕ) Fault
picture_listing p = after_lay (step squares start (lay p))

-- A file's listing: the reader's fault, or the listing of its picture.
abbrev pub file_listing : List ℕ → Result (List ℕ) Fault
file_listing bs = and_then (image_of bs) (λ h. picture_listing (file_picture bs h))

-- The line of a fault: its words, and LF.
abbrev pub fault_line_of : Fault → List ℕ
fault_line_of f = fault_words f ++ (10 ∷ [])

-- What the program prints of a file.
abbrev pub report_of : Result (List ℕ) Fault → List ℕ
report_of (Ok t) = t
report_of (Err f) = fault_line_of f

-- A text goes to the front of a buffer, and its length is answered; 41 where it does not fit, and then the buffer stays as it is.
abbrev pub fitted : List ℕ → List ℕ → Result ℕ Fault
fitted buffer t = cond (nat_lt (length buffer) (length t)) (Err (fault 4 41 (length t))) (Ok (length t))

abbrev pub buffer_after : List ℕ → Result (List ℕ) Fault → List ℕ
buffer_after buffer (Ok t) = cond (nat_lt (length buffer) (length t)) buffer (placed buffer t)
buffer_after buffer (Err f) = buffer
