-- The account of a station, reckoned from its calls alone: what each call answers, and what is in hand and held after it.
use Rattle.std.specs.Prelude.{ℕ, ◌+◌, cond, List, length, Some, None, Option, ◌==◌, nat_lt}
use Rattle.faults.specs.declared.Fault.{Fault}
use Rattle.faults.specs.Faults.{fault}
use Rattle.pictures.specs.Raster.{Raster, size}
use Rattle.histogram.specs.Levels.{zeros}
use Rattle.histogram.specs.Counts.{histogram_of, added, removed, occupied}
use Rattle.histogram.specs.Totals.{pixels}
use Rattle.histogram.specs.Lacks.{lacking}
use Rattle.cut_sets.specs.declared.band.Band.{Band}
use Rattle.cut_sets.specs.Bands.{numbered}
use Rattle.cut_sets.specs.CutSums.{cut_sum}
use Rattle.painting.specs.Paintings.{painted_over}
use Rattle.otsu.specs.Otsu.{otsu_bands}

-- A call, with what it hands in; a paint hands in the bytes of its buffer too.
pub data Call : Type 0 where
  lay : Raster → Call
  lift : Raster → Call
  otsu_cut : Call
  paint : Raster → List ℕ → Call

-- What a call answers: acceptance, a cut set's classes and sum, or a refusal.
pub data Answer : Type 0 where
  accepted : Answer
  cut_into : ℕ → ℕ → Answer
  refused : Fault → Answer

-- The pixels in hand, a number for each level, and the bands of the last cut set.
pub record Account : Type 0 where
  pub hand : List ℕ
  pub cuts : Option (List Band)

abbrev pub account : List ℕ → Option (List Band) → Account
account h c = record { hand = h; cuts = c }

-- A call's answer, and the account after it.
pub record Outcome : Type 0 where
  pub answer : Answer
  pub next : Account

abbrev pub outcome : Answer → Account → Outcome
outcome r a = record { answer = r; next = a }

-- A new station has no pixel and no cut set.
abbrev pub start : Account
start = account zeros None

-- A lay adds the picture's pixels level by level. Refused: 31 without a pixel, 32 where more than 65,536 would be in hand.
abbrev pub laid : Account → Raster → Outcome
laid a p =
    cond (size p == 0) (outcome (refused (fault 3 31 0)) a)
    (cond (nat_lt 65536 (pixels a.hand + size p)) (outcome (refused (fault 3 32 0)) a)
    (outcome accepted (account (added a.hand (histogram_of p.levels)) a.cuts)))

-- A lift takes the picture's pixels off level by level. Refused: 31 without a pixel, 23 where the picture has more pixels of some level than are in hand, with the lowest such level.
abbrev pub lifted : Account → Raster → Outcome
lifted a p =
    cond (size p == 0) (outcome (refused (fault 3 31 0)) a)
    (elim (lacking a.hand (histogram_of p.levels)) [
      | Some v ↦ outcome (refused (fault 3 23 v)) a
      | None ↦ outcome accepted (account (removed a.hand (histogram_of p.levels)) a.cuts)
    ])

-- A cut of bands bs by the distances d: they replace the bands held, and their sum is answered.
abbrev pub keeping : (ℕ → ℕ → ℕ) → Account → List Band → Outcome
keeping d a bs = outcome (cut_into (length bs) (cut_sum d a.hand bs)) (account a.hand (Some bs))

-- The Otsu cut. Refused: 33 with nothing in hand, 34 with fewer than two occupied levels.
abbrev pub cut_by_otsu : (ℕ → ℕ → ℕ) → Account → Outcome
cut_by_otsu d a =
    cond (pixels a.hand == 0) (outcome (refused (fault 3 33 0)) a)
    (cond (nat_lt (length (occupied a.hand)) 2) (outcome (refused (fault 3 34 (length (occupied a.hand)))) a)
    (keeping d a (otsu_bands a.hand)))

-- What a paint with the bands held answers. Refused: 22 without a cut set, 41 where the buffer b is too short, with the bytes needed.
abbrev pub paint_answer : Option (List Band) → Raster → List ℕ → Answer
paint_answer None p b = refused (fault 3 22 0)
paint_answer (Some bs) p b = cond (nat_lt (length b) (size p)) (refused (fault 3 41 (size p))) accepted

-- The buffer b after a paint: the picture through the bands held at its front. A refused paint keeps all of b.
abbrev pub paint_buffer : Option (List Band) → Raster → List ℕ → List ℕ
paint_buffer None p b = b
paint_buffer (Some bs) p b = cond (nat_lt (length b) (size p)) b (painted_over bs p b)

-- One call to a station whose rule has the distances d.
abbrev pub step : (ℕ → ℕ → ℕ) → Account → Call → Outcome
step d a (lay p) = laid a p
step d a (lift p) = lifted a p
step d a otsu_cut = cut_by_otsu d a
step d a (paint p b) = outcome (paint_answer a.cuts p b) a

-- A band of the cut set held, by its number from 1.
abbrev pub band_held : Option (List Band) → ℕ → Option Band
band_held None n = None
band_held (Some bs) n = numbered bs n
