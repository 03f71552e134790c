-- The two bands of the Otsu cut are a cut set.
use Rattle.std.proofs.Common.{◌≡◌, ℕ, zero, suc, ◌<◌, ◌≤◌, cond, ltb, List, length, set, replicate, Some, None, sym, ap, ◌∙◌, subst, arith}
use Rattle.std.proofs.lemmas.Bool.{ltb-false}
use Rattle.histogram.specs.Counts.{occupied, lowest, highest}
use Rattle.histogram.specs.Totals.{count_of}
use Rattle.histogram.proofs.Laws.{level-le}
use Rattle.histogram.proofs.Means.{mean-within}
use Rattle.histogram.proofs.Chosen.{some-unless}
use Rattle.cut_sets.specs.declared.band.Band.{Band}
use Rattle.cut_sets.specs.Bands.{no_band, mean_band_of, Inside, Rising, Cuts}
use Rattle.otsu.specs.Otsu.{otsu_level}
use Rattle.otsu.proofs.Sizes.{range}
use Rattle.otsu.proofs.Choice.{otsu-level}

-- What an answered threshold says.
pub record Found (h : List ℕ) (k : ℕ) : Type 0 where
  pub two : 2 ≤ length (occupied h)
  pub is : k ≡ otsu_level h

pub some_level : (h : List ℕ) (k : ℕ) → Some k ≡ cond (ltb (length (occupied h)) 2) None (Some (otsu_level h)) → Found h k
some_level h k e =
    let c = some-unless (ltb (length (occupied h)) 2) k (otsu_level h) e in
    record { two = ltb-false (length (occupied h)) 2 c.0; is = c.1 }

module _ (h : List ℕ) (two : 2 ≤ length (occupied h)) where
  pub low-some : 0 < count_of h (lowest h) (otsu_level h)
  low-some =
      let o = otsu-level h two in
      omega (arith, level-le h (lowest h) (suc (otsu_level h)) (lowest h) (omega arith) (omega (arith, o.from)), (range h two).at_lo)

  pub high-some : 0 < count_of h (suc (otsu_level h)) (highest h)
  high-some =
      let o = otsu-level h two in
      omega (arith, level-le h (suc (otsu_level h)) (suc (highest h)) (highest h) o.under (omega arith), (range h two).at_up)

  abbrev places : List Band
  places = set (set (replicate 8 no_band) 0 (mean_band_of h (lowest h) (otsu_level h))) 1 (mean_band_of h (suc (otsu_level h)) (highest h))

  inside : Inside 2 places
  inside zero l = let w = mean-within h (lowest h) (otsu_level h) (omega (arith, (otsu-level h two).from)) low-some in (w.low, w.high)
  inside (suc zero) l = let w = mean-within h (suc (otsu_level h)) (highest h) (omega (arith, (otsu-level h two).under)) high-some in (w.low, w.high)
  inside (suc (suc i)) l = absurd (omega arith)

  rising : Rising 2 places
  rising zero l = omega arith
  rising (suc i) l = absurd (omega arith)

  pub halves : (ps : List Band) → ps ≡ places → Cuts 2 ps
  halves ps e = subst (Cuts 2) (sym e) (record { some = omega arith; few = omega arith; inside = inside; rising = rising })

-- Two bands that were put into a new table.
pub two-places : (xs ys zs : List Band) (b c d e : Band) → xs ≡ replicate 8 no_band → ys ≡ set xs 0 b → zs ≡ set ys 1 c → b ≡ d → c ≡ e → zs ≡ set (set (replicate 8 no_band) 0 d) 1 e
two-places xs ys zs b c d e p q r s t =
    r ∙ ap (λ l. set l 1 c) (q ∙ ap (λ l. set l 0 b) p) ∙ ap (λ x. set (set (replicate 8 no_band) 0 x) 1 c) s ∙ ap (λ x. set (set (replicate 8 no_band) 0 d) 1 x) t
