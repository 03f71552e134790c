-- The bands of a cut set, and its sum band by band.
use Rattle.std.proofs.Common.{sum_by, sum, map, refl, ◌≡◌, ℕ, ◌+◌, ◌*◌, ◌<◌, ◌≤◌, cond, eqb, List, [], ◌∷◌, length, take, Some, None, Option, ap, ◌∙◌, arith, MatchOption}
use Rattle.std.specs.Option.{option_map}
use Rattle.std.proofs.lemmas.List.{length-take-le}
use Rattle.std.proofs.lemmas.List.Sums.{sum-map, sum_by-cons}
use Rattle.std.proofs.lemmas.Bool.{ne_eqb}
use Rattle.histogram.specs.Totals.{sum_of, pixels}
use Rattle.histogram.proofs.Laws.{sum-most, room}
use Rattle.histogram.proofs.Chosen.{some-unless}
use Rattle.cut_sets.specs.declared.band.Band.{Band}
use Rattle.cut_sets.specs.declared.cut_set.CutSet.{CutSet}
use Rattle.cut_sets.specs.declared.table.BandTable.{BandTable}
use Rattle.cut_sets.specs.Bands.{Cuts}
use Rattle.cut_sets.specs.Sets.{bands_of}
use Rattle.cut_sets.specs.CutSums.{band_sum_of, cut_sum}

pub bands-few : (s : CutSet) → length (bands_of s) ≤ 8
bands-few s = omega (arith, length-take-le s.classes s.bands.places (omega (arith, s.few, s.bands.full)), s.few)

cut-by : (d : ℕ → ℕ → ℕ) (h : List ℕ) (bs : List Band) → sum_by (band_sum_of d h) bs ≡ cut_sum d h bs
cut-by d h [] = refl
cut-by d h (b ∷ bs) = sum_by-cons (band_sum_of d h) b bs ∙ ap (λ n. band_sum_of d h b + n) (cut-by d h bs)

pub cut-sum-is : (d : ℕ → ℕ → ℕ) (h : List ℕ) (bs : List Band) → sum (map (band_sum_of d h) bs) ≡ cut_sum d h bs
cut-sum-is d h bs = sum-map (band_sum_of d h) bs ∙ cut-by d h bs

-- The distances from at most 65,536 pixels to one level.
pub distance_most : (d : ℕ → ℕ → ℕ) (h : List ℕ) (v a z : ℕ) → ((j : ℕ) → j ≤ 255 → d j v ≤ 65025) → pixels h ≤ 65536 → z ≤ 256 → sum_of (λ j. d j v) h a z ≤ 65536 * 65025
distance_most d h v a z b n l = omega (arith, sum-most (λ j. d j v) h 65025 a z (λ j k. b j (omega arith)), (room h a z l).few)

-- ---- making a cut set
pub some-mean : (n : ℕ) (b e : Band) → Some b ≡ cond (eqb n 0) None (Some e) → b ≡ e
some-mean n b e h = (some-unless (eqb n 0) b e h).1

pub never-none : (n : ℕ) (e : Band) → 0 < n → None ≡ cond (eqb n 0) None (Some e) → ⊥
never-none n e p h = let k : None ≡ Some e = rw (ne_eqb n 0 (λ z. omega arith)) at h in let z : ◌≡◌ {A = ℕ} 0 1 = cc in omega arith

-- What `CutSet::new` answers where its bands are a cut set.
pub made : (r : Option CutSet) (t : BandTable) (n : ℕ) → MatchOption r (Cuts n t.places → ⊥) (λ s. Cuts n t.places × ((s.classes ≡ n) × (s.bands ≡ t))) → Cuts n t.places
    → option_map bands_of r ≡ Some (take n t.places)
made None t n h c = absurd (h c)
made (Some s) t n h c = ap (λ (bs : List Band). Some bs) (ap (λ k. take k s.bands.places) h.1.0 ∙ ap (λ u. take n u.places) h.1.1)
