use Rattle.std.proofs.Common.{◌≡◌, suc, ◌+◌, ◌<◌, ltb, List, length, take, Some, None, sym, ap, ◌∙◌, subst, arith}
use Rattle.std.proofs.lemmas.Bool.{le-ltb, cond-false}
use Rattle.histogram.specs.Counts.{occupied, lowest, highest}
use Rattle.histogram.specs.Totals.{count_of}
use Rattle.histogram.specs.Extents.{extent_of}
use Rattle.cut_sets.specs.declared.band.Band.{Band}
use Rattle.cut_sets.specs.Bands.{mean_band_of}
use Rattle.cut_sets.proofs.Parts.{some-mean, never-none, made}
use Rattle.otsu.specs.Otsu.{otsu_level, otsu_bands}
use Rattle.otsu.proofs.Halves.{some_level, low-some, high-some, halves, two-places}
use Rattle.otsu.proofs.cut.Goals as goal

pub returns-in_err-mean_band : goal.returns-in_err-mean_band
returns-in_err-mean_band c =
    let h = c.args.tally.now in
    let f = some_level h c.in_ok-k.k c.in_ok-k.ensures.value in
    let x = c.extent-extent.ensures ∙ ap extent_of c.histogram.ensures.counts in
    let lo : c.extent-extent.result.lowest ≡ lowest h = ap (λ z. z.lowest) x in
    absurd (never-none _ _ (subst (λ a. 0 < count_of h a c.in_ok-k.k) (sym lo) (subst (λ b. 0 < count_of h (lowest h) b) (sym f.is) (low-some h f.two))) c.in_err-mean_band.ensures)

pub returns-in_err-mean_band-2 : goal.returns-in_err-mean_band-2
returns-in_err-mean_band-2 c =
    let h = c.args.tally.now in
    let f = some_level h c.in_ok-k.k c.in_ok-k.ensures.value in
    let x = c.extent-extent.ensures ∙ ap extent_of c.histogram.ensures.counts in
    let up : c.extent-extent.result.highest ≡ highest h = ap (λ z. z.highest) x in
    let s : suc (otsu_level h) ≡ c.in_ok-k.k + 1 = omega (arith, f.is) in
    absurd (never-none _ _ (subst (λ b. 0 < count_of h (c.in_ok-k.k + 1) b) (sym up) (subst (λ a. 0 < count_of h a (highest h)) s (high-some h f.two))) c.in_err-mean_band-2.ensures)

pub returns : goal.returns
returns c =
    let h = c.args.tally.now in
    let f = some_level h c.in_ok-k.k c.in_ok-k.ensures.value in
    let x = c.extent-extent.ensures ∙ ap extent_of c.histogram.ensures.counts in
    let s : c.in_ok-k.k + 1 ≡ suc (otsu_level h) = omega (arith, f.is) in
    let low : c.in_ok-mean_band.field-0 ≡ mean_band_of h (lowest h) (otsu_level h) =
    some-mean _ _ _ c.in_ok-mean_band.ensures ∙ ap (λ a. mean_band_of h a c.in_ok-k.k) (ap (λ z. z.lowest) x) ∙ ap (mean_band_of h (lowest h)) f.is in
    let high : c.in_ok-mean_band-2.field-0 ≡ mean_band_of h (suc (otsu_level h)) (highest h) =
    some-mean _ _ _ c.in_ok-mean_band-2.ensures ∙ ap (mean_band_of h (c.in_ok-k.k + 1)) (ap (λ z. z.highest) x) ∙ ap (λ a. mean_band_of h a (highest h)) s in
    let ps = c.put-2.new.self.places in
    let places = two-places c.new-bands.result.places c.put.new.self.places ps c.in_ok-mean_band.field-0 c.in_ok-mean_band-2.field-0
    (mean_band_of h (lowest h) (otsu_level h)) (mean_band_of h (suc (otsu_level h)) (highest h)) c.new-bands.ensures c.put.ensures c.put-2.ensures low high in
    made c.new.result c.put-2.new.self 2 c.new.ensures (halves h f.two ps places)
    ∙ ap (λ (bs : List Band). Some (take 2 bs)) places
    ∙ sym (cond-false (ltb (length (occupied h)) 2) None (Some (otsu_bands h)) (le-ltb (length (occupied h)) 2 f.two))
