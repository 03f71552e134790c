use Rattle.std.proofs.Common.{◌≡◌, ℕ, ◌≤◌, ltb, length, Some, None, sym, ap, ◌∙◌, subst, arith}
use Rattle.std.proofs.lemmas.Bool.{le-ltb, cond-false}
use Rattle.histogram.specs.Counts.{occupied, lowest, highest}
use Rattle.histogram.specs.Extents.{extent_of}
use Rattle.histogram.specs.declared.histogram.Extent.{Extent}
use Rattle.otsu.specs.Otsu.{Otsu, otsu_level}
use Rattle.otsu.specs.Search.{Range}
use Rattle.otsu.proofs.Sizes.{range}
use Rattle.otsu.proofs.Choice.{otsu-level, otsu-only}
use Rattle.otsu.proofs.threshold.Goals as goal
use Rattle.otsu.proofs.threshold.Goals.{Else-extent-lt2}

-- the extent is that of the pixels in hand, of at least two levels
found : (c : Else-extent-lt2) → record { is : c.extent-extent.result ≡ extent_of c.args.tally.now; two : 2 ≤ length (occupied c.args.tally.now) }
found c =
    let x = c.extent-extent.ensures ∙ ap extent_of c.histogram.ensures.counts in
    record { is = x; two = omega (arith, c.if-extent-lt2.false, ap (λ z. z.occupied) x) }

pub first_largest-requires : goal.first_largest-requires
first_largest-requires c =
    let f = found c in
    subst (λ (z : Extent). Range c.args.tally.now z.lowest z.highest) (sym f.is) (range c.args.tally.now f.two)

pub returns : goal.returns
returns c =
    let h = c.args.tally.now in
    let f = found (goal.at.returns c).Else-extent-lt2 in
    let o : Otsu h (lowest h) (highest h) c.first_largest.result = subst (λ (z : Extent). Otsu h z.lowest z.highest c.first_largest.result) f.is c.first_largest.ensures in
    record {
      value = ap (λ (k : ℕ). Some k) (otsu-only h (lowest h) (highest h) _ _ o (otsu-level h f.two))
          ∙ sym (cond-false (ltb (length (occupied h)) 2) None (Some (otsu_level h)) (le-ltb (length (occupied h)) 2 f.two));
      largest = o;
    }
