use Rattle.std.proofs.Common.{◌≤◌, [], ◌∷◌, ◌++◌, length, codes, ap, ◌∙◌, arith}
use Rattle.text.specs.Texts.{line}
use Rattle.text.proofs.Lines.{length-line, length-decimal-u64}
use Rattle.histogram.specs.Counts.{lowest, highest}
use Rattle.histogram.specs.Totals.{pixels}
use Rattle.histogram.specs.Extents.{extent_of}
use Rattle.station.specs.States.{account_of}
use Rattle.listing.specs.Listing.{cut_numbers}
use Rattle.listing.proofs.Pushes.{three-lines}
use Rattle.listing.proofs.lines.station_text.Goals as goal

pub returns : goal.returns
returns g c =
    let h = (account_of c.args.station.now).hand in
    let n = c.total.result in
    let lo = c.extent-extent.result.lowest in
    let up = c.extent-extent.result.highest in
    let k = c.two_classes-threshold.result in
    let s = c.args.sum in
    let a = line (codes "pixels") (n ∷ []) in
    let b = line (codes "range") (lo ∷ (up ∷ [])) in
    let d = line (codes "otsu") (cut_numbers k s) in
    let la : length a ≤ 28 = omega (arith, length-line (codes "pixels") (n ∷ []), length-decimal-u64 n (omega (arith, c.total.type_inv))) in
    let lb : length b ≤ 48 = omega (arith, length-line (codes "range") (lo ∷ (up ∷ [])), length-decimal-u64 lo (omega (arith, c.extent-extent.type_inv)), length-decimal-u64 up (omega (arith, c.extent-extent.type_inv))) in
    let ld : length d ≤ 89 = omega (arith, length-line (codes "otsu") (cut_numbers k s), length-decimal-u64 k.threshold (omega (arith, c.two_classes-threshold.type_inv)), length-decimal-u64 k.low (omega (arith, c.two_classes-threshold.type_inv)), length-decimal-u64 k.high (omega (arith, c.two_classes-threshold.type_inv)), length-decimal-u64 s (omega (arith, c.ranges.sum))) in
    let x = c.extent-extent.ensures ∙ ap extent_of c.histogram.ensures.counts in
    three-lines a b d c.new-text.result c.push_line.new.self c.push_line-2.new.self c.push_line-3.new.self
    c.new-text.ensures c.push_line.ensures c.push_line-2.ensures c.push_line-3.ensures (omega arith)
    ∙ ap (λ m. line (codes "pixels") (m ∷ []) ++ (b ++ d)) c.total.ensures.value
    ∙ ap (λ e. line (codes "pixels") (pixels h ∷ []) ++ (line (codes "range") (e.lowest ∷ (e.highest ∷ [])) ++ d)) x
    ∙ ap (λ e. line (codes "pixels") (pixels h ∷ []) ++ (line (codes "range") (lowest h ∷ (highest h ∷ [])) ++ line (codes "otsu") (cut_numbers e s))) c.two_classes-threshold.ensures
