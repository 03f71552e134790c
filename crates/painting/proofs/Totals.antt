-- A painting's change over pixels is one over levels.
use Rattle.std.proofs.Common.{◌≡◌, ℕ, ◌+◌, List, [], ◌∷◌, map, take, sum_by, sym, refl, ap, ◌∙◌}
use Rattle.std.proofs.lemmas.List.{take_at, length-map}
use Rattle.std.proofs.lemmas.List.Sums.{sum_by-cons}
use Rattle.pictures.specs.Raster.{Raster, Sound, size}
use Rattle.histogram.specs.Counts.{histogram_of}
use Rattle.histogram.proofs.Weights.{weighed, all-low}
use Rattle.cut_sets.specs.declared.band.Band.{Band}
use Rattle.cut_sets.specs.Painted.{painted}
use Rattle.painting.specs.Paintings.{painted_over}
use Rattle.painting.specs.Changes.{changed, change_of}

each-changed : (d : ℕ → ℕ → ℕ) (f : ℕ → ℕ) (xs : List ℕ) → changed d xs (map f xs) ≡ sum_by (λ v. d v (f v)) xs
each-changed d f [] = refl
each-changed d f (x ∷ xs) = ap (λ n. d x (f x) + n) (each-changed d f xs) ∙ sym (sum_by-cons (λ v. d v (f v)) x xs)

pub change-total : (d : ℕ → ℕ → ℕ) (bs : List Band) (p : Raster) → Sound p → (b c : List ℕ) → c ≡ painted_over bs p b → changed d p.levels (take (size p) c) ≡ change_of d bs (histogram_of p.levels)
change-total d bs p s b c e =
    ap (λ q. changed d p.levels (take (size p) q)) e
    ∙ ap (changed d p.levels) (take_at (map (painted bs) p.levels) _ (size p) (length-map p.levels (painted bs)))
    ∙ each-changed d (painted bs) p.levels
    ∙ sym (weighed (λ v. d v (painted bs v)) p.levels (all-low p s))
