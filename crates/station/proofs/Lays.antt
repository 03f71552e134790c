-- What a lay answers, by the account.
use Rattle.std.proofs.Common.{◌≡◌, ℕ, ◌+◌, true, false, cond, leb, List, Some, None, Option, sym, ap, ◌∙◌, arith}
use Rattle.std.proofs.lemmas.Bool.{eq-eqb, ne_eqb, lt-ltb, le-ltb, leb-true, leb-false}
use Rattle.faults.specs.Faults.{fault}
use Rattle.pictures.specs.Raster.{Raster, Sound, size}
use Rattle.histogram.specs.Counts.{histogram_of, added}
use Rattle.histogram.specs.Totals.{pixels}
use Rattle.histogram.proofs.Weights.{pixels-of}
use Rattle.histogram.proofs.Chosen.{some-where}
use Rattle.station.specs.Account.{Account, account, outcome, accepted, refused, laid}

-- m is what was counted of the picture
module _ (a : Account) (p : Raster) (s : Sound p) (o : Option (List ℕ)) (m : List ℕ) (q : o ≡ Some m) (e : o ≡ cond (leb (size p) 65536) (Some (histogram_of p.levels)) None) where
  counted : m ≡ histogram_of p.levels
  counted = (some-where (leb (size p) 65536) m (histogram_of p.levels) (sym q ∙ e)).1

  many : pixels m ≡ size p
  many = ap pixels counted ∙ pixels-of p s

  pub laid_none : pixels m ≡ 0 → outcome (refused (fault 3 31 0)) a ≡ laid a p
  laid_none z = rw (eq-eqb (size p) 0 (sym many ∙ z))

  pub laid-over : (pixels m ≡ 0 → ⊥) → false ≡ leb (pixels a.hand + pixels m) 65536 → outcome (refused (fault 3 32 0)) a ≡ laid a p
  laid-over n l =
      let k = leb-false (pixels a.hand + pixels m) 65536 (sym l) in
      rw (ne_eqb (size p) 0 (λ z. n (many ∙ z)), lt-ltb 65536 (pixels a.hand + size p) (omega (arith, k, many)))

  pub laid_done : (h : List ℕ) → (pixels m ≡ 0 → ⊥) → true ≡ leb (pixels a.hand + pixels m) 65536 → h ≡ added a.hand m → outcome accepted (account h a.cuts) ≡ laid a p
  laid_done h n l i =
      let k = leb-true (pixels a.hand + pixels m) 65536 (sym l) in
      rw (ne_eqb (size p) 0 (λ z. n (many ∙ z)), le-ltb 65536 (pixels a.hand + size p) (omega (arith, k, many)))
      (ap (λ x. outcome accepted (account x a.cuts)) (i ∙ ap (added a.hand) counted))
