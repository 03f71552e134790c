-- What a lift answers, by the account.
use Rattle.std.proofs.Common.{◌≡◌, ℕ, List, Some, None, sym, ap, ◌∙◌}
use Rattle.std.proofs.lemmas.Bool.{eq-eqb, ne_eqb}
use Rattle.faults.specs.Faults.{fault}
use Rattle.pictures.specs.Raster.{Raster, Sound, size}
use Rattle.histogram.specs.Counts.{histogram_of, removed}
use Rattle.histogram.specs.Totals.{pixels}
use Rattle.histogram.specs.Lacks.{lacking}
use Rattle.histogram.proofs.Weights.{pixels-of}
use Rattle.station.specs.Account.{Account, account, outcome, accepted, refused, lifted}

-- m is the picture's histogram
module _ (a : Account) (p : Raster) (s : Sound p) (m : List ℕ) (e : m ≡ histogram_of p.levels) where
  many : pixels m ≡ size p
  many = ap pixels e ∙ pixels-of p s

  pub lifted-none : pixels m ≡ 0 → outcome (refused (fault 3 31 0)) a ≡ lifted a p
  lifted-none z = rw (eq-eqb (size p) 0 (sym many ∙ z))

  pub lifted-lacking : (v : ℕ) → (pixels m ≡ 0 → ⊥) → Some v ≡ lacking a.hand m → outcome (refused (fault 3 23 v)) a ≡ lifted a p
  lifted-lacking v n l = rw (ne_eqb (size p) 0 (λ z. n (many ∙ z)), sym (l ∙ ap (lacking a.hand) e))

  pub lifted-done : (h : List ℕ) → (pixels m ≡ 0 → ⊥) → None ≡ lacking a.hand m → h ≡ removed a.hand m → outcome accepted (account h a.cuts) ≡ lifted a p
  lifted-done h n l i =
      rw (ne_eqb (size p) 0 (λ z. n (many ∙ z)), sym (l ∙ ap (lacking a.hand) e))
      (ap (λ x. outcome accepted (account x a.cuts)) (i ∙ ap (removed a.hand) e))
