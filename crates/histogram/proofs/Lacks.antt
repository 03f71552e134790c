-- The lowest level that a histogram lacks is the first of which it has too few pixels.
use Rattle.std.proofs.Common.{◌≡◌, ℕ, ltb, List, get_or, Some, None, sym}
use Rattle.std.proofs.lemmas.Bool.{lt-ltb, le-ltb}
use Rattle.pictures.proofs.Firsts.{first_found, first-none}
use Rattle.histogram.specs.Lacks.{lacking, Covers, Lacks}

pub lacking-at : (h k : List ℕ) (v : ℕ) → Lacks h k v → Some v ≡ lacking h k
unfolding lacking
lacking-at h k v l =
    sym (first_found (λ j. ltb (get_or h j 0) (get_or k j 0)) 256 v l.level (lt-ltb (get_or h v 0) (get_or k v 0) l.fewer) (λ j m. le-ltb (get_or h j 0) (get_or k j 0) (l.lowest j m)))

pub lacking-none : (h k : List ℕ) → Covers h k → None ≡ lacking h k
unfolding lacking
lacking-none h k c = sym (first-none (λ j. ltb (get_or h j 0) (get_or k j 0)) 256 (λ j m. le-ltb (get_or h j 0) (get_or k j 0) (c j m)))
