-- The whole file, once its two first bytes are known.
use Rattle.std.proofs.Common.{◌≡◌, ℕ, ◌+◌, true, cond, ◌&&◌, eqb, List, [], ◌∷◌, length, Err, sym, ap, ◌∙◌, arith, length-drop}
use Rattle.std.proofs.lemmas.List.{take_rest}
use Rattle.faults.specs.Faults.{fault, and_then}
use Rattle.pgm_reader.specs.Format.{shape_of, with_samples, image_of}
use Rattle.pgm_reader.specs.Machine.{Behind}

pub image-is : (bs rest : List ℕ) → Behind bs rest → image_of bs ≡ and_then (shape_of rest) (with_samples bs)
unfolding image_of
image-is [] rest b = absurd (omega (arith, b.long))
image-is (x ∷ []) rest b = absurd (omega (arith, b.long))
image-is (x ∷ y ∷ bs) rest b =
    let xs = x ∷ y ∷ bs in
    ap (λ v. cond v (and_then (shape_of bs) (with_samples xs)) (Err (fault 1 11 0))) (is-p5 b.first b.second) ∙ ap (λ ys. and_then (shape_of ys) (with_samples xs)) (sym (b.follows ∙ take_rest xs 2))
  where
    is-p5 : x ≡ 80 → y ≡ 53 → (eqb x 80 && eqb y 53) ≡ true
    is-p5 p q = grind arith

pub behind-length : (bs rest : List ℕ) → Behind bs rest → length rest + 2 ≡ length bs
behind-length bs rest b = omega (arith, b.long, ap length (b.follows ∙ take_rest bs 2), length-drop 2 bs)
