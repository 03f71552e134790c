-- What is left out of a text, and when nothing is.
use Rattle.std.proofs.Common.{◌≡◌, ℕ, zero, suc, ◌+◌, ◌-◌, ◌<◌, ◌≤◌, List, [], ◌∷◌, ◌++◌, length, take, drop, set, replicate, sym, refl, ap, ◌∙◌, append_assoc, append-nil, arith}
use Rattle.std.proofs.lemmas.List.{length-append, length-take, length_push, take_all, take_at, take_more_set, length-set, drop-set-lt, drop-drop, drop-replicate}
use Rattle.text.specs.Fills.{Filled, used-back}
use Rattle.text.specs.Texts.{clipped}

take_again : (n : ℕ) (xs ys : List ℕ) → take n (take n xs ++ ys) ≡ take n (xs ++ ys)
take_again zero xs ys = refl
take_again (suc n) [] ys = refl
take_again (suc n) (x ∷ xs) ys = ap (λ l. x ∷ l) (take_again n xs ys)

pub clipped-again : (xs ys : List ℕ) → clipped (clipped xs ++ ys) ≡ clipped (xs ++ ys)
clipped-again xs ys = take_again 256 xs ys

pub clipped-short : (xs : List ℕ) → length xs ≤ 256 → clipped xs ≡ xs
clipped-short xs h = take_all 256 xs h

-- one push after others
pub clipped-then : (start cur xs ys : List ℕ) → cur ≡ clipped (start ++ xs) → clipped (cur ++ ys) ≡ clipped (start ++ (xs ++ ys))
clipped-then start cur xs ys e = ap (λ l. clipped (l ++ ys)) e ∙ clipped-again (start ++ xs) ys ∙ ap clipped (append_assoc start xs ys)

-- one push after others, where all fits
pub pushed_whole : (xs ys was now : List ℕ) → was ≡ xs → now ≡ clipped (was ++ ys) → length xs + length ys ≤ 256 → now ≡ xs ++ ys
pushed_whole xs ys was now e p h = p ∙ ap (λ l. clipped (l ++ ys)) e ∙ clipped-short (xs ++ ys) (omega (arith, length-append xs ys))

pub clipped-le : (xs : List ℕ) → length (clipped xs) ≤ 256
clipped-le xs = omega (arith, length-take 256 xs)

-- nothing pushed
pub clipped-nil : (xs : List ℕ) → length xs ≤ 256 → xs ≡ clipped (xs ++ [])
clipped-nil xs h = sym (clipped-short xs h) ∙ ap clipped (sym (append-nil xs))

pub text-short : (bytes : List ℕ) (used : ℕ) → Filled bytes used → length (take used bytes) ≤ 256
text-short bytes used h = omega (arith, used-back bytes used h, h.fits)

-- a byte where there is room, and where there is none
pub one_more : (bytes : List ℕ) (used b : ℕ) → Filled bytes used → used < 256 → take (used + 1) (set bytes used b) ≡ clipped (take used bytes ++ (b ∷ []))
one_more bytes used b h room =
    take_more_set bytes used b (omega (arith, h.room))
    ∙ sym (clipped-short (take used bytes ++ (b ∷ [])) (omega (arith, length_push (take used bytes) b, used-back bytes used h)))

pub filled-more : (bytes : List ℕ) (used i b : ℕ) → Filled bytes used → i ≤ used → used < 256 → Filled (set bytes i b) (used + 1)
filled-more bytes used i b h at room =
    record {
      fits = omega arith;
      room = length-set bytes i b ∙ h.room;
      rest = drop-set-lt (used + 1) bytes i b (omega arith) ∙ sym (drop-drop 1 used bytes) ∙ ap (drop 1) h.rest ∙ drop-replicate 1 (256 - used) 0 ∙ ap (λ n. replicate n 0) (omega arith);
    }

pub no_more : (bytes : List ℕ) (used b : ℕ) → Filled bytes used → 256 ≤ used → take used bytes ≡ clipped (take used bytes ++ (b ∷ []))
no_more bytes used b h full = sym (take_at (take used bytes) (b ∷ []) 256 (omega (arith, used-back bytes used h, h.fits)))
