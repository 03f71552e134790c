-- A buffer that a walk over a picture fills, place by place.
use Rattle.std.proofs.Common.{◌≡◌, ℕ, ◌+◌, ◌*◌, ◌<◌, ◌≤◌, List, [], ◌∷◌, ◌++◌, map, length, get_or, take, drop, set, Some, sym, ap, ◌∙◌, subst, add_assoc, add-mul, one-mul, arith}
use Rattle.std.proofs.lemmas.List.{map_more, take_more_set, drop-set-lt, drop-drop, take-append-drop, take_all}
use Rattle.pictures.specs.Raster.{Raster, Sound, level_at, size}
use Rattle.histogram.specs.Levels.{each}
use Rattle.histogram.proofs.Eachs.{each_at}
use Rattle.histogram.proofs.Walks.{seen, rows-done}

-- The places below i have the numbers for xs, the others the old ones.
pub record Written (f : ℕ → ℕ) (xs old new : List ℕ) (i : ℕ) : Type 0 where
  pub front : take i new ≡ map f (take i xs)
  pub rest : drop i new ≡ drop i old

further : (b c : List ℕ) (i n : ℕ) → drop i b ≡ drop i c → drop (i + n) b ≡ drop (i + n) c
further b c i n e = sym (drop-drop n i b) ∙ ap (drop n) e ∙ drop-drop n i c

written-more : (f : ℕ → ℕ) (xs old new : List ℕ) (i v : ℕ) → i < length xs → i < length new → v ≡ f (get_or xs i 0) → Written f xs old new i → Written f xs old (set new i v) (i + 1)
written-more f xs old new i v h l e w = record {
  front = take_more_set new i v l ∙ ap (λ q. q ++ v ∷ []) w.front ∙ ap (λ u. map f (take i xs) ++ u ∷ []) e ∙ sym (map_more f xs i 0 h);
  rest = drop-set-lt (i + 1) new i v (omega arith) ∙ further new old i 1 w.rest;
}

-- One pixel of a walk: the byte for it is looked up in a table of f.
pub written-pixel : (f : ℕ → ℕ) (p : Raster) → Sound p → (n x y v : ℕ) → n ≡ p.columns → Some v ≡ level_at p x y → (table : List ℕ) (byte : ℕ) → table ≡ each f → byte ≡ get_or table v 0
    → (old new after : List ℕ) → size p ≤ length new → after ≡ set new (y * n + x) byte → Written f p.levels old new (y * n + x) → Written f p.levels old after (y * n + (x + 1))
written-pixel f p s n x y v e h table byte t u old new after l q w =
    let a = seen p s n x y v e h in
    let is : byte ≡ f (get_or p.levels (y * n + x) 0) = u ∙ ap (λ k. get_or k v 0) t ∙ each_at f v a.byte ∙ ap f a.is in
    let m = written-more f p.levels old new (y * n + x) byte a.within (omega (arith, a.within)) is w in
    subst (λ b. Written f p.levels old b (y * n + (x + 1))) (sym q) (subst (Written f p.levels old (set new (y * n + x) byte)) (add_assoc (y * n) x 1) m)

-- One row: what it kept was there before the rows above it.
pub written_row : (f : ℕ → ℕ) (xs old above new : List ℕ) (y n x : ℕ) → x ≡ n → Written f xs old above (y * n) → Written f xs above new (y * n + x) → Written f xs old new ((y + 1) * n)
written_row f xs old above new y n x e a w =
    let q : y * n + x ≡ (y + 1) * n = omega (arith, e, add-mul y 1 n, one-mul n) in
    subst (Written f xs old new) q (record { front = w.front; rest = w.rest ∙ further above old (y * n) x a.rest })

-- All rows.
pub written_all : (f : ℕ → ℕ) (p : Raster) → Sound p → (y n : ℕ) → n ≡ p.columns → y ≡ p.rows → (old new : List ℕ) → Written f p.levels old new (y * n) → new ≡ map f p.levels ++ drop (size p) old
written_all f p s y n e h old new w =
    let i = y * n in
    let q : i ≡ size p = rows-done p s y n e h in
    sym (take-append-drop i new) ∙ ap (λ b. b ++ drop i new) (w.front ∙ ap (map f) (take_all i p.levels (omega (arith, q)))) ∙ ap (λ b. map f p.levels ++ b) (w.rest ∙ ap (λ k. drop k old) q)
