-- The level that stands for a level, band by band, in the first n places of a table.
use Rattle.std.proofs.Common.{◌≡◌, ℕ, zero, suc, ◌+◌, ◌<◌, ◌≤◌, leb, List, [], ◌∷◌, length, sym, refl, ◌∙◌, ⊎_elim, arith}
use Rattle.std.proofs.lemmas.Bool.{cases_lt, le-leb, lt-leb, cond-true, cond-false}
use Rattle.cut_sets.specs.declared.band.Band.{Band}
use Rattle.cut_sets.specs.Bands.{band_at}
use Rattle.cut_sets.specs.Painted.{painted, Paints}

here : (b : Band) (bs : List Band) (v : ℕ) → v ≤ b.high → painted (b ∷ bs) v ≡ b.level
here b [] v h = refl
here b (c ∷ bs) v h = cond-true (leb v b.high) b.level (painted (c ∷ bs) v) (le-leb v b.high h)

above : (b : Band) (bs : List Band) (v : ℕ) → 0 < length bs → b.high < v → painted (b ∷ bs) v ≡ painted bs v
above b [] v l h = absurd (omega arith)
above b (c ∷ bs) v l h = cond-false (leb v b.high) b.level (painted (c ∷ bs) v) (lt-leb v b.high h)

-- The words have one solution: the band at the place n, where all before it end below v and it reaches v or is the last.
painted-at : (bs : List Band) (v n : ℕ) → n < length bs → ((i : ℕ) → i < n → (band_at bs i).high < v) → (n + 1 < length bs → v ≤ (band_at bs n).high) → (band_at bs n).level ≡ painted bs v
painted-at [] v n t p r = absurd (omega arith)
painted-at (b ∷ []) v zero t p r = refl
painted-at (b ∷ []) v (suc n) t p r = absurd (omega arith)
painted-at (b ∷ (c ∷ bs)) v zero t p r = sym (here b (c ∷ bs) v (r (omega arith)))
painted-at (b ∷ (c ∷ bs)) v (suc n) t p r =
    painted-at (c ∷ bs) v n (omega arith) (λ i l. p (suc i) (omega arith)) (λ l. r (omega arith)) ∙ sym (above b (c ∷ bs) v (omega arith) (p 0 (omega arith)))

pub painted-is : (bs : List Band) (v w : ℕ) → Paints bs v w → w ≡ painted bs v
painted-is bs v w p = p.is ∙ painted-at bs v p.place p.there p.passed p.reached

-- And they have one at all: what the definition gives, wherever there is a band.
pub paints : (bs : List Band) (v : ℕ) → 0 < length bs → Paints bs v (painted bs v)
paints [] v p = absurd (omega arith)
paints (b ∷ []) v p = record { place = 0; there = omega arith; passed = λ i l. absurd (omega arith); reached = λ l. absurd (omega arith); is = refl }
paints (b ∷ (c ∷ bs)) v p =
    ⊎_elim
    (λ (h : b.high < v).
    let q = paints (c ∷ bs) v (omega arith) in
    record {
      place = suc q.place;
      there = omega (arith, q.there);
      passed = before q.place h q.passed;
      reached = λ l. q.reached (omega arith);
      is = above b (c ∷ bs) v (omega arith) h ∙ q.is;
    })
    (λ (h : v ≤ b.high).
    record {
      place = 0;
      there = omega arith;
      passed = λ i l. absurd (omega arith);
      reached = λ l. h;
      is = here b (c ∷ bs) v h;
    })
    (cases_lt b.high v)
  where
    before : (n : ℕ) → b.high < v → ((i : ℕ) → i < n → (band_at (c ∷ bs) i).high < v) → (i : ℕ) → i < suc n → (band_at (b ∷ (c ∷ bs)) i).high < v
    before n h f zero l = h
    before n h f (suc i) l = f i (omega arith)
