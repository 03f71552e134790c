-- 256 numbers, one for each level: joined level by level, or given by a closure.
use Rattle.std.proofs.Common.{◌≡◌, ℕ, zero, suc, ◌+◌, ◌<◌, ◌≤◌, ◌≢◌, List, length, get_or, set, sym, ap, refl, ◌∙◌, ⊎_elim, arith}
use Rattle.std.proofs.lemmas.List.{length-set, get_or-set_same, get_or-set_other}
use Rattle.std.proofs.lemmas.Bool.{cases_eq}
use Rattle.std.specs.Array.{IsFromFnResult, IsFromFnResultFrom}
use Rattle.std.specs.Fn.{Called, Mut}
use Rattle.histogram.specs.Levels.{each}
use Rattle.histogram.proofs.Eachs.{each_all}

-- The levels of m below i are joined, the others still those of h.
pub record Joined (op : ℕ → ℕ → ℕ) (h k m : List ℕ) (i : ℕ) : Type 0 where
  pub long : length m ≡ 256
  pub new : (j : ℕ) → j < i → get_or m j 0 ≡ op (get_or h j 0) (get_or k j 0)
  pub old : (j : ℕ) → i ≤ j → get_or m j 0 ≡ get_or h j 0

module _ (op : ℕ → ℕ → ℕ) (h k : List ℕ) where
  pub joined-none : length h ≡ 256 → Joined op h k h 0
  joined-none e = record { long = e; new = λ j l. absurd (omega arith); old = λ j l. refl }

  pub joined-more : (m : List ℕ) (i v : ℕ) → i < 256 → v ≡ op (get_or m i 0) (get_or k i 0) → Joined op h k m i → Joined op h k (set m i v) (i + 1)
  joined-more m i v l e p =
      let in' : i < length m = omega (arith, p.long) in
      record {
        long = length-set m i v ∙ p.long;
        new = λ j n.
            ⊎_elim
            (λ (q : j ≡ i). rw (q, get_or-set_same) (e ∙ ap (λ x. op x (get_or k i 0)) (p.old i (omega arith))))
            (λ (q : j ≢ i). rw get_or-set_other (p.new j (omega arith)))
            (cases_eq j i);
        old = λ j n. let q : j ≢ i = omega arith in rw get_or-set_other (p.old j (omega arith));
      }

  pub joined-all : (m : List ℕ) (i : ℕ) → 256 ≤ i → Joined op h k m i → m ≡ each (λ j. op (get_or h j 0) (get_or k j 0))
  joined-all m i l p = each_all (λ j. op (get_or h j 0) (get_or k j 0)) m p.long (λ j n. p.new j (omega arith))

-- Each call keeps p of the closure, and answers f of the place.
module _ {F : Type 0} (g : Mut F (ℕ × Unit {0}) ℕ) (p : F → Type 0) (f : ℕ → ℕ) (call : (c : F) (i y : ℕ) (q : F) → p c → Called g c (i, tt) y q → p q × (y ≡ f i)) where
  filled : (c : F) → p c → (ys : List ℕ) (i n : ℕ) → IsFromFnResultFrom g c ys i n → (k : ℕ) → i ≤ k → k < i + n → get_or ys k 0 ≡ f k
  filled c a ys i zero r k l m = absurd (omega arith)
  filled c a ys i (suc n) r k l m =
      let now = call c i r.1 r.0 a r.3 in
      ⊎_elim
      (λ (e : k ≡ i). ap (λ j. get_or ys j 0) e ∙ r.2.1 0 ∙ now.1 ∙ ap f (sym e))
      (λ (d : k ≡ i → ⊥). filled r.0 now.0 ys (i + 1) n r.4 k (omega arith) (omega arith))
      (cases_eq k i)

  pub made-each : (c : F) → p c → (ys : List ℕ) → IsFromFnResult g c ys 256 → ys ≡ each f
  made-each c a ys r = each_all f ys r.long (λ k l. filled c a ys 0 256 r.each k (omega arith) l)
