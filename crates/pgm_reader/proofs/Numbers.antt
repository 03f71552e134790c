-- A number that was found divides the file, and a divided file has its number found.
use Rattle.std.proofs.Common.{◌≡◌, ℕ, ◌+◌, ◌<◌, ◌≤◌, Bool, true, false, cond, ◌&&◌, leb, List, [], ◌∷◌, ◌++◌, length, take, drop, Ok, Err, Result, sym, refl, ap, ◌∙◌, arith, take-append-drop}
use Rattle.std.specs.List.{AllByRecursion}
use Rattle.std.proofs.lemmas.List.{take_at, drop_at, length-take-le, length-append}
use Rattle.faults.specs.declared.Fault.{Fault}
use Rattle.pgm_reader.specs.Format.{white, digit, run, starts, gap, value_from, NumberRule, Found, found, closes, closed, digits_at, number_at}
use Rattle.pgm_reader.specs.Grammar.{Number}
use Rattle.pgm_reader.proofs.Runs.{run-le, all-run, run-some, run-front, run-full, full-run, starts-front, starts-all, starts-take}

pub cond-ok : {X : Type 0} (b : Bool) (x : Result X Fault) (e : Fault) (f : X) → cond b x (Err e) ≡ Ok f → (b ≡ true) × (x ≡ Ok f)
cond-ok true x e f h = (refl, h)
cond-ok false x e f h = grind arith

digit-no-white : (b : ℕ) → digit b ≡ true → white b ≡ false
digit-no-white b e = grind arith

pub white-no-digit : (b : ℕ) → white b ≡ true → digit b ≡ false
white-no-digit b e = grind arith

-- the gap before a number: what is cut off is one, and one before digits is found whole
pub gap-le : (bs : List ℕ) → gap bs ≤ length bs
gap-le bs = run-le white bs

gap-cut : (bs : List ℕ) → gap (take (gap bs) bs) ≡ length (take (gap bs) bs)
gap-cut bs = run-full white (take (gap bs) bs) (all-run white bs)

gap-some : (bs : List ℕ) → starts white bs ≡ true → starts white (take (gap bs) bs) ≡ true
gap-some bs h = starts-take white bs (gap bs) (run-some white bs h) h

gap-front : (ws ds rest : List ℕ) → gap ws ≡ length ws → AllByRecursion (λ b. digit b ≡ true) ds → 0 < length ds → gap (ws ++ (ds ++ rest)) ≡ length ws
gap-front ws ds rest g a some = run-front white ws (ds ++ rest) (full-run white ws g) (stops ds a some)
  where
    stops : (ds : List ℕ) → AllByRecursion (λ b. digit b ≡ true) ds → 0 < length ds → starts white (ds ++ rest) ≡ false
    stops [] a h = absurd (omega arith)
    stops (d ∷ ds) a h = digit-no-white d a.0

-- what a found number is
closed-ok : (rule : NumberRule) (v d q : ℕ) (rs : List ℕ) (f : Found) → closed rule v d q rs ≡ Ok f → (rule.low ≤ v) × (v ≤ rule.high) × (closes rule rs ≡ true) × (f ≡ found v q rs)
closed-ok rule v d q rs f h =
    let a = cond-ok (closes rule rs) _ _ f h in
    let k = cond-ok (leb rule.low v && leb v rule.high) _ _ f a.1 in
    let range : (rule.low ≤ v) × (v ≤ rule.high) = in-range rule.low rule.high k.0 in
    (range.0, range.1, a.0, same k.1)
  where
    in-range : (l u : ℕ) → (leb l v && leb v u) ≡ true → (l ≤ v) × (v ≤ u)
    in-range l u e = (grind arith, grind arith)

    same : ◌≡◌ {A = Result Found Fault} (Ok (found v q rs)) (Ok f) → f ≡ found v q rs
    same e = cc

pub record Divides (rule : NumberRule) (p : ℕ) (bs : List ℕ) (f : Found) : Type 0 where
  pub ws : List ℕ
  pub ds : List ℕ
  pub split : bs ≡ ws ++ (ds ++ f.rest)
  pub number : Number rule f.value ws ds
  pub place : f.place ≡ p + length ws + length ds
  pub closing : closes rule f.rest ≡ true

pub divides : (rule : NumberRule) (p : ℕ) (bs : List ℕ) (f : Found) → number_at rule p bs ≡ Ok f → Divides rule p bs f
divides rule p bs f h =
    let a = cond-ok (starts white bs) _ _ f h in
    let n = gap bs in
    let cs = drop n bs in
    let k = cond-ok (starts digit cs) _ _ f a.1 in
    let m = run digit cs in
    let q = closed-ok rule (value_from 0 (take m cs)) (p + n) (p + n + m) (drop m cs) f k.1 in
    let ln : length (take n bs) ≡ n = length-take-le n bs (gap-le bs) in
    let lm : length (take m cs) ≡ m = length-take-le m cs (run-le digit cs) in
    let rest-is : f.rest ≡ drop m cs = ap (λ g. g.rest) q.3 in
    let value-is : f.value ≡ value_from 0 (take m cs) = ap (λ g. g.value) q.3 in
    record {
      ws = take n bs;
      ds = take m cs;
      split = sym (ap (λ r. take n bs ++ (take m cs ++ r)) rest-is ∙ ap (λ r. take n bs ++ r) (take-append-drop m cs) ∙ take-append-drop n bs);
      number = record {
        apart = gap-some bs a.0;
        blank = gap-cut bs;
        digits = all-run digit cs;
        some = omega (arith, lm, run-some digit cs k.0);
        value = sym value-is;
        low = omega (arith, q.0, value-is);
        high = omega (arith, q.1, value-is);
      };
      place = ap (λ g. g.place) q.3 ∙ sym (ap (λ x. p + x + length (take m cs)) ln ∙ ap (λ x. p + n + x) lm);
      closing = ap (closes rule) rest-is ∙ q.2;
    }

-- what stands behind a number is no digit
closes-no-digit : (rule : NumberRule) (rest : List ℕ) → closes rule rest ≡ true → starts digit rest ≡ false
closes-no-digit rule [] h = refl
closes-no-digit rule (b ∷ bs) h = white-no-digit b h

-- a gap closes the number before it
pub closes-gap : (rule : NumberRule) (ws rest : List ℕ) → starts white ws ≡ true → closes rule (ws ++ rest) ≡ true
closes-gap rule [] rest h = grind arith
closes-gap rule (w ∷ ws) rest h = h

pub closed_is : (rule : NumberRule) (v d q : ℕ) (rs : List ℕ) → rule.low ≤ v → v ≤ rule.high → closes rule rs ≡ true → closed rule v d q rs ≡ Ok (found v q rs)
closed_is rule v d q rs low high h = grind arith

digits_are : (rule : NumberRule) (d v : ℕ) (ds rest : List ℕ) → AllByRecursion (λ b. digit b ≡ true) ds → 0 < length ds → value_from 0 ds ≡ v → rule.low ≤ v → v ≤ rule.high → closes rule rest ≡ true
    → digits_at rule d (ds ++ rest) ≡ Ok (found v (d + length ds) rest)
digits_are rule d v ds rest a some value low high h =
    let n = run-front digit ds rest a (closes-no-digit rule rest h) in
    let some-digit = starts-front digit ds rest (starts-all digit ds a some) in
    grind (arith, n, some-digit, take_at ds rest (length ds) refl, drop_at ds rest (length ds) refl, value, closed_is rule v d (d + length ds) rest low high h)

pub number_is : (rule : NumberRule) (p v : ℕ) (ws ds rest : List ℕ) → Number rule v ws ds → closes rule rest ≡ true → number_at rule p (ws ++ (ds ++ rest)) ≡ Ok (found v (p + length ws + length ds) rest)
number_is rule p v ws ds rest n h =
    let whole = digits_are rule (p + length ws) v ds rest n.digits n.some n.value n.low n.high h in
    grind (arith, starts-front white ws (ds ++ rest) n.apart, gap-front ws ds rest n.blank n.digits n.some, drop_at ws (ds ++ rest) (length ws) refl, whole)

-- what is left behind a number, and what there was
pub divides-length : (rule : NumberRule) (p : ℕ) (bs : List ℕ) (f : Found) → Divides rule p bs f → f.place + length f.rest ≡ p + length bs
divides-length rule p bs f d =
    omega (arith, d.place, ap length d.split, length-append d.ws (d.ds ++ f.rest), length-append d.ds f.rest)
