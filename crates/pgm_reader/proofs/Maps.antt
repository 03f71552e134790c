-- Reading accepts exactly the maps.
use Rattle.std.proofs.Common.{◌≡◌, ℕ, ◌+◌, ◌*◌, ◌≤◌, Bool, true, false, cond, ◌&&◌, eqb, ltb, List, [], ◌∷◌, ◌++◌, length, take, drop, Some, None, Ok, Err, Option, Result, sym, refl, ap, ◌∙◌, subst, append_assoc, arith, ltb-false}
use Rattle.std.specs.List.{AllByRecursion}
use Rattle.std.proofs.lemmas.List.{length-append}
use Rattle.std.proofs.lemmas.List.Prefix.{end_rest}
use Rattle.faults.specs.Faults.{told, and_then}
use Rattle.faults.specs.declared.Fault.{Fault}
use Rattle.pgm_reader.specs.declared.fault.ReadFault.{ReadFault}
use Rattle.pgm_reader.specs.declared.header.Shape.{Shape}
use Rattle.pgm_reader.specs.declared.read.Header.{Header}
use Rattle.pgm_reader.specs.Faults.{read_fault}
use Rattle.pgm_reader.specs.Format.{header_rule, to_columns, to_rows, to_maxval, shape, shape_of, header, samples, first_above_of, unless_above, with_samples, image_of}
use Rattle.pgm_reader.specs.Grammar.{Number, GreyMap, Maps}
use Rattle.pgm_reader.proofs.Numbers.{cond-ok, divides-length, number_is, closes-gap}
use Rattle.pgm_reader.proofs.Shapes.{parts, then_ok, closing-white}
use Rattle.pgm_reader.proofs.Above.{none_above, all_none}

cond_no : {X : Type 0} (b : Bool) (x : Result X Fault) (e : Fault) (f : X) → cond b (Err e) x ≡ Ok f → (b ≡ false) × (x ≡ Ok f)
cond_no false x e f h = (refl, h)
cond_no true x e f h = grind arith

unless-ok : (o : Option ℕ) (a h : Header) → unless_above a o ≡ Ok h → (o ≡ None) × (h ≡ a)
unless-ok None a h e = (refl, cc)
unless-ok (Some i) a h e = grind arith

same-header : (a b : Header) → a.columns ≡ b.columns → a.rows ≡ b.rows → a.maxval ≡ b.maxval → a.first ≡ b.first → a.end ≡ b.end → a ≡ b
same-header a b p q r s t = λ i. record { columns = p i; rows = q i; maxval = r i; first = s i; end = t i }

-- what lies behind the header
behind : (file ws₁ ds₁ ws₂ ds₂ ws₃ ds₃ : List ℕ) (b : ℕ) (rest : List ℕ) (first : ℕ) → file ≡ 80 ∷ (53 ∷ (ws₁ ++ (ds₁ ++ (ws₂ ++ (ds₂ ++ (ws₃ ++ (ds₃ ++ (b ∷ rest)))))))) → first + length rest ≡ length file → drop first file ≡ rest
behind file ws₁ ds₁ ws₂ ds₂ ws₃ ds₃ b rest first e l =
    let front = 80 ∷ (53 ∷ (ws₁ ++ (ds₁ ++ (ws₂ ++ (ds₂ ++ (ws₃ ++ (ds₃ ++ (b ∷ [])))))))) in
    let j : front ++ rest ≡ 80 ∷ (53 ∷ (ws₁ ++ (ds₁ ++ (ws₂ ++ (ds₂ ++ (ws₃ ++ (ds₃ ++ (b ∷ rest)))))))) = simp append_assoc in
    ap (λ k. drop k file) (omega (arith, l)) ∙ end_rest file rest front (e ∙ sym j)

-- the samples are as many as the header says
samples-cut : (bs rest : List ℕ) (s : Shape) → drop s.first bs ≡ rest → samples bs (header s) ≡ take (s.columns * s.rows) rest
samples-cut bs rest s d = ap (λ k. take k (drop s.first bs)) (omega arith) ∙ ap (take (s.columns * s.rows)) d

-- the samples of an accepted file
accepted-samples : (bs rest : List ℕ) (s : Shape) (h : Header) → drop s.first bs ≡ rest → with_samples bs s ≡ Ok h
    → (s.first + s.columns * s.rows ≤ length bs) × (h ≡ header s) × AllByRecursion (λ b. b ≤ s.maxval) (take (s.columns * s.rows) rest)
accepted-samples bs rest s h d e =
    let n = s.columns * s.rows in
    let a = cond_no (ltb (length bs) (s.first + n)) _ _ h e in
    let u = unless-ok (first_above_of s.maxval (samples bs (header s))) (header s) h a.1 in
    (ltb-false (length bs) (s.first + n) a.0, u.1, subst (AllByRecursion (λ b. b ≤ s.maxval)) (samples-cut bs rest s d) (none_above s.maxval (samples bs (header s)) u.0))

sound-at : (bs : List ℕ) (h : Header) (s : Shape) → shape_of bs ≡ Ok s → with_samples (80 ∷ 53 ∷ bs) s ≡ Ok h → GreyMap (80 ∷ 53 ∷ bs) h
sound-at bs h s e f =
    let p = parts bs s e in
    let w = closing-white 255 p.m.rest p.maxval.closing in
    let file = 80 ∷ 53 ∷ bs in
    let l₁ = divides-length _ _ _ _ p.columns in
    let l₂ = divides-length _ _ _ _ p.rows in
    let l₃ = divides-length _ _ _ _ p.maxval in
    let first-is : s.first ≡ p.m.place + 1 = ap (λ x. x.first) p.is in
    let long : s.first + length w.1 ≡ length file = omega (arith, first-is, l₁, l₂, l₃, ap length w.2) in
    let whole : file ≡ 80 ∷ (53 ∷ (p.columns.ws ++ (p.columns.ds ++ (p.rows.ws ++ (p.rows.ds ++ (p.maxval.ws ++ (p.maxval.ds ++ (w.0 ∷ w.1)))))))) =
    ap (λ l. 80 ∷ (53 ∷ l)) (p.columns.split
    ∙ ap (λ l. p.columns.ws ++ (p.columns.ds ++ l)) (p.rows.split
    ∙ ap (λ l. p.rows.ws ++ (p.rows.ds ++ l)) (p.maxval.split ∙ ap (λ l. p.maxval.ws ++ (p.maxval.ds ++ l)) w.2))) in
    let tail : drop s.first file ≡ w.1 = behind file p.columns.ws p.columns.ds p.rows.ws p.rows.ds p.maxval.ws p.maxval.ds w.0 w.1 s.first whole long in
    let q = accepted-samples file w.1 s h tail f in
    let hc : h.columns ≡ p.c.value = ap (λ x. x.columns) q.1 ∙ ap (λ x. x.columns) p.is in
    let hr : h.rows ≡ p.r.value = ap (λ x. x.rows) q.1 ∙ ap (λ x. x.rows) p.is in
    let hm : h.maxval ≡ p.m.value = ap (λ x. x.maxval) q.1 ∙ ap (λ x. x.maxval) p.is in
    let hf : h.first ≡ s.first = ap (λ x. x.first) q.1 in
    let hn : h.columns * h.rows ≡ s.columns * s.rows = ap (λ x. x.columns * x.rows) q.1 in
    record {
      ws₁ = p.columns.ws;
      ds₁ = p.columns.ds;
      ws₂ = p.rows.ws;
      ds₂ = p.rows.ds;
      ws₃ = p.maxval.ws;
      ds₃ = p.maxval.ds;
      space = w.0;
      rest = w.1;
      whole = whole;
      columns = subst (λ v. Number (header_rule 4096) v p.columns.ws p.columns.ds) (sym hc) p.columns.number;
      rows = subst (λ v. Number (header_rule 4096) v p.rows.ws p.rows.ds) (sym hr) p.rows.number;
      maxval = subst (λ v. Number (header_rule 255) v p.maxval.ws p.maxval.ds) (sym hm) p.maxval.number;
      closes = w.3;
      first = omega (arith, hf, long);
      end = ap (λ x. x.end) q.1 ∙ sym (ap (λ k. k + h.columns * h.rows) hf ∙ ap (λ k. s.first + k) hn);
      enough = omega (arith, hn, q.0, long);
      none_above_maxval = subst (λ k. AllByRecursion (λ b. b ≤ h.maxval) (take k w.1)) (sym hn) (subst (λ v. AllByRecursion (λ b. b ≤ v) (take (s.columns * s.rows) w.1)) (sym (ap (λ x. x.maxval) q.1)) q.2);
    }

pub sound : (bs : List ℕ) (h : Header) → image_of bs ≡ Ok h → GreyMap bs h
unfolding image_of
sound [] h e = grind arith
sound (a ∷ []) h e = grind arith
sound (a ∷ b ∷ bs) h e =
    let k = cond-ok (eqb a 80 && eqb b 53) _ _ h e in
    let p : a ≡ 80 = is-p k.0 in
    let q : b ≡ 53 = is-5 k.0 in
    let s = then_ok (shape_of bs) (with_samples (a ∷ b ∷ bs)) h k.1 in
    subst (λ l. GreyMap l h) (λ i. sym p i ∷ (sym q i ∷ bs)) (sound-at bs h s.0 s.1 (subst (λ l. with_samples l s.0 ≡ Ok h) (λ i. p i ∷ (q i ∷ bs)) s.2))
  where
    is-p : (eqb a 80 && eqb b 53) ≡ true → a ≡ 80
    is-p e = grind arith

    is-5 : (eqb a 80 && eqb b 53) ≡ true → b ≡ 53
    is-5 e = grind arith

-- the samples of a map
samples-are : (file rest : List ℕ) (s : Shape) → drop s.first file ≡ rest → s.first + length rest ≡ length file → s.columns * s.rows ≤ length rest → AllByRecursion (λ b. b ≤ s.maxval) (take (s.columns * s.rows) rest) → with_samples file s ≡ Ok (header s)
samples-are file rest s d l enough small =
    let xs = samples file (header s) in
    let none = all_none s.maxval xs (subst (AllByRecursion (λ b. b ≤ s.maxval)) (sym (samples-cut file rest s d)) small) in
    grind (arith, none)

pub complete : (bs : List ℕ) (h : Header) → GreyMap bs h → image_of bs ≡ Ok h
unfolding image_of
complete bs h m =
    let r₃ = m.space ∷ m.rest in
    let r₂ = m.ws₃ ++ (m.ds₃ ++ r₃) in
    let r₁ = m.ws₂ ++ (m.ds₂ ++ r₂) in
    let all = m.ws₁ ++ (m.ds₁ ++ r₁) in
    let p₁ = 2 + length m.ws₁ + length m.ds₁ in
    let p₂ = p₁ + length m.ws₂ + length m.ds₂ in
    let p₃ = p₂ + length m.ws₃ + length m.ds₃ in
    let file = 80 ∷ (53 ∷ all) in
    let n₁ = number_is (header_rule 4096) 2 h.columns m.ws₁ m.ds₁ r₁ m.columns (closes-gap (header_rule 4096) m.ws₂ (m.ds₂ ++ r₂) m.rows.apart) in
    let n₂ = number_is (header_rule 4096) p₁ h.rows m.ws₂ m.ds₂ r₂ m.rows (closes-gap (header_rule 4096) m.ws₃ (m.ds₃ ++ r₃) m.maxval.apart) in
    let n₃ = number_is (header_rule 255) p₂ h.maxval m.ws₃ m.ds₃ r₃ m.maxval m.closes in
    let s = shape h.columns h.rows h.maxval (p₃ + 1) in
    let e : shape_of all ≡ Ok s = ap to_columns n₁ ∙ ap (to_rows h.columns) n₂ ∙ ap (to_maxval h.columns h.rows) n₃ in
    let l : length file ≡ p₃ + 1 + length m.rest =
    omega (arith, length-append m.ws₁ (m.ds₁ ++ r₁), length-append m.ds₁ r₁, length-append m.ws₂ (m.ds₂ ++ r₂), length-append m.ds₂ r₂, length-append m.ws₃ (m.ds₃ ++ r₃), length-append m.ds₃ r₃) in
    let f : h.first ≡ p₃ + 1 = omega (arith, l, m.first, ap length m.whole) in
    let tail : drop (p₃ + 1) file ≡ m.rest = behind file m.ws₁ m.ds₁ m.ws₂ m.ds₂ m.ws₃ m.ds₃ m.space m.rest (p₃ + 1) refl (sym l) in
    let k = samples-are file m.rest s tail (sym l) m.enough m.none_above_maxval in
    ap image_of m.whole ∙ ap (λ r. and_then r (with_samples file)) e ∙ k
    ∙ ap Ok (same-header (header s) h refl refl refl (sym f) (ap (λ x. x + h.columns * h.rows) (sym f) ∙ sym m.end))

pub maps-told : (bs : List ℕ) (r : Result Header ReadFault) → told read_fault r ≡ image_of bs → Maps bs r
maps-told bs (Ok h) e = sound bs h (sym e)
maps-told bs (Err f) e = λ h m. let no : ◌≡◌ {A = Result Header Fault} (Err (read_fault f)) (Ok h) = e ∙ complete bs h m in grind arith
