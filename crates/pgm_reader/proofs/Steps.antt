-- One byte of a header.
use Rattle.std.proofs.Common.{◌≡◌, ℕ, ◌+◌, ◌-◌, ◌*◌, ◌<◌, ◌≤◌, min, true, false, List, [], ◌∷◌, length, get_or, take, drop, Option, Result, sym, ap, ◌∙◌, arith}
use Rattle.std.proofs.lemmas.List.{at_drop_more}
use Rattle.pgm_reader.specs.declared.fault.ReadFault.{ReadFault}
use Rattle.pgm_reader.specs.declared.header.Kind.TheVariants.{White, Digit}
use Rattle.pgm_reader.specs.declared.header.Field.{Field}
use Rattle.pgm_reader.specs.declared.header.Field.TheVariants.{Columns, Rows, Maxval}
use Rattle.pgm_reader.specs.declared.header.Stage.{Stage}
use Rattle.pgm_reader.specs.declared.header.Stage.TheVariants.{Opened, Gap, Digits}
use Rattle.pgm_reader.specs.declared.header.HeaderMachine.{HeaderMachine}
use Rattle.pgm_reader.specs.declared.header.Numbers.{Numbers}
use Rattle.pgm_reader.specs.Format.{white, digit, run, value_from, NumberRule, closed, digits_on, gap_at, number_at, shape_of}
use Rattle.pgm_reader.specs.Machine.{kind_of, largest_of, rule_of, on_field, on_stage, left, answered, Steps, Closes}
use Rattle.pgm_reader.proofs.Numbers.{white-no-digit}

white-is : (b : ℕ) → kind_of b ≡ White → white b ≡ true
white-is b e = grind arith

digit-is : (b d : ℕ) → kind_of b ≡ Digit d → (white b ≡ false) × (digit b ≡ true) × (d ≡ b - 48)
digit-is b d e = grind arith

-- a byte of a gap
gap-white : (rule : NumberRule) (p b : ℕ) (bs : List ℕ) → white b ≡ true → gap_at rule p (b ∷ bs) ≡ gap_at rule (p + 1) bs
gap-white rule p b bs e = grind arith

-- the first byte of a gap
number-white : (rule : NumberRule) (p b : ℕ) (bs : List ℕ) → white b ≡ true → number_at rule p (b ∷ bs) ≡ gap_at rule (p + 1) bs
number-white rule p b bs e = grind (arith, gap-white rule p b bs e)

-- a digit behind digits
digits-digit : (rule : NumberRule) (v d p b : ℕ) (bs : List ℕ) → digit b ≡ true → digits_on rule v d p (b ∷ bs) ≡ digits_on rule (v * 10 + (b - 48)) d (p + 1) bs
digits-digit rule v d p b bs e = grind arith

-- the first digit behind a gap
gap-digit : (rule : NumberRule) (p b : ℕ) (bs : List ℕ) → white b ≡ false → digit b ≡ true → gap_at rule p (b ∷ bs) ≡ digits_on rule (b - 48) p (p + 1) bs
gap-digit rule p b bs e f = grind (arith, digits-digit rule 0 p p b bs f)

-- a white byte behind digits
digits-white : (rule : NumberRule) (v d p b : ℕ) (bs : List ℕ) → digit b ≡ false → digits_on rule v d p (b ∷ bs) ≡ closed rule v d p (b ∷ bs)
digits-white rule v d p b bs e = grind arith

-- numbers past the largest are refused alike, so it does no harm that the code's saturate
closed-large : (rule : NumberRule) (x y d q : ℕ) (rs : List ℕ) → rule.high < x → rule.high < y → closed rule x d q rs ≡ closed rule y d q rs
closed-large rule x y d q rs h k = grind arith

value_from-ge : (n : ℕ) (cs : List ℕ) → n ≤ value_from n cs
value_from-ge n [] = omega arith
value_from-ge n (c ∷ cs) = omega (arith, value_from-ge (n * 10 + (c - 48)) cs)

digits-large : (rule : NumberRule) (x y d p : ℕ) (bs : List ℕ) → rule.high < x → rule.high < y → digits_on rule x d p bs ≡ digits_on rule y d p bs
digits-large rule x y d p bs h k =
    let ds = take (run digit bs) bs in
    closed-large rule (value_from x ds) (value_from y ds) d (p + run digit bs) (drop (run digit bs) bs) (omega (arith, value_from-ge x ds)) (omega (arith, value_from-ge y ds))

digits-saturated : (rule : NumberRule) (s x d p : ℕ) (bs : List ℕ) → rule.high < s → digits_on rule x d p bs ≡ digits_on rule (min x s) d p bs
digits-saturated rule s x d p bs h = grind (arith, digits-large rule x (min x s) d p bs)

largest-le : (f : Field) → largest_of f ≤ 4096
largest-le Columns = omega arith
largest-le (Rows c) = omega arith
largest-le (Maxval c r) = omega arith

-- one byte, by the machine's stage: what its new stage s makes of the rest
pub on-opened : (m : HeaderMachine) (s : Stage) (p b : ℕ) (bs : List ℕ) → m.stage ≡ Opened → kind_of b ≡ White → s ≡ Gap → left m p (b ∷ bs) ≡ on_stage m.field s (p + 1) bs
on-opened m s p b bs e k is =
    grind (arith, number-white (rule_of m.field) p b bs (white-is b k))

pub on-gap : (m : HeaderMachine) (s : Stage) (p b : ℕ) (bs : List ℕ) → m.stage ≡ Gap → kind_of b ≡ White → s ≡ Gap → left m p (b ∷ bs) ≡ on_stage m.field s (p + 1) bs
on-gap m s p b bs e k is =
    grind (arith, gap-white (rule_of m.field) p b bs (white-is b k))

pub on-first : (m : HeaderMachine) (s : Stage) (p b d : ℕ) (bs : List ℕ) → m.stage ≡ Gap → kind_of b ≡ Digit d → s ≡ Digits p d → left m p (b ∷ bs) ≡ on_stage m.field s (p + 1) bs
on-first m s p b d bs e k is =
    let h = digit-is b d k in
    grind (arith, gap-digit (rule_of m.field) p b bs h.0 h.1, h.2)

pub on-digit : (m : HeaderMachine) (s : Stage) (start value p b d v : ℕ) (bs : List ℕ) → m.stage ≡ Digits start value → kind_of b ≡ Digit d → v ≡ min (min (value * 10) 18446744073709551615 + d) 18446744073709551615
    → s ≡ Digits start v → left m p (b ∷ bs) ≡ on_stage m.field s (p + 1) bs
on-digit m s start value p b d v bs e k sum is =
    let h = digit-is b d k in
    let low = largest-le m.field in
    let rule = rule_of m.field in
    let same : min (value * 10 + (b - 48)) 18446744073709551615 ≡ v = omega (arith, h.2, sum) in
    ap (λ s. on_stage m.field s p (b ∷ bs)) e
    ∙ ap (on_field m.field)
    (digits-digit _ value start p b bs h.1 ∙ digits-saturated rule 18446744073709551615 _ start (p + 1) bs (omega arith) ∙ ap (λ x. digits_on rule x start (p + 1) bs) same)
    ∙ ap (λ s. on_stage m.field s (p + 1) bs) (sym is)

pub on-closed : (m m' : HeaderMachine) (start value p b : ℕ) (answer : Result (Option Numbers) ReadFault) → m.stage ≡ Digits start value → kind_of b ≡ White → Closes m m' start value answer → Steps m m' p b answer
on-closed m m' start value p b answer e k h =
    λ bs. ap (λ s. on_stage m.field s p (b ∷ bs)) e ∙ ap (on_field m.field) (digits-white _ value start p b bs (white-no-digit b (white-is b k))) ∙ h p b bs (white-is b k)

-- the loop at place i + 2 of the file: what the header will be
abbrev pub Reached : List ℕ → ℕ → HeaderMachine → Type 0
Reached rest i m = left m (i + 2) (drop i rest) ≡ shape_of rest

-- one turn
pub turned : (m m' : HeaderMachine) (answer : Result (Option Numbers) ReadFault) (i : ℕ) (rest : List ℕ) → i < length rest → Reached rest i m → Steps m m' (i + 2) (get_or rest i 0) answer → answered m' answer (i + 1 + 2) (drop (i + 1) rest) ≡ shape_of rest
turned m m' answer i rest h r on =
    ap (λ p. answered m' answer p (drop (i + 1) rest)) (omega arith) ∙ sym (on (drop (i + 1) rest)) ∙ sym (at_drop_more (left m (i + 2)) rest i 0 h) ∙ r
