-- The numbers of a line, and how long a line is.
use Rattle.std.proofs.Common.{◌≡◌, ℕ, ◌+◌, ◌^◌, ◌<◌, ◌≤◌, List, [], ◌∷◌, ◌++◌, length, get_or, take, decimal, sym, refl, ap, ◌∙◌, append_assoc, append-nil, arith}
use Rattle.std.proofs.lemmas.List.{length-append, take_more}
use Rattle.std.proofs.lemmas.Fmt.{length-decimal-le}
use Rattle.text.specs.Texts.{fields, line}

fields-append : (ms ns : List ℕ) → fields (ms ++ ns) ≡ fields ms ++ fields ns
fields-append [] ns = refl
fields-append (m ∷ ms) ns =
    ap (λ l. 32 ∷ (decimal m ++ l)) (fields-append ms ns) ∙ ap (λ l. 32 ∷ l) (sym (append_assoc (decimal m) (fields ms) (fields ns)))

pub fields-more : (ns : List ℕ) (i : ℕ) → i < length ns → fields (take (i + 1) ns) ≡ (fields (take i ns) ++ (32 ∷ [])) ++ decimal (get_or ns i 0)
fields-more ns i h =
    ap fields (take_more ns i 0 h)
    ∙ fields-append (take i ns) (get_or ns i 0 ∷ [])
    ∙ ap (λ l. fields (take i ns) ++ (32 ∷ l)) (append-nil (decimal (get_or ns i 0)))
    ∙ sym (append_assoc (fields (take i ns)) (32 ∷ []) (decimal (get_or ns i 0)))

-- the bytes that the numbers of a line take
abbrev pub fields_length : List ℕ → ℕ
fields_length [] = 0
fields_length (n ∷ ns) = 1 + length (decimal n) + fields_length ns

pub length_fields : (ns : List ℕ) → length (fields ns) ≡ fields_length ns
length_fields [] = refl
length_fields (n ∷ ns) = omega (arith, length-append (decimal n) (fields ns), length_fields ns)

pub length-line : (name ns : List ℕ) → length (line name ns) ≡ length name + fields_length ns + 1
unfolding line
length-line name ns = omega (arith, length-append name (fields ns ++ (10 ∷ [])), length-append (fields ns) (10 ∷ []), length_fields ns)

-- the digits of any u64
pub length-decimal-u64 : (n : ℕ) → n < 2 ^ 64 → length (decimal n) ≤ 20
length-decimal-u64 n h = length-decimal-le 20 n (omega arith) (omega arith) h
