-- What a binary grey map is, as a division of the file into parts.
use Rattle.std.specs.Prelude.{◌≡◌, ℕ, ◌+◌, ◌*◌, ◌<◌, ◌≤◌, true, List, ◌∷◌, ◌++◌, length, take, Ok, Err, Result}
use Rattle.std.specs.List.{AllByRecursion}
use Rattle.pgm_reader.specs.declared.fault.ReadFault.{ReadFault}
use Rattle.pgm_reader.specs.declared.read.Header.{Header}
use Rattle.pgm_reader.specs.Format.{white, digit, starts, gap, value_from, NumberRule, header_rule}

-- One number of a file: the gap ws, then the digits ds, which write v.
pub record Number (rule : NumberRule) (v : ℕ) (ws ds : List ℕ) : Type 0 where
  pub apart : starts white ws ≡ true
  pub blank : gap ws ≡ length ws
  pub digits : AllByRecursion (λ b. digit b ≡ true) ds
  pub some : 0 < length ds
  pub value : value_from 0 ds ≡ v
  pub low : rule.low ≤ v
  pub high : v ≤ rule.high

-- The file bs is a map with the header h.
pub record GreyMap (bs : List ℕ) (h : Header) : Type 0 where
  pub ws₁ : List ℕ
  pub ds₁ : List ℕ
  pub ws₂ : List ℕ
  pub ds₂ : List ℕ
  pub ws₃ : List ℕ
  pub ds₃ : List ℕ
  pub space : ℕ
  pub rest : List ℕ
  pub whole : bs ≡ 80 ∷ (53 ∷ (ws₁ ++ (ds₁ ++ (ws₂ ++ (ds₂ ++ (ws₃ ++ (ds₃ ++ (space ∷ rest))))))))
  pub columns : Number (header_rule 4096) h.columns ws₁ ds₁
  pub rows : Number (header_rule 4096) h.rows ws₂ ds₂
  pub maxval : Number (header_rule 255) h.maxval ws₃ ds₃
  pub closes : white space ≡ true
  pub first : h.first + length rest ≡ length bs
  pub end : h.end ≡ h.first + h.columns * h.rows
  pub enough : h.columns * h.rows ≤ length rest
  pub none_above_maxval : AllByRecursion (λ b. b ≤ h.maxval) (take (h.columns * h.rows) rest)

-- What an answer says of the file: reading accepts exactly the maps, with their headers.
abbrev pub Maps : List ℕ → Result Header ReadFault → Type 0
Maps bs (Ok h) = GreyMap bs h
Maps bs (Err f) = (h : Header) → GreyMap bs h → ⊥
