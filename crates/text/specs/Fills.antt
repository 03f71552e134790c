-- The fields of a text, and why the text says what they are.
use Rattle.std.specs.Prelude.{◌≡◌, ℕ, ◌-◌, ◌≤◌, List, ◌++◌, length, take, drop, replicate}
use Rattle.std.proofs.Common.{sym, ap, ◌∙◌, subst}
use Rattle.std.proofs.lemmas.List.{length-take-le, take-append-drop}

-- Of 256 bytes `used` are the text, and those behind it are 0.
pub record Filled (bytes : List ℕ) (used : ℕ) : Type 0 where
  pub fits : used ≤ 256
  pub room : length bytes ≡ 256
  pub rest : drop used bytes ≡ replicate (256 - used) 0

pub used-back : (bytes : List ℕ) (used : ℕ) → Filled bytes used → length (take used bytes) ≡ used
used-back bytes used h = length-take-le used bytes (subst (λ n. used ≤ n) (sym h.room) h.fits)

pub bytes-back : (bytes : List ℕ) (used : ℕ) → Filled bytes used → take used bytes ++ replicate (256 - length (take used bytes)) 0 ≡ bytes
bytes-back bytes used h =
    ap (λ n. take used bytes ++ replicate (256 - n) 0) (used-back bytes used h) ∙ ap (λ zeros. take used bytes ++ zeros) (sym h.rest) ∙ take-append-drop used bytes
