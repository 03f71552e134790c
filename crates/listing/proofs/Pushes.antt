-- Three lines, one after the other, in a text that has room for them.
use Rattle.std.proofs.Common.{◌≡◌, ℕ, ◌+◌, ◌≤◌, List, [], ◌++◌, length, ◌∙◌, append_assoc, arith}
use Rattle.std.proofs.lemmas.List.{length-append}
use Rattle.text.specs.Texts.{clipped}
use Rattle.text.proofs.Clips.{pushed_whole}

pub three-lines : (a b d t₀ t₁ t₂ t₃ : List ℕ) → t₀ ≡ [] → t₁ ≡ clipped (t₀ ++ a) → t₂ ≡ clipped (t₁ ++ b) → t₃ ≡ clipped (t₂ ++ d) → length a + length b + length d ≤ 256
    → t₃ ≡ a ++ (b ++ d)
three-lines a b d t₀ t₁ t₂ t₃ e₀ e₁ e₂ e₃ l =
    let one = pushed_whole [] a t₀ t₁ e₀ e₁ (omega arith) in
    let two = pushed_whole a b t₁ t₂ one e₂ (omega arith) in
    pushed_whole (a ++ b) d t₂ t₃ two e₃ (omega (arith, length-append a b)) ∙ append_assoc a b d
