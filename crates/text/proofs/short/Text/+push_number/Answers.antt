use Rattle.std.proofs.Common.{◌≡◌, ◌+◌, ◌/◌, ◌%◌, [], ◌∷◌, ◌++◌, decimal, sym, ap, ◌∙◌, arith}
use Rattle.std.proofs.lemmas.Fmt.{decimal_digit, decimal_step}
use Rattle.text.specs.Texts.{clipped}
use Rattle.text.proofs.Clips.{clipped-then}
use Rattle.text.proofs.short.Text.+push_number.Goals as goal
use Rattle.text.proofs.short.Text.+push_number.Goals.{then-n-ge10, else-n-ge10}

pub returns : goal.returns
returns t c =
    let n = c.args.n in
    let start = c.args.self.now in
    let last = (48 + n % 10) ∷ [] in
    elim c.if-n-ge10.branch [
      | then-n-ge10 w ↦
          c.push_byte.ensures
          ∙ clipped-then start c.if-n-ge10.self (decimal (n / 10)) last (w.self-is ∙ w.push_number.ensures)
          ∙ ap (λ l. clipped (start ++ l)) (sym (decimal_step n w.if-n-ge10.true (omega arith)))
      | else-n-ge10 w ↦
          let small : n % 10 ≡ n = omega (arith, w.if-n-ge10.false) in
          c.push_byte.ensures
          ∙ ap (λ s. clipped (s ++ last)) w.self-is
          ∙ ap (λ k. clipped (start ++ ((48 + k) ∷ []))) small
          ∙ ap (λ l. clipped (start ++ l)) (sym (decimal_digit n w.if-n-ge10.false))
    ]
