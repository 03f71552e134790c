use Rattle.std.proofs.Common.{[], ◌∷◌, ◌++◌, sym, ap, ◌∙◌, arith}
use Rattle.text.specs.Texts.{clipped}
use Rattle.text.proofs.Clips.{one_more, no_more, filled-more}
use Rattle.text.proofs.short.Text.push_byte.Goals as goal

pub invariant_of-self : goal.invariant_of-self
invariant_of-self c = filled-more _ _ _ _ c.self.invariant (omega arith) c.if-self-lt256.true

pub returns-then-self-lt256 : goal.returns-then-self-lt256
returns-then-self-lt256 c = one_more _ _ _ c.self.invariant c.if-self-lt256.true ∙ ap (λ t. clipped (t ++ (c.args.byte ∷ []))) c.self.view_is

pub returns-else-self-lt256 : goal.returns-else-self-lt256
returns-else-self-lt256 c =
    sym c.self.view_is ∙ no_more _ _ c.args.byte c.self.invariant c.if-self-lt256.false ∙ ap (λ t. clipped (t ++ (c.args.byte ∷ []))) c.self.view_is
