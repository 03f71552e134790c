use Rattle.std.proofs.Common.{[], ◌∷◌, ◌++◌, get_or, take, subst, sym, ap, ◌∙◌}
use Rattle.std.specs.Prelude.{◌≤◌, length}
use Rattle.std.proofs.lemmas.List.{take_more}
use Rattle.text.specs.Texts.{clipped}
use Rattle.text.proofs.Clips.{clipped-nil, text-short, clipped-then}
use Rattle.text.proofs.short.Text.push_bytes.Goals as goal

pub loop-byte-init : goal.loop-byte-init
loop-byte-init c = clipped-nil c.args.self.now (subst (λ t. length t ≤ 256) c.self.view_is (text-short _ _ c.self.invariant))

pub loop-byte-preserved : goal.loop-byte-preserved
loop-byte-preserved c =
    let start = c.args.self.now in
    let bytes = c.args.bytes.now in
    let i = c.loop-byte.byte-index in
    c.push_byte.ensures
    ∙ clipped-then start c.loop-byte.self (take i bytes) (get_or bytes i 0 ∷ []) c.loop-byte.invariant
    ∙ ap (λ l. clipped (start ++ l)) (sym (take_more bytes i 0 c.loop-byte-test.true))
