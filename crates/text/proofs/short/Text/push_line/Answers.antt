use Rattle.std.proofs.Common.{◌≡◌, ◌≤◌, [], ◌∷◌, ◌++◌, length, subst, get_or, take, decimal, sym, ap, ◌∙◌, append_assoc}
use Rattle.std.proofs.lemmas.List.{take_all}
use Rattle.text.specs.Texts.{clipped, fields, line}
use Rattle.text.proofs.Clips.{clipped-nil, clipped-le, clipped-then}
use Rattle.text.proofs.Lines.{fields-more}
use Rattle.text.proofs.short.Text.push_line.Goals as goal

pub loop-n-init : goal.loop-n-init
loop-n-init c = clipped-nil c.push_bytes.new.self (subst (λ t. length t ≤ 256) (sym c.push_bytes.ensures) (clipped-le _))

pub loop-n-preserved : goal.loop-n-preserved
loop-n-preserved c =
    let ns = c.args.numbers.now in
    let i = c.loop-n.n-index in
    let start = c.push_bytes.new.self in
    let done = fields (take i ns) in
    let space : c.push_byte.new.self ≡ clipped (c.loop-n.self ++ (32 ∷ [])) = c.push_byte.ensures in
    let spaced : c.push_byte.new.self ≡ clipped (start ++ (done ++ (32 ∷ []))) =
    space ∙ clipped-then start c.loop-n.self done (32 ∷ []) c.loop-n.invariant in
    c.push_number.ensures
    ∙ clipped-then start c.push_byte.new.self (done ++ (32 ∷ [])) (decimal (get_or ns i 0)) spaced
    ∙ ap (λ l. clipped (start ++ l)) (sym (fields-more ns i c.loop-n-test.true))

pub returns : goal.returns
unfolding line
returns c =
    let name = c.args.name.now in
    let ns = c.args.numbers.now in
    let start = c.args.self.now in
    let all : fields (take c.loop-n.n-index ns) ≡ fields ns = ap fields (take_all c.loop-n.n-index ns c.loop-n-test.false) in
    let named : c.loop-n.self ≡ clipped (start ++ (name ++ fields ns)) =
    c.loop-n.invariant
    ∙ ap (λ l. clipped (c.push_bytes.new.self ++ l)) all
    ∙ clipped-then start c.push_bytes.new.self name (fields ns) c.push_bytes.ensures in
    c.push_byte-2.ensures
    ∙ clipped-then start c.loop-n.self (name ++ fields ns) (10 ∷ []) named
    ∙ ap (λ l. clipped (start ++ l)) (append_assoc name (fields ns) (10 ∷ []))
