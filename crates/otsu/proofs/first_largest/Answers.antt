use Rattle.std.proofs.Common.{◌≡◌, ◌+◌, get_or, sym, ap, ◌∙◌, subst, add-one, arith, rules}
use Rattle.otsu.specs.declared.Ratio.{Ratio}
use Rattle.otsu.specs.Otsu.{Otsu, top, bottom}
use Rattle.otsu.proofs.Sizes.{classes}
use Rattle.otsu.proofs.Choice.{Parted, raise-fits, parted-next, top-is, bottom-is, step-takes, step_keeps}
use Rattle.otsu.proofs.first_largest.Goals as goal
use Rattle.otsu.proofs.first_largest.Goals.{After-from, then-below, else-below}

pub new-classes-requires-clause-some_high : goal.new-classes-requires-clause-some_high
new-classes-requires-clause-some_high c =
    (classes c.args.tally.now c.args.extent.lowest c.args.extent.highest c.args.extent.lowest c.requires (omega arith) c.requires.apart).some-high

here : (c : After-from) → c.from.result ≡ get_or c.args.tally.now c.loop-k.k 0
here c = c.from.ensures ∙ c.count.ensures ∙ ap (λ h. get_or h c.loop-k.k 0) c.histogram-histogram.ensures.counts

pub raised-classes-requires : goal.raised-classes-requires
raised-classes-requires c =
    let f = raise-fits c.args.tally.now c.args.extent.lowest c.args.extent.highest c.requires c.loop-k.k c.from.result c.loop-k.classes c.loop-k-test.true (here c) c.loop-k.invariant.0 in
    record { some = f.some; among = f.among; dim = f.dim }

pub loop-k-preserved : goal.loop-k-preserved
loop-k-preserved c =
    let h = c.args.tally.now in
    let lo = c.args.extent.lowest in
    let up = c.args.extent.highest in
    let k = c.loop-k.k in
    let i = c.loop-k.invariant in
    let r = c.raised-classes in
    let p = parted-next h lo up c.requires k c.from.result c.loop-k.classes c.loop-k-test.true (here (goal.at.loop-k-preserved c).After-from) i.0 r.result r.ensures.n0 r.ensures.s0 r.ensures.n1 r.ensures.s1 in
    let q = subst (λ z. Parted h z r.result) (sym (add-one k)) p in
    let t = top-is h k _ _ p c.criterion-next.ensures.num in
    let d = bottom-is h k _ _ p c.criterion-next.ensures.den in
    elim c.if-below.branch [
      | then-below w ↦ (
        q,
        subst (Otsu h lo (k + 1)) (sym w.best-is) (step-takes h lo up k c.loop-k.best _ _ _ _ c.requires (omega arith) c.loop-k-test.true i.1 i.2 i.3 t d (search rules)),
        ap (λ (z : Ratio). z.num) w.most-is ∙ t ∙ ap (top h) (sym w.best-is),
        ap (λ (z : Ratio). z.den) w.most-is ∙ d ∙ ap (bottom h) (sym w.best-is),
      )
      | else-below w ↦ (
        q,
        subst (Otsu h lo (k + 1)) (sym w.best-is) (step_keeps h lo k c.loop-k.best _ _ _ _ i.1 i.2 i.3 t d (search rules)),
        ap (λ (z : Ratio). z.num) w.most-is ∙ i.2 ∙ ap (top h) (sym w.best-is),
        ap (λ (z : Ratio). z.den) w.most-is ∙ i.3 ∙ ap (bottom h) (sym w.best-is),
      )
    ]
