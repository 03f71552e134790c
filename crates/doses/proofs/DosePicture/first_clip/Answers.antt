use Rattle.std.proofs.Common.{◌≡◌, rules, ◌+◌, ◌*◌, get_or, true, false, Some, sym, ◌∙◌, subst, arith}
use lib.Ieee.{nan}
use Rattle.pictures.proofs.Grids.{grid-inside}
use Rattle.doses.specs.Dose.{clips}
use Rattle.doses.specs.Clips.{FirstClip}
use Rattle.doses.proofs.Clips.{first-clip, clear-all, clear-more, clip-found}
use Rattle.doses.proofs.DosePicture.first_clip.Goals as goal

pub returns-after-search : goal.returns-after-search
returns-after-search c =
    let g = c.args.self.now.samples.grid in
    let ss = c.args.self.now.samples.samples.now in
    let o = clear-all g.columns g.rows c.columns-columns.result ss c.columns-columns.ensures c.search.y (omega arith) c.search.invariant.0 in
    let w = subst (FirstClip g.columns g.rows ss) (sym c.search.invariant.1) o in
    record { value = first-clip g.columns g.rows ss c.search.found-1 w; words = w }

pub returns-then-is_some_and : goal.returns-then-is_some_and
returns-then-is_some_and c =
    let g = c.args.self.now.samples.grid in
    let ss = c.args.self.now.samples.samples.now in
    let at = c.search.y * c.columns-columns.result + c.loop-x.x in
    let s : c.sample.result ≡ Some (get_or ss at nan) = c.sample.ensures ∙ grid-inside c.args.self.now.samples nan c.columns-columns.result c.loop-x.x c.search.y c.columns-columns.ensures c.loop-x-test.true (omega arith) in
    let t : true ≡ clips (get_or ss at nan) = search rules in
    let w = clip-found g.columns g.rows c.columns-columns.result ss c.columns-columns.ensures c.search.y c.loop-x.x c.loop-x-test.true (omega arith) t c.loop-x.invariant.0 in
    record { value = first-clip g.columns g.rows ss (Some (record { x = c.loop-x.x; y = c.search.y })) w; words = w }

pub loop-x-preserved : goal.loop-x-preserved
loop-x-preserved c =
    let s = c.args.self.now.samples in
    let ss = s.samples.now in
    let n = c.columns-columns.result in
    let at = c.search.y * n + c.loop-x.x in
    let e : c.sample.result ≡ Some (get_or ss at nan) = c.sample.ensures ∙ grid-inside s nan n c.loop-x.x c.search.y c.columns-columns.ensures c.loop-x-test.true (omega arith) in
    let t : clips (get_or ss at nan) ≡ false = search rules in
    (λ k h. clear-more ss at c.loop-x.invariant.0 t k (omega arith), c.loop-x.invariant.1)
