use Rattle.std.proofs.Common.{length, sym, ap, ◌∙◌, arith}
use Rattle.histogram.specs.Totals.{pixels}
use Rattle.histogram.specs.Counts.{count}
use Rattle.histogram.proofs.Eachs.{each_long}
use Rattle.histogram.proofs.Weights.{pixels-of}
use Rattle.histogram.proofs.tally.Tally.of_picture.Goals as goal

pub invariant_of-result : goal.invariant_of-result
invariant_of-result g c =
    let p = c.args.picture.now in
    let e = c.of_picture.ensures in
    record {
      long = ap length e ∙ each_long (count (g.P.Picture.shown p).levels);
      adds = ap pixels e ∙ pixels-of (g.P.Picture.shown p) (g.met.P.Picture.sound p) ∙ sym c.size-size.ensures;
      few = omega arith;
    }
