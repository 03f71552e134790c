use Rattle.std.proofs.Common.{rules}
use Rattle.cut_sets.specs.Sets.{bands_of}
use Rattle.painting.proofs.Totals.{change-total}
use Rattle.painting.proofs.paint.Goals as goal

pub returns : goal.returns
returns g c =
    let p = c.args.picture.now in
    record {
      answer = search rules;
      after = search rules;
      change = λ d _. change-total d (bands_of c.args.set.now) (g.P.Picture.shown p) (g.met.P.Picture.sound p) c.args.buffer.now _ (search rules);
    }
