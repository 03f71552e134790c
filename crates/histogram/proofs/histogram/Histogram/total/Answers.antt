use Rattle.std.proofs.Common.{◌≡◌, ◌∙◌, sum, arith, rules}
use Rattle.std.proofs.iter.runs.Made.{chains}
use Rattle.std.proofs.lemmas.Iterator.{YieldsList-from_slice}
use Rattle.std.proofs.lemmas.Iterator.Adapters.{fits_from_length, at_most_from_yields_List}
use Rattle.histogram.proofs.Eachs.{pixels-is}
use Rattle.histogram.proofs.histogram.Histogram.total.Goals as goal

pub sum-requires-clause-fits : goal.sum-requires-clause-fits
sum-requires-clause-fits c =
    fits_from_length _ _ 256 _ (at_most_from_yields_List (YieldsList-from_slice c.args.self.now.counts cc) (grind arith)) c.map.ensures.closure (omega arith) (λ x r q k. search rules)

pub returns : goal.returns
returns c =
    let e : c.sum.result ≡ sum c.args.self.now.counts = search (rules, chains) in
    e ∙ pixels-is c.args.self.now.counts (search rules)
