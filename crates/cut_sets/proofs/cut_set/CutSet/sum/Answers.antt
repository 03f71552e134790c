use Rattle.std.proofs.Common.{◌≡◌, ◌∙◌, sum, map, arith, rules}
use Rattle.std.proofs.iter.runs.Made.{chains}
use Rattle.std.proofs.lemmas.Iterator.{YieldsList-from_slice}
use Rattle.std.proofs.lemmas.Iterator.Adapters.{fits_from_length, at_most_from_yields_List}
use Rattle.cut_sets.specs.CutSums.{band_sum_of}
use Rattle.cut_sets.specs.Sets.{bands_of}
use Rattle.cut_sets.proofs.Parts.{bands-few, cut-sum-is}
use Rattle.cut_sets.proofs.cut_set.CutSet.sum.Goals as goal

pub sum-requires-clause-fits : goal.sum-requires-clause-fits
sum-requires-clause-fits g c =
    fits_from_length _ _ 8 _ (at_most_from_yields_List (YieldsList-from_slice (bands_of c.args.self.now) cc) (bands-few c.args.self.now)) c.map.ensures.closure (omega arith) (λ x r q k. search rules)

pub returns : goal.returns
returns g c =
    let e : c.sum.result ≡ sum (map (band_sum_of (g.R.DistanceRule.table c.args.rule.now) c.args.tally.now) (bands_of c.args.self.now)) = search (rules, chains) in
    e ∙ cut-sum-is (g.R.DistanceRule.table c.args.rule.now) c.args.tally.now (bands_of c.args.self.now)
