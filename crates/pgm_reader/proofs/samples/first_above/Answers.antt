use Rattle.std.proofs.Common.{◌∙◌, rules, ltb}
use Rattle.std.proofs.lemmas.Iterator.{YieldsList-from_slice}
use Rattle.std.proofs.lemmas.Iterator.Search.{position_from_yields_List}
use borrow.Author.Tests.{tests}
use Rattle.pgm_reader.proofs.Above.{position_above}
use Rattle.pgm_reader.proofs.samples.first_above.Goals as goal

pub returns : goal.returns
returns c =
    position_from_yields_List (λ b. ltb c.args.top b) _ _ _ c.position.ensures.ran (YieldsList-from_slice c.args.bytes.now cc) (λ x b q k. search (rules, tests))
    ∙ position_above c.args.top c.args.bytes.now
