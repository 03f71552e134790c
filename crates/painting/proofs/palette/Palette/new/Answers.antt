use Rattle.std.proofs.Common.{rules, ◌≡◌, refl}
use Rattle.std.proofs.lemmas.List.{set-get_or}
use Rattle.histogram.specs.Levels.{each}
use Rattle.histogram.proofs.Places.{made-each}
use Rattle.cut_sets.specs.Painted.{painted}
use Rattle.cut_sets.specs.Sets.{bands_of}
use Rattle.painting.proofs.palette.Palette.new.Goals as goal

pub returns : goal.returns
returns c =
    let set = c.args.set.now in
    let e : c.from_fn-levels.result ≡ each (painted (bands_of set)) = made-each _ (λ f. bands_of f.0.now ≡ bands_of set) (painted (bands_of set)) (λ f i y q a call. search rules) _ refl c.from_fn-levels.result c.from_fn-levels.ensures.items in
    search (rules, set-get_or)
