-- What a layer of a script makes of a picture.
use Rattle.pictures.specs.Raster.{Raster}
use Rattle.pictures.specs.Layers.{negated, windowed, halved}
use Rattle.pictures.specs.Either.{either}
use Rattle.pictures.specs.declared.either.EitherPicture.{EitherPicture}
use Rattle.pictures.specs.declared.window.Window.{Window}
use Rattle.pictures.specs.declared.negative.Negative.{Negative}
use Rattle.pictures.specs.declared.halving.Halving.{Halving}
use Rattle.piles.specs.declared.layers.Layer.{Layer}
use Rattle.piles.specs.declared.layers.Layer.TheVariants as layer

abbrev pub layer_on : Layer → Raster → Raster
layer_on (layer.Window left top columns rows) p = windowed left top columns rows p
layer_on layer.Negative p = negated p
layer_on layer.Halving p = halved p

-- What a picture with a layer means, by what the one below means.
abbrev pub meaning : {P : Type 0} → (P → Raster) → EitherPicture (Window P) (EitherPicture (Negative P) (Halving P)) → Raster
meaning shown q =
    either
    (λ w. windowed w.left w.top w.columns w.rows (shown w.below))
    (either (λ n. negated (shown n.below)) (λ h. halved (shown h.below))) q
