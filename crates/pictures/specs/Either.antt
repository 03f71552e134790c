-- A picture of one of two kinds means what it means as a picture of its kind.
use Rattle.pictures.specs.Raster.{Raster, Sound}
use Rattle.pictures.specs.declared.either.EitherPicture.{EitherPicture}
use Rattle.pictures.specs.declared.either.EitherPicture.TheVariants.{First, Second}

abbrev pub either : {X Y : Type 0} → (X → Raster) → (Y → Raster) → EitherPicture X Y → Raster
either f g (First x) = f x
either f g (Second y) = g y

pub either-sound : {X Y : Type 0} (f : X → Raster) (g : Y → Raster) → ((x : X) → Sound (f x)) → ((y : Y) → Sound (g y)) → (p : EitherPicture X Y) → Sound (either f g p)
either-sound f g s t (First x) = s x
either-sound f g s t (Second y) = t y
