-- What is listed of a cut into two classes: its threshold and the two levels.
use Rattle.std.specs.Prelude.{ℕ, List, Option}
use Rattle.std.specs.Option.{unwrap_or}
use Rattle.cut_sets.specs.declared.band.Band.{Band}
use Rattle.cut_sets.specs.Bands.{no_band}
use Rattle.station.specs.Account.{band_held}
use Rattle.listing.specs.declared.lines.TwoClasses.{TwoClasses}

abbrev pub held_band : Option (List Band) → ℕ → Band
held_band cuts n = unwrap_or (band_held cuts n) no_band

abbrev pub two_classes_of : Option (List Band) → TwoClasses
two_classes_of cuts = record { threshold = (held_band cuts 1).high; low = (held_band cuts 1).level; high = (held_band cuts 2).level }
