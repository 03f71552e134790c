-- What a cut set holds: its bands, from low to high.
use Rattle.std.specs.Prelude.{List, take}
use Rattle.cut_sets.specs.declared.band.Band.{Band}
use Rattle.cut_sets.specs.declared.cut_set.CutSet.{CutSet}

abbrev pub bands_of : CutSet → List Band
bands_of s = take s.classes s.bands.places
