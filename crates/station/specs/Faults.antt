-- The numbers of the station's refusals. The station is layer 3.
use Rattle.faults.specs.declared.Fault.{Fault}
use Rattle.faults.specs.Faults.{fault}
use Rattle.station.specs.declared.fault.StationFault.{StationFault}
use Rattle.station.specs.declared.fault.StationFault.TheVariants.{NoCut, Lacking, NoPixel, TooMany, Empty, FewLevels, ShortBuffer}

abbrev pub station_fault : StationFault → Fault
station_fault NoCut = fault 3 22 0
station_fault (Lacking v) = fault 3 23 v
station_fault NoPixel = fault 3 31 0
station_fault TooMany = fault 3 32 0
station_fault Empty = fault 3 33 0
station_fault (FewLevels n) = fault 3 34 n
station_fault (ShortBuffer n) = fault 3 41 n
