-- The faults of a listing. Those of the reader and of the station keep their layer, number and detail; layer 4 adds its own.
use Rattle.faults.specs.declared.Fault.{Fault}
use Rattle.faults.specs.Faults.{fault}
use Rattle.station.specs.Faults.{station_fault}
use Rattle.pgm_reader.specs.Faults.{read_fault}
use Rattle.listing.specs.declared.fault.ListFault.{ListFault}
use Rattle.listing.specs.declared.fault.ListFault.TheVariants.{Read, Station, Short}

abbrev pub list_fault : ListFault → Fault
list_fault (Read f) = read_fault f
list_fault (Station f) = station_fault f
list_fault (Short needed) = fault 4 41 needed
