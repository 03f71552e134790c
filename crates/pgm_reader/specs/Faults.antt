-- The number and the detail of each fault of the reader, which is layer 1.
use Rattle.faults.specs.Faults.{fault}
use Rattle.faults.specs.declared.Fault.{Fault}
use Rattle.pgm_reader.specs.declared.fault.ReadFault.{ReadFault}
use Rattle.pgm_reader.specs.declared.fault.ReadFault.TheVariants.{NotP5, Misplaced, OutOfRange, SamplesMissing, AboveMaxval}

abbrev pub read_fault : ReadFault → Fault
read_fault NotP5 = fault 1 11 0
read_fault (Misplaced place) = fault 1 12 place
read_fault (OutOfRange place) = fault 1 13 place
read_fault (SamplesMissing length) = fault 1 14 length
read_fault (AboveMaxval place) = fault 1 15 place
