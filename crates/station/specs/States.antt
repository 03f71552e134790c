-- What a station stands for in the account.
use Rattle.std.specs.Option.{option_map}
use Rattle.std.specs.Prelude.{Ok, Err, Result}
use Rattle.cut_sets.specs.Sets.{bands_of}
use Rattle.station.specs.declared.station.Station.{Station}
use Rattle.station.specs.declared.station.CutAnswer.{CutAnswer}
use Rattle.station.specs.declared.fault.StationFault.{StationFault}
use Rattle.station.specs.Faults.{station_fault}
use Rattle.station.specs.Account.{Account, account, Answer, accepted, cut_into, refused}

abbrev pub account_of : {R : Type 0} → Station R → Account
account_of s = account s.tally (option_map bands_of s.cuts)

-- What the calls' results answer.
abbrev pub done_or : Result (Unit {0}) StationFault → Answer
done_or (Ok x) = accepted
done_or (Err f) = refused (station_fault f)

abbrev pub cut_or : Result CutAnswer StationFault → Answer
cut_or (Ok x) = cut_into x.classes x.sum
cut_or (Err f) = refused (station_fault f)
