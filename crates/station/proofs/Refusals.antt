-- A refusal that came up from the tally leaves the account as it was.
use Rattle.std.proofs.Common.{◌≡◌, ℕ, List, IsErrAnd, Ok, Err, Result, ap, ◌∙◌}
use Rattle.station.specs.declared.fault.StationFault.{StationFault}
use Rattle.station.specs.Account.{Account, account, outcome, refused}
use Rattle.station.specs.Faults.{station_fault}
use Rattle.station.specs.States.{done_or}

pub refused-by : (a : Account) (h : List ℕ) (f : StationFault) (r : Result (Unit {0}) StationFault) → IsErrAnd r (λ e. e ≡ f) → h ≡ a.hand
    → outcome (done_or r) (account h a.cuts) ≡ outcome (refused (station_fault f)) a
refused-by a h f (Ok x) e i = absurd e
refused-by a h f (Err g) e i = ap (λ x. outcome (refused (station_fault x)) (account h a.cuts)) e ∙ ap (λ x. outcome (refused (station_fault f)) (account x a.cuts)) i
