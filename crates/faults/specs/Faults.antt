-- Faults as numbers and in words, and answers that hold one.
use Rattle.std.specs.Prelude.{ℕ, List, ◌∷◌, ◌++◌, Ok, Err, Result, codes, decimal}
use Rattle.faults.specs.declared.Fault.{Fault}

abbrev pub fault : ℕ → ℕ → ℕ → Fault
fault l n d = record { layer = l; number = n; detail = d }

-- A fault in words: `fault LAYER NUMBER DETAIL`.
abbrev pub fault_words : Fault → List ℕ
fault_words f = codes "fault " ++ (decimal f.layer ++ (32 ∷ (decimal f.number ++ (32 ∷ decimal f.detail))))

-- What an answer says, with its fault as numbers; each layer gives its own faults their numbers.
abbrev pub told : {X E : Type 0} → (E → Fault) → Result X E → Result X Fault
told numbers (Ok x) = Ok x
told numbers (Err e) = Err (numbers e)

-- A fault stops what comes after it.
abbrev pub and_then : {X Y : Type 0} → Result X Fault → (X → Result Y Fault) → Result Y Fault
and_then (Ok x) next = next x
and_then (Err e) next = Err e
