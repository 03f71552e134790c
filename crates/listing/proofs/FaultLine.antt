-- The line of a fault is its words, and LF.
use Rattle.std.proofs.Common.{◌≡◌, [], ◌∷◌, ◌++◌, codes, append_assoc, append-nil, arith}
use Rattle.faults.specs.declared.Fault.{Fault}
use Rattle.faults.specs.Faults.{fault_words}
use Rattle.text.specs.Texts.{line}

pub line-fault : (f : Fault) → line (codes "fault") (f.layer ∷ (f.number ∷ (f.detail ∷ []))) ≡ fault_words f ++ (10 ∷ [])
unfolding line
line-fault f = grind (arith, append_assoc, append-nil)
