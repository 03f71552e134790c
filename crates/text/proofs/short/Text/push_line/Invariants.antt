use Rattle.std.proofs.Common.{◌≡◌, ◌++◌, take}
use Rattle.text.specs.Texts.{clipped, fields}
use Rattle.text.proofs.short.Text.push_line.Given as goal

abbrev pub invariant-loop-n : goal.invariant-loop-n
invariant-loop-n l = l.self ≡ clipped (l.initial.self ++ fields (take l.n-index l.numbers))
