use Rattle.std.proofs.Common.{◌≡◌, ◌++◌, take}
use Rattle.text.specs.Texts.{clipped}
use Rattle.text.proofs.short.Text.push_bytes.Given as goal

abbrev pub invariant-loop-byte : goal.invariant-loop-byte
invariant-loop-byte l = l.self ≡ clipped (l.initial.self ++ take l.byte-index l.bytes)
