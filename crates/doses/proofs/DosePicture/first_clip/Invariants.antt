use Rattle.std.proofs.Common.{◌≡◌, ◌+◌, ◌*◌, None}
use Rattle.doses.specs.Clips.{ClearTo}
use Rattle.doses.proofs.DosePicture.first_clip.Given as goal

abbrev pub invariant-loop-x : goal.invariant-loop-x
invariant-loop-x l = ClearTo l.self.samples.samples.now (l.y * l.columns + l.x) × (l.found ≡ None)

abbrev pub invariant-search : goal.invariant-search
invariant-search l = ClearTo l.self.samples.samples.now (l.y * l.columns) × (l.found ≡ None)
