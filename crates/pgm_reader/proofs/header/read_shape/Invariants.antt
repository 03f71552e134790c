use Rattle.pgm_reader.proofs.Steps.{Reached}
use Rattle.pgm_reader.proofs.header.read_shape.Given as goal

abbrev pub invariant-loop-i : goal.invariant-loop-i
invariant-loop-i l = Reached l.rest l.i l.machine
