use Rattle.std.proofs.Common.{Ok, None, get_or, ◌+◌, subst}
use Rattle.pgm_reader.specs.Machine.{Steps}
use Rattle.pgm_reader.proofs.Steps.{turned}
use Rattle.pgm_reader.proofs.header.read_shape.Goals as goal

pub loop-i-preserved : goal.loop-i-preserved
loop-i-preserved c =
    let m = c.loop-i.machine in
    let went-on = subst (λ o. Steps m c.step.new.self (c.loop-i.i + 2) (get_or c.args.rest.now c.loop-i.i 0) (Ok o)) c.in_default.is c.in_ok-numbers.ensures in
    turned m c.step.new.self (Ok None) c.loop-i.i c.args.rest.now c.loop-i-test.true c.loop-i.invariant went-on
