use Rattle.std.proofs.Common.{sym, ◌∙◌}
use Rattle.station.specs.declared.fault.StationFault.TheVariants.{Lacking}
use Rattle.station.specs.States.{account_of}
use Rattle.station.proofs.Refusals.{refused-by}
use Rattle.station.proofs.Lifts.{lifted-none, lifted-lacking, lifted-done}
use Rattle.station.proofs.station.Station.lift.Goals as goal

pub returns-then-total-eq0-clause-outcome : goal.returns-then-total-eq0-clause-outcome
returns-then-total-eq0-clause-outcome g c =
    lifted-none (account_of c.args.self.now) (g.P.Picture.shown c.args.picture.now) (g.met.P.Picture.sound c.args.picture.now) c.of_picture-less.result.counts c.of_picture-less.ensures
    (sym c.total.ensures ∙ c.if-total-eq0.true)

pub returns-in_err-remove-clause-outcome : goal.returns-in_err-remove-clause-outcome
returns-in_err-remove-clause-outcome g c =
    let a = account_of c.args.self.now in
    let v = c.in_err-remove.field-0.0.level in
    refused-by a c.remove.new.self (Lacking v) c.from_residual.result c.from_residual.ensures.1 c.in_err-remove.ensures.after
    ∙ lifted-lacking a (g.P.Picture.shown c.args.picture.now) (g.met.P.Picture.sound c.args.picture.now) c.of_picture-less.result.counts c.of_picture-less.ensures
    v (λ z. c.if-total-eq0.false (c.total.ensures ∙ z)) c.in_err-remove.ensures.answer

pub returns-in_ok-remove-clause-outcome : goal.returns-in_ok-remove-clause-outcome
returns-in_ok-remove-clause-outcome g c =
    lifted-done (account_of c.args.self.now) (g.P.Picture.shown c.args.picture.now) (g.met.P.Picture.sound c.args.picture.now) c.of_picture-less.result.counts c.of_picture-less.ensures
    c.remove.new.self (λ z. c.if-total-eq0.false (c.total.ensures ∙ z)) c.in_ok-remove.ensures.answer c.in_ok-remove.ensures.after
