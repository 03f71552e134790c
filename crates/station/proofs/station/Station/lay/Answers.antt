use Rattle.std.proofs.Common.{sym, ◌∙◌}
use Rattle.station.specs.declared.fault.StationFault.TheVariants.{TooMany}
use Rattle.station.specs.States.{account_of}
use Rattle.station.proofs.Refusals.{refused-by}
use Rattle.station.proofs.Lays.{laid_none, laid-over, laid_done}
use Rattle.station.proofs.station.Station.lay.Goals as goal

pub returns-then-total-eq0-clause-outcome : goal.returns-then-total-eq0-clause-outcome
returns-then-total-eq0-clause-outcome g c =
    laid_none (account_of c.args.self.now) (g.P.Picture.shown c.args.picture.now) (g.met.P.Picture.sound c.args.picture.now) c.of_picture.result c.in_ok-more.more c.in_ok-more.ensures.ok_part c.of_picture.ensures
    (sym c.total.ensures.value ∙ c.if-total-eq0.true)

pub returns-in_err-add-clause-outcome : goal.returns-in_err-add-clause-outcome
returns-in_err-add-clause-outcome g c =
    let a = account_of c.args.self.now in
    refused-by a c.add.new.self TooMany c.from_residual-in_err-add.result c.from_residual-in_err-add.ensures.1 c.in_err-add.ensures.after
    ∙ laid-over a (g.P.Picture.shown c.args.picture.now) (g.met.P.Picture.sound c.args.picture.now) c.of_picture.result c.in_ok-more.more c.in_ok-more.ensures.ok_part c.of_picture.ensures
    (λ z. c.if-total-eq0.false (c.total.ensures.value ∙ z)) c.in_err-add.ensures.answer

pub returns-clause-outcome : goal.returns-clause-outcome
returns-clause-outcome g c =
    laid_done (account_of c.args.self.now) (g.P.Picture.shown c.args.picture.now) (g.met.P.Picture.sound c.args.picture.now) c.of_picture.result c.in_ok-more.more c.in_ok-more.ensures.ok_part c.of_picture.ensures
    c.add.new.self (λ z. c.if-total-eq0.false (c.total.ensures.value ∙ z)) c.in_ok-add.ensures.answer c.in_ok-add.ensures.after
