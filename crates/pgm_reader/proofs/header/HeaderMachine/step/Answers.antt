use Rattle.std.proofs.Common.{sym, ap, ◌∙◌, arith}
use Rattle.pgm_reader.specs.declared.header.Kind.TheVariants.{Digit}
use Rattle.pgm_reader.proofs.Steps.{on-opened, on-gap, on-first, on-digit, on-closed}
use Rattle.pgm_reader.proofs.header.HeaderMachine.step.Goals as goal
use Rattle.pgm_reader.proofs.header.HeaderMachine.step.Goals.{in-Opened-White, in-Gap-White, in-Gap-Digit, in-Digits-Digit}

pub returns-in-Digits-White : goal.returns-in-Digits-White
returns-in-Digits-White c = let h = c.in-Digits-White in on-closed c.args.self.now c.close.new.self _ _ _ _ c.close.result h.is-0 (sym h.ensures) c.close.ensures

pub returns : goal.returns
returns c =
    λ bs. let m = c.args.self.now in elim c.match-self.branch [
      | in-Opened-White w ↦ let h = w.in-Opened-White in on-opened m _ _ _ bs h.is-0 (sym h.ensures) w.self-is
      | in-Gap-White w ↦ let h = w.in-Gap-White in on-gap m _ _ _ bs h.is-0 (sym h.ensures) w.self-is
      | in-Gap-Digit w ↦ let h = w.in-Gap-Digit in on-first m _ _ _ w.from-in-Gap-Digit.result bs h.is-0 (sym h.ensures ∙ ap Digit (sym w.from-in-Gap-Digit.ensures)) w.self-is
      | in-Digits-Digit w ↦ let h = w.in-Digits-Digit in on-digit m _ _ _ _ _ h.d w.saturating_add.result bs h.is-0 (sym h.ensures) (omega arith) w.self-is
    ]
