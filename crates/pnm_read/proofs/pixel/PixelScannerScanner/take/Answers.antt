use Rattle.pnm_read.proofs.Words.{refl, rules, inl, inr}
use Rattle.pnm_read.proofs.PixelSteps.{pixel_goes_on, pixel_ends_with, pixel_not_before}
use Rattle.pnm_read.proofs.pixel.PixelScannerScanner.take.Goals as goal

pub returns-in-GoesOn-clause-judged : goal.returns-in-GoesOn-clause-judged
returns-in-GoesOn-clause-judged c = pixel_goes_on c.args.self.now _ c.args.byte c.in-GoesOn.is c.judge-scan_status.ensures.judged refl c.commented-self.ensures

pub returns-in-EndsWith-clause-judged : goal.returns-in-EndsWith-clause-judged
returns-in-EndsWith-clause-judged c = pixel_ends_with c.args.self.now _ c.args.byte c.in-EndsWith.is c.judge-scan_status.ensures.judged (search rules)

pub returns-in-EndsBefore-clause-judged : goal.returns-in-EndsBefore-clause-judged
returns-in-EndsBefore-clause-judged c =
    elim c.in-EndsBefore.is [
      | inl before ↦ pixel_not_before c.args.self.now c.args.self.now c.args.byte before c.judge-scan_status.ensures.judged
      | inr fails ↦ λ before after. inl (c.judge-scan_status.ensures.judged before after, rw fails.1 tt)
    ]
