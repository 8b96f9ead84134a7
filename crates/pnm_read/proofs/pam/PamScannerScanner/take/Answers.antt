use Rattle.pnm_read.proofs.Words.{rules, refl}
use Rattle.pnm_read.proofs.PamSteps.{pam_feed, pam_goes_on}
use Rattle.pnm_read.proofs.pam.PamScannerScanner.take.Goals as goal

pub returns-then-byte-eq10-clause-judged : goal.returns-then-byte-eq10-clause-judged
returns-then-byte-eq10-clause-judged c =
    pam_feed c.args.self.now _ c.take-scan_status.result c.if-self-ge-PAM_LIMIT.false c.if-byte-eq10.true refl
    c.deref.ensures.value c.clear.ensures.items c.take-scan_status.ensures.judged

pub returns-else-is_err-clause-judged : goal.returns-else-is_err-clause-judged
returns-else-is_err-clause-judged c = pam_goes_on c.args.self.now _ c.args.byte c.if-self-ge-PAM_LIMIT.false c.if-byte-eq10.false refl (search rules) refl
