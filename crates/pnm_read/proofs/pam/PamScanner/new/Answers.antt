use Rattle.pnm_read.proofs.Words.{refl}
use Rattle.pnm_read.proofs.PamSteps.{pam_fresh}
use Rattle.pnm_read.proofs.pam.PamScanner.new.Goals as goal

pub returns : goal.returns
returns c = pam_fresh refl c.new.ensures.items c.new-2.ensures
