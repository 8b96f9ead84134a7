use Rattle.pnm_read.proofs.Words.{refl}
use Rattle.pnm_read.proofs.source.Source.holds_next.Goals as goal

pub returns-in-Ended-clause-ended : goal.returns-in-Ended-clause-ended
returns-in-Ended-clause-ended g c = λ _. refl

pub returns-in-Ended-clause-stopped : goal.returns-in-Ended-clause-stopped
returns-in-Ended-clause-stopped g c = λ _ _. refl

pub returns-in-Ended-2-clause-ended : goal.returns-in-Ended-2-clause-ended
returns-in-Ended-2-clause-ended g c = λ _. refl

pub returns-in-Ended-2-clause-stopped : goal.returns-in-Ended-2-clause-stopped
returns-in-Ended-2-clause-stopped g c = λ _ _. refl
