use Rattle.pnm_stages.proofs.Words.{rules}
use Rattle.pnm_stages.proofs.stage.break_off.Goals as goal

pub returns-then-drained-clause-broken : goal.returns-then-drained-clause-broken
returns-then-drained-clause-broken g c = search rules

pub returns-else-is_sent-clause-broken : goal.returns-else-is_sent-clause-broken
returns-else-is_sent-clause-broken g c = search rules
