use Rattle.pnm_lanes.proofs.Words.{arith, rules, common_steps}
use Rattle.pnm_lanes.proofs.dealing.break_off.Goals as goal

pub returns-then-drained-clause-broken : goal.returns-then-drained-clause-broken
returns-then-drained-clause-broken g c = search rules

pub returns-else-is_none-clause-broken : goal.returns-else-is_none-clause-broken
returns-else-is_none-clause-broken g c = grind (arith, common_steps)
