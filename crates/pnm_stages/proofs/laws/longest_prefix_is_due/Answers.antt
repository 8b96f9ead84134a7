use Rattle.pnm_stages.proofs.PrefixLaws.{longest_prefix_is_due as by_accepted}
use Rattle.pnm_stages.proofs.laws.longest_prefix_is_due.Goals as goal

pub returns : goal.returns
returns c = by_accepted
