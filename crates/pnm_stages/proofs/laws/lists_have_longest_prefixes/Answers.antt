use Rattle.pnm_stages.proofs.LongestPrefixes.{longest_prefix}
use Rattle.pnm_stages.proofs.laws.lists_have_longest_prefixes.Goals as goal

pub returns : goal.returns
returns c = longest_prefix
