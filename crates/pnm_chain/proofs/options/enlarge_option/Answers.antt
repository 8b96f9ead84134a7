use Rattle.pnm_chain.proofs.Words.{arith, common_steps}
use Rattle.pnm_chain.specs.Options.{enlarge_option}
use Rattle.pnm_chain.proofs.NameLaws.{tried_after}
use Rattle.pnm_chain.proofs.options.enlarge_option.Goals as goal

pub returns : goal.returns
unfolding enlarge_option
returns c = grind (arith, common_steps, tried_after)
