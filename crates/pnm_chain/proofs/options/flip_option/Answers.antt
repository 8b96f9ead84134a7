use Rattle.pnm_chain.proofs.Words.{arith, common_steps}
use Rattle.pnm_chain.specs.Options.{flip_option}
use Rattle.pnm_chain.proofs.NameLaws.{tried_after}
use Rattle.pnm_chain.proofs.options.flip_option.Goals as goal

pub returns : goal.returns
unfolding flip_option
returns c = grind (arith, common_steps, tried_after)
