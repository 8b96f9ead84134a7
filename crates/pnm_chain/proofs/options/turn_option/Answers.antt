use Rattle.pnm_chain.proofs.Words.{arith, common_steps}
use Rattle.pnm_chain.specs.Options.{turn_option}
use Rattle.pnm_chain.proofs.NameLaws.{tried_after}
use Rattle.pnm_chain.proofs.options.turn_option.Goals as goal

pub returns : goal.returns
unfolding turn_option
returns c = grind (arith, common_steps, tried_after)
