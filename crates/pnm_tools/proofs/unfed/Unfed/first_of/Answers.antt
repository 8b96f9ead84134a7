use Rattle.pnm_tools.proofs.Words.{messages_in}
use Rattle.pnm_tools.proofs.UnfedSteps.{behind_message}
use Rattle.pnm_tools.proofs.unfed.Unfed.first_of.Goals as goal

pub returns-clause-parts : goal.returns-clause-parts
returns-clause-parts c =
    behind_message c.args.self.now (messages_in c.args.packet) (messages_in c.in_ok-first.first) c.in_ok-first.more c.requires c.in_ok-first.ensures.parts
