use Rattle.pnm_io_loop.proofs.Words.{◌≡◌, arith, common_steps, egress_is_over}
use Rattle.pnm_io_loop.proofs.egress.Egress.is_over.Goals as goal

pub returns-else-self : goal.returns-else-self
returns-else-self g c = let gone : c.args.self.now.is_gone ≡ egress_is_over c.args.self.now = grind (arith, common_steps) in gone
