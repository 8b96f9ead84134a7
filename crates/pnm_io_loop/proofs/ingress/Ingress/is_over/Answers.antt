use Rattle.pnm_io_loop.proofs.Words.{◌≡◌, arith, common_steps, ingress_is_over}
use Rattle.pnm_io_loop.proofs.ingress.Ingress.is_over.Goals as goal

pub returns-else-self : goal.returns-else-self
returns-else-self g c = let ended : c.is_some.result ≡ ingress_is_over c.args.self.now = grind (arith, common_steps) in ended
