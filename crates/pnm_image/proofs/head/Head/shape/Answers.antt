use Rattle.std.proofs.Common.{ap}
use Rattle.pnm_image.proofs.head.Head.shape.Goals as goal

pub returns-clause-shape : goal.returns-clause-shape
returns-clause-shape c = ap (λ head. head.shape) c.self.view_is
