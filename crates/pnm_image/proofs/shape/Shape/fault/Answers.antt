use Rattle.std.proofs.Common.{arith}
use Rattle.std.proofs.lemmas.Grind.{common_steps}
use Rattle.pnm_image.proofs.shape.Shape.fault.Goals as goal

pub returns-then-self-eq0 : goal.returns-then-self-eq0
returns-then-self-eq0 c = grind (arith, common_steps)

pub returns-then-self-eq0-4 : goal.returns-then-self-eq0-4
returns-then-self-eq0-4 c = grind (arith, common_steps)

pub returns : goal.returns
returns c = grind (arith, common_steps)
