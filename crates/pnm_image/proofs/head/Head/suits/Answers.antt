use Rattle.std.proofs.Common.{arith}
use Rattle.std.proofs.lemmas.Grind.{common_steps}
use Rattle.pnm_image.proofs.head.Head.suits.Goals as goal

pub returns-then-depth-eq3 : goal.returns-then-depth-eq3
returns-then-depth-eq3 c = grind (arith, common_steps)

pub returns-then-depth-eq1-2 : goal.returns-then-depth-eq1-2
returns-then-depth-eq1-2 c = grind (arith, common_steps)

pub returns-then-maxval-eq1 : goal.returns-then-maxval-eq1
returns-then-maxval-eq1 c = grind (arith, common_steps)
