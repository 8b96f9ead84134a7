use Rattle.std.proofs.Common.{arith}
use Rattle.std.proofs.lemmas.Grind.{common_steps}
use Rattle.pnm_image.proofs.characters.is_digit.Goals as goal

pub returns : goal.returns
returns c = grind (arith, common_steps)
