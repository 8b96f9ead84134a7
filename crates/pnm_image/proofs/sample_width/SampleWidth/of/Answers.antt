use Rattle.std.proofs.Common.{arith}
use Rattle.std.proofs.lemmas.Grind.{common_steps}
use Rattle.pnm_image.proofs.sample_width.SampleWidth.of.Goals as goal

pub returns-in-Gray-2 : goal.returns-in-Gray-2
returns-in-Gray-2 c = grind (arith, common_steps)
