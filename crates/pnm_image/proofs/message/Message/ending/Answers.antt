use Rattle.std.proofs.Common.{refl}
use Rattle.pnm_image.proofs.message.Message.ending.Goals as goal

pub returns-in-Stop : goal.returns-in-Stop
returns-in-Stop c = rw c.in-Stop.is refl
