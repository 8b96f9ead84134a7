use Rattle.pnm_image.proofs.Streams.{completion}
use Rattle.pnm_image.proofs.laws.lawful_lists_can_be_completed.Goals as goal

pub returns : goal.returns
returns c = λ l are lawful. let found = completion l are lawful in (found.0, record { images = found.1; prefix = found.2 })
