use Rattle.std.proofs.Common.{rules}
use Rattle.pnm_image.proofs.head.Head.tuple_type.Goals as goal

pub returns : goal.returns
returns c = search rules
