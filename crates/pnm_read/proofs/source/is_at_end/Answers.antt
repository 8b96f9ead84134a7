use Rattle.pnm_read.proofs.AwaitedSteps.{text_seen}
use Rattle.pnm_read.proofs.source.is_at_end.Goals as goal

pub returns : goal.returns
returns g c = text_seen c.is_empty.result c.is_empty.ensures c.bytes.ensures c.in_ok-fill.ensures.enough c.in_ok-fill.ensures.read_call
