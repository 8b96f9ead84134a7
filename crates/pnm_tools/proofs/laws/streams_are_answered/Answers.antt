use Rattle.pnm_tools.proofs.ChainLaws.{stream_is_answered}
use Rattle.pnm_tools.proofs.laws.streams_are_answered.Goals as goal

pub returns : goal.returns
returns c = stream_is_answered
