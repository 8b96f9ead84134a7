use Rattle.pnm_image.proofs.Streams.{stream_is_messages, stream_is_lawful, stream_ends}
use Rattle.pnm_image.proofs.laws.streams_are_lawful.Goals as goal

pub returns : goal.returns
returns c = λ is are. (stream_is_messages is are, stream_is_lawful is are, stream_ends is)
