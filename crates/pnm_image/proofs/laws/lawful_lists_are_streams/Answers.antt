use Rattle.pnm_image.proofs.Streams.{is_stream_of}
use Rattle.pnm_image.proofs.laws.lawful_lists_are_streams.Goals as goal

pub returns : goal.returns
returns c = is_stream_of
