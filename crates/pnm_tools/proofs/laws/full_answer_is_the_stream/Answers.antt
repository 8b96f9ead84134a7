use Rattle.pnm_tools.proofs.FullAnswers.{full_answer_is_the_stream}
use Rattle.pnm_tools.proofs.laws.full_answer_is_the_stream.Goals as goal

pub returns : goal.returns
returns c = full_answer_is_the_stream
