use Rattle.pnm_tools.proofs.SampleLaws.{result_is_by_the_formula}
use Rattle.pnm_tools.proofs.laws.samples_are_by_the_formula.Goals as goal

pub returns : goal.returns
returns c = result_is_by_the_formula
