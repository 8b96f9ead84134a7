use Rattle.pnm_tools.proofs.ResultLaws.{result_is_image, result_has_rows}
use Rattle.pnm_tools.proofs.laws.results_are_images.Goals as goal

pub returns : goal.returns
returns c = λ tool i j lawful image made. (result_is_image tool i j lawful image made, λ rows. result_has_rows tool i j lawful image rows made)
