use Rattle.pnm_write.proofs.OneText.{row_has_one_text}
use Rattle.pnm_write.proofs.laws.plain_rows_have_one_text.Goals as goal

pub returns : goal.returns
returns c = row_has_one_text
