use Rattle.pnm_image.proofs.repeated_rows.RepeatedRows.into_rows.Goals as goal

pub returns : goal.returns
returns c = rw c.into_parts-rows.ensures.rows c.repeat_rows.ensures
