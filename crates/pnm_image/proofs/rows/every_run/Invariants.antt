use Rattle.pnm_image.specs.Internal.PickedRows.{HasPicked}
use Rattle.pnm_image.proofs.rows.every_run.Given as goal

-- so many were picked
abbrev pub invariant-loop-at : goal.invariant-loop-at
invariant-loop-at g l = HasPicked l.at l.each l.from l.step l.runs l.picked.items
