use Rattle.pnm_lanes.proofs.Words.{◌≡◌, length}
use Rattle.pnm_lanes.proofs.TogetherSteps.{AreAdded}
use Rattle.pnm_lanes.proofs.together.add_rows.Given as goal

-- the rows before this one were put behind the others
abbrev pub invariant-loop-y : goal.invariant-loop-y
invariant-loop-y l = AreAdded (length l.fn.held) l.fn.shape l.fn.from l.y l.fn.rows l.rows l.fn.held l.held × (length l.held ≡ length l.fn.held)
