use Rattle.pnm_lanes.proofs.Words.{◌≡◌, part_at, rows_list, AreLeftFrom}
use Rattle.pnm_lanes.proofs.SendSteps.{IsSending}
use Rattle.pnm_lanes.proofs.DealtRows.{turn_of}
use Rattle.pnm_lanes.proofs.dealing.send_part.Given as goal

-- the lanes so far were sent their parts, and the rows of the others are left
abbrev pub invariant-loop-turn : goal.invariant-loop-turn
invariant-loop-turn g l =
    IsSending (turn_of l.first l.lanes) l.turn (part_at l.lanes l.fn.place l.fn.part) l.unsent l.fn.outputs l.outputs
    × AreLeftFrom l.turn l.lanes (rows_list l.initial.rows) (rows_list l.rows) × (l.head ≡ l.initial.head)
