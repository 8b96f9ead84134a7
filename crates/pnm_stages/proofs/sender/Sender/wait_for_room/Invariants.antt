use Rattle.pnm_stages.proofs.Words.{◌≡◌, sent, SameSender}
use Rattle.pnm_stages.proofs.sender.Sender.wait_for_room.Given as goal

-- nothing was sent
abbrev pub invariant-loop : goal.invariant-loop
invariant-loop g l = SameSender l.fn.self l.self × (sent l.self ≡ sent l.fn.self)
