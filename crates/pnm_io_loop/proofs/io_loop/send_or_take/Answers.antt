use Rattle.pnm_io_loop.proofs.Words.{inl, inr}
use Rattle.pnm_io_loop.proofs.IoLoopSteps.{moves_later, not_taken_before}
use Rattle.pnm_io_loop.proofs.io_loop.send_or_take.Goals as goal

pub returns-then-send-clause-moved : goal.returns-then-send-clause-moved
returns-then-send-clause-moved g c = λ yes. inl (c.send.ensures.moved c.if-send.true)

pub returns-clause-moved : goal.returns-clause-moved
returns-clause-moved g c = λ yes. moves_later c.args.ingress.now c.send.new.ingress c.take.new.egress c.send.ensures.taken.0 (inr (c.take.ensures.moved yes))

pub returns-clause-idle : goal.returns-clause-idle
returns-clause-idle g c = λ no. (
  c.send.ensures.idle c.if-send.false,
  not_taken_before c.send.ensures.taken.0 c.send.ensures.taken.1 (c.take.ensures.idle no).0,
)
