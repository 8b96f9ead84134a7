use Rattle.pnm_io_loop.proofs.Words.{arith, same_input}
use Rattle.pnm_io_loop.proofs.egress.Egress.take_seen.Goals as goal

pub loop-self-preserved : goal.loop-self-preserved
loop-self-preserved g c = (
  λ form start before was. c.take_next-in-loop-self.ensures.receiving form start before (c.loop-self.invariant.0 form start before was),
  same_input c.args.self.now.input c.loop-self.self.input c.take_next-in-loop-self.new.self.input c.loop-self.invariant.1 c.take_next-in-loop-self.ensures.ring,
  g.met.W.BytesOut.same_later _ _ _ c.loop-self.invariant.2 c.take_next-in-loop-self.ensures.same_device,
  omega (arith, c.loop-self.invariant.3, c.take_next-in-loop-self.ensures.goes_on),
)
