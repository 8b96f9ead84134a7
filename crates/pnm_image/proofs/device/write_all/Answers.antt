use Rattle.pnm_image.proofs.Written.{sending_more, sending_failed}
use Rattle.pnm_image.proofs.device.write_all.Goals as goal

pub loop-rest-preserved : goal.loop-rest-preserved
loop-rest-preserved g c =
    rw c.split_at.ensures.back (sending_more g.W.BytesOut.held g.W.BytesOut.failures g.W.BytesOut.same c.args.writer.now c.loop-rest.writer c.write.new.self
    c.args.bytes.now c.loop-rest.rest.now c.in-Ok.count c.loop-rest.invariant c.in-Ok.ensures.bytes c.in-Ok.ensures.count
    (g.met.W.BytesOut.same_later _ _ _ c.loop-rest.invariant.same_device c.in-Ok.ensures.same_device))

pub returns-in-Err-clause-failed : goal.returns-in-Err-clause-failed
returns-in-Err-clause-failed g c =
    sending_failed g.W.BytesOut.held g.W.BytesOut.failures g.W.BytesOut.same c.args.writer.now c.loop-rest.writer c.write.new.self c.args.bytes.now
    c.loop-rest.rest.now c.loop-rest.invariant c.in-Err.ensures.bytes c.in-Err.ensures.count
