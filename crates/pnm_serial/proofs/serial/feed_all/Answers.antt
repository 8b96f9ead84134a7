use Rattle.pnm_serial.proofs.Words.{ap, arith, Err, err_from_is_err_and, ReadFailed, no_fault}
use Rattle.pnm_serial.proofs.FeedingSteps.{going_none, going_flushed, going_more, fed_all, fed_until, fed_too_many}
use Rattle.pnm_serial.proofs.serial.feed_all.Goals as goal

pub loop-init : goal.loop-init
loop-init g c = (
  going_none g.R.BytesIn.left g.R.BytesIn.failures g.F.Filter.at g.F.Filter.all_given g.F.Filter.stopped g.W.BytesOut.held g.W.BytesOut.failures
      c.args.source.now c.args.stages.now c.args.fused_sink.now c.requires.unread,
  g.met.R.BytesIn.same_at_once _,
  g.met.W.BytesOut.same_at_once _,
)

-- a packet has passed
pub loop-preserved : goal.loop-preserved
loop-preserved g c =
    let told = rw c.in-Some.is at c.in_ok-next.ensures.told in
    let some = rw c.in-Some.is at c.in_ok-next.ensures.some in (
      going_more (going_flushed c.loop.invariant.0 c.flush_before_read.ensures.taken) told some c.next.ensures.end c.next.ensures.unread
          (c.in_ok-next.ensures.count (no_fault _ ReadFailed)) c.feed_through.ensures.fed,
      g.met.R.BytesIn.same_later _ _ _ c.loop.invariant.1 c.next.ensures.same_device,
      g.met.W.BytesOut.same_later _ _ _ (g.met.W.BytesOut.same_later _ _ _ c.loop.invariant.2 c.flush_before_read.ensures.same_device)
          c.feed_through.ensures.same_device,
    )

-- the stream has ended
pub returns-in-None-clause-fed : goal.returns-in-None-clause-fed
returns-in-None-clause-fed g c =
    let told = rw c.in-None.is at c.in_ok-next.ensures.told in
    fed_all (going_flushed c.loop.invariant.0 c.flush_before_read.ensures.taken) told c.next.ensures.end c.next.ensures.unread
    (c.in_ok-next.ensures.count (no_fault _ ReadFailed))

-- the input has a fault
pub returns-in_err-next-clause-fed : goal.returns-in_err-next-clause-fed
returns-in_err-next-clause-fed g c =
    let p = err_from_is_err_and c.from_residual.result c.from_residual.ensures.1 in
    rw (p.1, p.2)
    (fed_until (going_flushed c.loop.invariant.0 c.flush_before_read.ensures.taken) c.in_err-next.ensures.told c.next.ensures.end c.next.ensures.unread
    (λ e. c.in_err-next.ensures.not_at_end (ap Err e)) (λ e. c.in_err-next.ensures.read_failed (ap Err e)) c.in_err-next.ensures.count)

-- all iterations have passed
pub returns-clause-fed : goal.returns-clause-fed
returns-clause-fed g c = fed_too_many c.loop.invariant.0 (omega arith)
