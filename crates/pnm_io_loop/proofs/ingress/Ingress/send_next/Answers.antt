use Rattle.pnm_io_loop.proofs.Words.{List, Err, ap, arith, inl, length, length-append, messages_in, Message, sent, ReadFailed, no_fault}
use Rattle.pnm_io_loop.proofs.IngressSteps.{feeds_packet, feeds_all, feeds_until}
use Rattle.pnm_io_loop.proofs.ingress.Ingress.send_next.Goals as goal

pub returns-in-Ok-Some-clause-sending : goal.returns-in-Ok-Some-clause-sending
returns-in-Ok-Some-clause-sending g c first before =
    let told = rw c.in-Ok-Some.field-0-is at c.in-Ok-Some.ensures.told in
    feeds_packet c.send_reserved.new.self
    c.requires.going c.send_reserved.ensures.sent told c.next.ensures.end c.next.ensures.unread (c.in-Ok-Some.ensures.count (no_fault _ ReadFailed))
    c.count_image.ensures

pub returns-in-Ok-None-clause-sending : goal.returns-in-Ok-None-clause-sending
returns-in-Ok-None-clause-sending g c first before =
    let told = rw c.in-Ok-None.field-0-is at c.in-Ok-None.ensures.told in
    feeds_all g.R.BytesIn.left g.R.BytesIn.failures first before c.args.self.now c.next.new.self c.requires.going
    told c.next.ensures.unread (c.in-Ok-None.ensures.count (no_fault _ ReadFailed))

pub returns-in-Err-clause-sending : goal.returns-in-Err-clause-sending
returns-in-Err-clause-sending g c first before =
    feeds_until g.R.BytesIn.left g.R.BytesIn.failures first before c.args.self.now c.next.new.self c.in-Err.fault c.send_reserved-in-Err.new.self
    c.requires.going c.send_reserved-in-Err.ensures.sent
    c.in-Err.ensures.told c.next.ensures.unread (λ e. c.in-Err.ensures.not_at_end (ap Err e)) (λ e. c.in-Err.ensures.read_failed (ap Err e))
    c.in-Err.ensures.count

pub returns-in-Ok-Some-clause-goes_on : goal.returns-in-Ok-Some-clause-goes_on
returns-in-Ok-Some-clause-goes_on g c =
    let some = rw c.in-Ok-Some.field-0-is at c.in-Ok-Some.ensures.some in
    inl (omega (
      arith,
      some,
      ap (λ (l : List Message). length l) c.send_reserved.ensures.sent,
      length-append (sent c.args.self.now.output) (messages_in c.in-Ok-Some.packet),
    ))
