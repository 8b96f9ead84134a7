use Rattle.pnm_stages.proofs.Words.{ap, ◌∙◌, messages_of}
use Rattle.rtrb.specs.Ring.{sent, received}
use Rattle.pnm_stages.proofs.PacketLaws.{none_of}
use Rattle.pnm_stages.proofs.ring.new_ring.Goals as goal

pub returns-in_err-sender_waker : goal.returns-in_err-sender_waker
returns-in_err-sender_waker c = rw c.from_residual.ensures (record { pair = tt; unused = tt })

pub returns-in_default : goal.returns-in_default
returns-in_default c = record { pair = tt; unused = tt }

pub returns : goal.returns
returns c = record {
  pair = rw (c.new.ensures, c.new-2.ensures) c.in-Ok.ensures.pair;
  unused = (
    ap messages_of (ap sent c.new.ensures ∙ c.in-Ok.ensures.producer.0) ∙ none_of,
    ap messages_of (ap received c.new-2.ensures ∙ c.in-Ok.ensures.consumer.0) ∙ none_of,
  );
}
