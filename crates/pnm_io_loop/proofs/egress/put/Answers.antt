use Rattle.pnm_io_loop.proofs.Words.{List, inl, inr, sym, subst, ◌∙◌, Message, without_stop, More, Whole, BrokenOff, HasTaken}
use Rattle.pnm_io_loop.proofs.EgressSteps.{ends_by, keeps_packet, cuts_stop}
use Rattle.pnm_io_loop.proofs.egress.put.Goals as goal

pub returns-in-More-clause-put : goal.returns-in-More-clause-put
returns-in-More-clause-put g c = λ form start l was.
    let same = sym c.ending.ensures ∙ c.in-More.is in
    let packet = c.args.packet.now in
    record {
      ended = rw (c.requires.going) (ends_by c.args.has_ended.now l packet c.requires.ends c.requires.going was.ended same);
      taken = subst (λ (x : List Message). HasTaken g.W.BytesOut.held g.W.BytesOut.failures form start x c.put.new.self)
          (keeps_packet c.args.has_ended.now l packet c.requires.ends tt c.requires.going was.ended same)
          (c.put.ensures.taken form start (without_stop l) was.taken);
    }

pub returns-in-Whole-clause-put : goal.returns-in-Whole-clause-put
returns-in-Whole-clause-put g c = λ form start l was.
    let same = sym c.ending.ensures ∙ c.in-Whole.is in
    let packet = c.args.packet.now in
    record {
      ended = inl (ends_by c.args.has_ended.now l packet c.requires.ends c.requires.going was.ended same);
      taken = subst (λ (x : List Message). HasTaken g.W.BytesOut.held g.W.BytesOut.failures form start x c.put-in-Whole.new.self)
          (keeps_packet c.args.has_ended.now l packet c.requires.ends tt c.requires.going was.ended same)
          (c.put-in-Whole.ensures.taken form start (without_stop l) was.taken);
    }

pub returns-in-BrokenOff-clause-put : goal.returns-in-BrokenOff-clause-put
returns-in-BrokenOff-clause-put g c = λ form start l was.
    let same = sym c.ending.ensures ∙ c.in-BrokenOff.is in
    let packet = c.args.packet.now in
    record {
      ended = inr (ends_by c.args.has_ended.now l packet c.requires.ends c.requires.going was.ended same);
      taken = subst (λ (x : List Message). HasTaken g.W.BytesOut.held g.W.BytesOut.failures form start x c.args.fused_sink.now)
          (cuts_stop c.args.has_ended.now l packet c.requires.going was.ended same) was.taken;
    }
