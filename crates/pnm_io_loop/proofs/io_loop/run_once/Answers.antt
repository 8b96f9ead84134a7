use Rattle.pnm_io_loop.proofs.Words.{inr, rules, HaveStepped}
use Rattle.pnm_io_loop.proofs.IoLoopSteps.{stepped_on, moves_later, not_before}
use Rattle.pnm_io_loop.proofs.io_loop.run_once.Goals as goal
use Rattle.pnm_io_loop.proofs.io_loop.run_once.Goals.{then-takes_first+else-take, else-takes_first}

pub returns-then-take : goal.returns-then-take
returns-then-take g c = record {
  stepped = record {
    sending = λ first before is. is;
    receiving = c.take.ensures.receiving;
    sends = search rules;
    takes = c.take.ensures.ring;
    reader = g.met.R.BytesIn.same_at_once _;
    writer = c.take.ensures.same_device;
  };
  moved = λ yes. inr (c.take.ensures.moved c.if-take.true);
  idle = λ no. absurd cc;
}

pub returns : goal.returns
returns g c = elim c.if-takes_first.branch [
  | then-takes_first+else-take w ↦
      let taken : HaveStepped g.R.BytesIn.left g.R.BytesIn.failures g.R.BytesIn.same g.W.BytesOut.held g.W.BytesOut.failures g.W.BytesOut.same
      c.args.ingress.now c.args.egress.now c.args.ingress.now w.take.new.egress = record {
        sending = λ first before is. is;
        receiving = w.take.ensures.receiving;
        sends = search rules;
        takes = w.take.ensures.ring;
        reader = g.met.R.BytesIn.same_at_once _;
        writer = w.take.ensures.same_device;
      } in
      record {
        stepped = stepped_on
            g.met.R.BytesIn.same_later g.met.W.BytesOut.same_later taken (rw w.egress-is at c.send_or_take.ensures.stepped);
        moved = λ yes. moves_later c.args.ingress.now c.send_or_take.new.ingress c.send_or_take.new.egress
            (w.take.ensures.idle w.if-take.false).1 ((rw w.egress-is at c.send_or_take.ensures.moved) yes);
        idle = λ no.
            let idle = (w.take.ensures.idle w.if-take.false) in
            (not_before c.args.ingress.now idle.1 ((rw w.egress-is at c.send_or_take.ensures.idle) no).0, idle.0);
      }
  | else-takes_first w ↦ record {
    stepped = rw w.egress-is at c.send_or_take.ensures.stepped;
    moved = rw w.egress-is at c.send_or_take.ensures.moved;
    idle = rw w.egress-is at c.send_or_take.ensures.idle;
  }
]
