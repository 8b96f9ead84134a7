use Rattle.pnm_flow.proofs.Words.{sym, still_pair}
use Rattle.pnm_flow.proofs.chain.extended.Goals as goal

pub returns-clause-link : goal.returns-clause-link
returns-clause-link c = (
  record { producer = c.look_beside.new.sender; consumer = c.look_beside.new.self },
  c.push_reserved.ensures.items,
  record {
    one_ring = still_pair c.args.chain.output c.look_beside.new.sender c.args.done.input c.look_beside.new.self c.requires.ring c.look_beside.ensures.sender.0
        c.look_beside.ensures.looked.0;
    in_order = sym c.look_beside.ensures.in_order;
  },
  c.look_beside.ensures.sender.1,
  c.look_beside.ensures.looked.1,
)
