use Rattle.pnm_tools.proofs.Words.{◌++◌, ap, is_some, messages_in, unfed_in}
use Rattle.pnm_tools.proofs.UnfedSteps.{lacks_memory}
use Rattle.pnm_tools.proofs.fused_filter.FusedFilter.feed_first.Goals as goal

-- there is no memory for the first message by itself
pub returns-in_default-clause-dropped : goal.returns-in_default-clause-dropped
returns-in_default-clause-dropped g c = λ _ tool l given stage more.
    lacks_memory g.F.Filter.at g.F.Filter.all_given g.F.Filter.stopped c.args.self.now c.refuse.new.self tool l given
    (messages_in c.args.packet ++ unfed_in c.args.unfed.now) (ap is_some c.requires.going) c.refuse.ensures stage more

-- the tool took the first message
pub returns-clause-fed : goal.returns-clause-fed
returns-clause-fed g c = λ _. record {
  fed = messages_in c.in-Ok.first;
  parts = c.in-Ok.ensures.parts;
  busy = c.in-Ok-feed.ensures.fed;
}
