use Rattle.pnm_filters.proofs.Words.{messages_in}
use Rattle.pnm_filters.proofs.RowStateSteps.{lane_gives_back, lane_judges, lane_takes}
use Rattle.pnm_filters.proofs.row_state.RowStateFilter.feed.Goals as goal

pub returns-clause-accepted : goal.returns-clause-accepted
returns-clause-accepted c =
    lane_takes c.feed.result c.args.self.now.state c.feed.new.self (messages_in c.args.packet) c.feed.ensures.accepted

pub returns-clause-judged : goal.returns-clause-judged
returns-clause-judged c = lane_judges c.feed.result c.args.self.now.state (messages_in c.args.packet) c.feed.ensures.judged

pub returns-clause-back : goal.returns-clause-back
returns-clause-back c = lane_gives_back c.feed.result c.args.self.now.state (messages_in c.args.packet) c.feed.ensures.back
