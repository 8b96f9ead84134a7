use Rattle.pnm_filters.proofs.Words.{◌≡◌, [], ◌∷◌, messages_in, Stop}
use Rattle.pnm_filters.proofs.RowStateSteps.{lane_gives, lane_stops, lane_is_full}
use Rattle.pnm_filters.proofs.row_state.RowStateFilter.next.Goals as goal

pub returns-clause-given : goal.returns-clause-given
returns-clause-given c = lane_gives c.next.result c.args.self.now.state c.next.new.self c.next.ensures.given

pub returns-clause-stop_alone : goal.returns-clause-stop_alone
returns-clause-stop_alone c = lane_stops c.next.result c.args.self.now.state (λ p. messages_in p ≡ Stop ∷ []) c.next.ensures.stop_alone

pub returns-clause-full : goal.returns-clause-full
returns-clause-full c = lane_is_full c.next.result c.args.self.now.state c.next.new.self c.next.ensures.full
