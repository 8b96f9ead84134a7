-- A tool before its first message.
use Rattle.pnm_filters.proofs.Words.{[], Tool, AnyTool, Answers, AnswersInFull, RowState, IsRowWiseAt, IsFreshLane, IsToolAt, IsFreshTool, is_all_given}
use Rattle.pnm_filters.proofs.Words.{StateValue, nothing_yet, IsIdle}

-- nothing is a full answer to nothing
nothing_is_full : (tool : Tool) → Answers tool [] [] → AnswersInFull tool [] []
nothing_is_full tool answers = record { answers = answers; taken = tt; all = λ is c. nothing_yet tool is; ends = λ e ends. ends }

pub fresh_is_idle : (s : StateValue AnyTool) (tool : Tool) → IsFreshTool s tool → IsIdle IsToolAt (λ s. is_all_given s.pending) (λ s. s.fault) s tool [] []
fresh_is_idle s tool fresh = record { state = fresh.state; none_due = fresh.none_due; going = fresh.going; full = nothing_is_full tool fresh.state.answers }

pub fresh_lane_is_idle : (s : RowState) (tool : Tool) → IsFreshLane s tool
    → IsIdle IsRowWiseAt (λ s. is_all_given s.state.pending) (λ s. s.state.fault) s tool [] []
fresh_lane_is_idle s tool fresh = record {
  state = fresh.state;
  none_due = fresh.none_due;
  going = fresh.going;
  full = nothing_is_full tool
      fresh.state.state.answers;
}
