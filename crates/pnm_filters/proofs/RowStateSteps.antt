-- A row-wise tool at work in a lane takes and gives packets as the tool does.
use Rattle.pnm_filters.proofs.Words.{◌≡◌, ℕ, true, List, [], ◌∷◌, ◌++◌, Option, Some, None, Result, Ok, Err, OnOk, IfOk, OnErr, Message, Packet, messages_in}
use Rattle.pnm_filters.proofs.Words.{ToolFault, RowState, Tool, AnyTool, BrokenOff, EndsBy, AllMayCome, AnswersInFull, JudgesAll, IsRowWiseAt, IsToolAt}
use Rattle.pnm_filters.proofs.Words.{is_all_given, StateValue}
use Rattle.std.proofs.Common.{IfSome, IfNone}

abbrev pub lane_of : StateValue AnyTool → RowState
lane_of s = record { state = s }

-- messages were taken
pub lane_takes : (r : Result (Result (Unit {0}) ToolFault) Packet) (old new : StateValue AnyTool) (ms : List Message)
    → IfOk r (λ fed. OnOk fed ((t : Tool) (l g : List Message) → IsToolAt old t l g → IsToolAt new t (l ++ ms) g))
    → IfOk r (λ fed. OnOk fed ((t : Tool) (l g : List Message) → IsRowWiseAt (lane_of old) t l g → IsRowWiseAt (lane_of new) t (l ++ ms) g))
lane_takes (Ok (Ok done)) old new ms takes = λ t l g at. record { state = takes t l g at.state; row_wise = at.row_wise }
lane_takes (Ok (Err fault)) old new ms takes = takes
lane_takes (Err same) old new ms takes = takes

-- or the first was refused
pub lane_judges : (r : Result (Result (Unit {0}) ToolFault) Packet) (old : StateValue AnyTool) (ms : List Message)
    → IfOk r (λ fed. old.fault ≡ None → (t : Tool) (l g : List Message) → IsToolAt old t l g → JudgesAll (is_all_given old.pending) t l ms fed)
    → IfOk r (λ fed. old.fault ≡ None → (t : Tool) (l g : List Message) → IsRowWiseAt (lane_of old) t l g → JudgesAll (is_all_given old.pending) t l ms fed)
lane_judges (Ok fed) old ms judges = λ none t l g at. judges none t l g at.state
lane_judges (Err same) old ms judges = judges

-- or not all of them could come
pub lane_gives_back : (r : Result (Result (Unit {0}) ToolFault) Packet) (old : StateValue AnyTool) (ms : List Message)
    → OnErr r ((t : Tool) (l g : List Message) → IsToolAt old t l g → AllMayCome (is_all_given old.pending) l ms → ⊥)
    → OnErr r ((t : Tool) (l g : List Message) → IsRowWiseAt (lane_of old) t l g → AllMayCome (is_all_given old.pending) l ms → ⊥)
lane_gives_back (Ok fed) old ms back = back
lane_gives_back (Err same) old ms back = λ t l g at. back t l g at.state

-- messages were given
pub lane_gives : (r : Result (Option Packet) ToolFault) (old new : StateValue AnyTool)
    → IfOk r (λ o. IfSome o (λ p. (t : Tool) (l g : List Message) → IsToolAt old t l g → IsToolAt new t l (g ++ messages_in p)))
    → IfOk r (λ o. IfSome o (λ p. (t : Tool) (l g : List Message) → IsRowWiseAt (lane_of old) t l g → IsRowWiseAt (lane_of new) t l (g ++ messages_in p)))
lane_gives (Ok (Some p)) old new gives = λ t l g at. record { state = gives t l g at.state; row_wise = at.row_wise }
lane_gives (Ok None) old new gives = gives
lane_gives (Err fault) old new gives = gives

-- where the end of what was accepted is Stop, Stop was given
pub lane_stops : (r : Result (Option Packet) ToolFault) (old : StateValue AnyTool) (P : Packet → Type 0)
    → IfOk r (λ o. IfSome o (λ p. (t : Tool) (l g : List Message) → IsToolAt old t l g → EndsBy BrokenOff l → P p))
    → IfOk r (λ o. IfSome o (λ p. (t : Tool) (l g : List Message) → IsRowWiseAt (lane_of old) t l g → EndsBy BrokenOff l → P p))
lane_stops (Ok (Some p)) old P stops = λ t l g at ends. stops t l g at.state ends
lane_stops (Ok None) old P stops = stops
lane_stops (Err fault) old P stops = stops

-- all was given
pub lane_is_full : (r : Result (Option Packet) ToolFault) (old new : StateValue AnyTool)
    → IfOk r (λ o.
    IfNone o ((is_all_given new.pending ≡ true) × ((t : Tool) (l g : List Message) → IsToolAt old t l g → IsToolAt new t l g × AnswersInFull t l g)))
    → IfOk r (λ o.
    IfNone o ((is_all_given new.pending ≡ true)
    × ((t : Tool) (l g : List Message) → IsRowWiseAt (lane_of old) t l g → IsRowWiseAt (lane_of new) t l g × AnswersInFull t l g)))
lane_is_full (Ok (Some p)) old new full = full
lane_is_full (Ok None) old new full = (full.0, λ t l g at. let both = full.1 t l g at.state in (record { state = both.0; row_wise = at.row_wise }, both.1))
lane_is_full (Err fault) old new full = full
