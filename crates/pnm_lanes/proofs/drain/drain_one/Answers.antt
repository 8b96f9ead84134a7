use Rattle.pnm_lanes.proofs.Words.{subst, sym, ap, ◌∙◌, ◌++◌, List, Some, Message, received, known_items, messages_in, LaneState, HasDrainedOne}
use Rattle.pnm_lanes.proofs.DrainSteps.{packet_taken}
use Rattle.pnm_lanes.proofs.drain.drain_one.Goals as goal

pub returns-then-has_message-clause-drained : goal.returns-then-has_message-clause-drained
returns-then-has_message-clause-drained c =
    subst (λ (s : LaneState). HasDrainedOne (Some s) (received c.args.input.now) (received c.receive_known.new.self) (known_items c.receive_known.new.self))
    (sym c.state_after.ensures) (packet_taken c.receive_known.result (received c.args.input.now) (known_items c.receive_known.new.self)
    (c.receive_known.ensures.received ∙ ap (λ (l : List Message). l ++ messages_in c.receive_known.result) c.has_message.ensures.received)
    c.receive_known.ensures.messages c.receive_known.ensures.ends)

pub returns-then-has_message-2-clause-drained : goal.returns-then-has_message-2-clause-drained
returns-then-has_message-2-clause-drained c =
    let taken = c.receive_known-then-has_message-2-2 in
    let before = c.has_message-2.ensures.received ∙ c.is_abandoned.ensures.received ∙ c.has_message.ensures.received in
    subst (λ (s : LaneState). HasDrainedOne (Some s) (received c.args.input.now) (received taken.new.self) (known_items taken.new.self))
    (sym c.state_after-then-has_message-2.ensures) (packet_taken taken.result (received c.args.input.now) (known_items taken.new.self)
    (taken.ensures.received ∙ ap (λ (l : List Message). l ++ messages_in taken.result) before) taken.ensures.messages taken.ensures.ends)
