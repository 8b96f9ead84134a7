-- What holds of a tool of a chain however many lanes it runs over.
use Rattle.pnm_flow.proofs.Words.{◌≡◌, ◌≢◌, inl, inr, ℕ, List, [], ◌∷◌, ◌++◌, refl, sym, subst, Message, Stop, IsLawful, stream_is_lawful, ToolFault, Tool}
use Rattle.pnm_flow.proofs.Words.{More, Whole, BrokenOff, EndsBy, HasRefused, IsLawfulTool, output_due, results_are_images, StageEnd, Well, Broken, Fault}
use Rattle.pnm_flow.proofs.Words.{PeerGone, IsPrefixOfDue, IsEnded, HasEndedWell, HasBrokenOff, stream_ends_whole, ends_with, RunsInLanes, IsStageOver}
use Rattle.pnm_flow.proofs.Words.{HasEndedOver}
use Rattle.pnm_flow.proofs.LaneRefusals.{refused_in_lanes}

-- ---- its end

pub stage_ended : (lanes : ℕ) (tool : Tool) (end : StageEnd) (l g : List Message) → IsStageOver lanes tool end l g → HasEndedOver lanes tool end l g
stage_ended lanes tool end l g (inl several) = inl (several.0, several.1.ended)
stage_ended lanes tool end l g (inr one) = inr (one.0, one.1.ended)

pub ended_well : (lanes : ℕ) (tool : Tool) (l g : List Message) → HasEndedOver lanes tool Well l g → HasEndedWell tool l g
ended_well lanes tool l g (inl several) = several.1
ended_well lanes tool l g (inr one) = one.1

pub ended_broken : (lanes : ℕ) (tool : Tool) (l g : List Message) → HasEndedOver lanes tool Broken l g → HasBrokenOff tool l g
ended_broken lanes tool l g (inl several) = several.1
ended_broken lanes tool l g (inr one) = one.1

-- what was refused, if the messages are in order; where the tool is one stage, all that it has given was sent
pub record Refused (lanes : ℕ) (tool : Tool) (fault : ToolFault) (l g : List Message) : Type 0 where
  pub given : List Message
  pub refused : HasRefused tool fault l given
  pub sent : (RunsInLanes lanes tool → ⊥) → (g ≡ given ++ Stop ∷ []) × EndsBy More given

pub ended_refused : (lanes : ℕ) (tool : Tool) (fault : ToolFault) (l g : List Message) → IsLawfulTool tool → IsLawful l
    → HasEndedOver lanes tool (Fault fault) l g → Refused lanes tool fault l g
ended_refused lanes tool fault l g of_range lawful (inl several) =
    let refused = refused_in_lanes tool fault l of_range lawful several.1.of_input in
    record { given = refused.0; refused = refused.1; sent = λ one. absurd (one several.0) }
ended_refused lanes tool fault l g of_range lawful (inr one) =
    record { given = one.1.given; refused = one.1.refused; sent = λ alone. (one.1.answer, one.1.unbroken) }

-- what was received has ended, and what was sent has, unless a neighbour's end was seen dropped
failed_received : (lanes : ℕ) (tool : Tool) (fault : ToolFault) (l g : List Message) → HasEndedOver lanes tool (Fault fault) l g → IsEnded l
failed_received lanes tool fault l g (inl several) = several.1.ends
failed_received lanes tool fault l g (inr one) = one.1.ends

pub received_ended : (lanes : ℕ) (tool : Tool) (end : StageEnd) (l g : List Message) → HasEndedOver lanes tool end l g → end ≢ PeerGone → IsEnded l
received_ended lanes tool Well l g ended there = let well = ended_well lanes tool l g ended in
    inl (subst (EndsBy Whole) (sym well.stream.messages) (stream_ends_whole well.images))
received_ended lanes tool Broken l g ended there = inr (ended_broken lanes tool l g ended).ends
received_ended lanes tool (Fault fault) l g ended there = failed_received lanes tool fault l g ended
received_ended lanes tool PeerGone l g ended there = absurd (there refl)

failed_sent : (lanes : ℕ) (tool : Tool) (fault : ToolFault) (l g : List Message) → HasEndedOver lanes tool (Fault fault) l g → EndsBy BrokenOff g
failed_sent lanes tool fault l g (inl several) = let stopped = several.1.answer in subst (EndsBy BrokenOff) (sym stopped.1) (ends_with stopped.0 Stop stopped.2)
failed_sent lanes tool fault l g (inr one) = subst (EndsBy BrokenOff) (sym one.1.answer) (ends_with one.1.given Stop one.1.unbroken)

pub sent_ended : (lanes : ℕ) (tool : Tool) (end : StageEnd) (l g : List Message) → HasEndedOver lanes tool end l g → end ≢ PeerGone → IsEnded g
sent_ended lanes tool Well l g ended there = let well = ended_well lanes tool l g ended in
    inl (subst (EndsBy Whole) (sym well.answer) (stream_ends_whole well.results))
sent_ended lanes tool Broken l g ended there = let broken = ended_broken lanes tool l g ended in inr (broken.full.ends BrokenOff broken.ends)
sent_ended lanes tool (Fault fault) l g ended there = inr (failed_sent lanes tool fault l g ended)
sent_ended lanes tool PeerGone l g ended there = absurd (there refl)

-- what a tool sent that ended well is in order
pub sent_in_order : (tool : Tool) (l g : List Message) → IsLawfulTool tool → HasEndedWell tool l g → IsLawful g
sent_in_order tool l g of_range ended =
    subst IsLawful (sym ended.answer)
    (stream_is_lawful ended.results (results_are_images tool ended.images ended.results of_range ended.stream.images ended.made))

-- ---- however it ended

pub stage_due : (lanes : ℕ) (tool : Tool) (end : StageEnd) (l g : List Message) → IsStageOver lanes tool end l g → IsPrefixOfDue (output_due tool) l g
stage_due lanes tool end l g (inl several) = several.1.due
stage_due lanes tool end l g (inr one) = one.1.due
