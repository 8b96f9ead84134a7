-- What a tool over several lanes has refused, as if it had run over one.
use Rattle.pnm_flow.proofs.Words.{inr, List, [], ◌∷◌, refl, sym, subst, append-nil, Message, Begin, Between, IsLawful, lawful_prefix, next_may_come, ToolFault}
use Rattle.pnm_flow.proofs.Words.{CutOutside, ChannelOutside, TooLarge, OutOfOrder, Memory, Tool, answers_from, AnswersInFull, HasRefused, IsRefusedNext}
use Rattle.pnm_flow.proofs.Words.{IsLawfulTool, answering_in_full, tool_answers_images, IsFirstRefusedHead, IsFaultOf, not_started}

-- the answers to the messages before the first head that is refused
before_refusal : (tool : Tool) (fault : ToolFault) (l : List Message) → IsLawfulTool tool → IsLawful l → (found : IsFirstRefusedHead tool fault l)
    → AnswersInFull tool found.prefix (answers_from tool Between [] found.prefix)
before_refusal tool fault l of_range lawful found =
    answering_in_full tool found.prefix (answers_from tool Between [] found.prefix) (tool_answers_images tool of_range) (record {
      lawful = lawful_prefix Between found.prefix (Begin found.head ∷ found.rest) (subst IsLawful found.parts lawful);
      taken = found.taken;
      given = sym (append-nil (answers_from tool Between [] found.prefix));
    })

-- a tool that answers them, and then refuses that head
refused_at : (tool : Tool) (fault : ToolFault) (l : List Message) → IsLawfulTool tool → IsLawful l → (found : IsFirstRefusedHead tool fault l)
    → IsRefusedNext tool fault found.prefix (Begin found.head ∷ found.rest)
    → (given : List Message) × HasRefused tool fault l given
refused_at tool fault l of_range lawful found next =
    let full = before_refusal tool fault l of_range lawful found in (
      answers_from tool Between [] found.prefix,
      record {
        accepted = found.prefix;
        rest = Begin found.head ∷ found.rest;
        parts = found.parts;
        taken = found.taken;
        answers = full.answers;
        refused = inr (full, next);
      },
    )

-- a fault of lanes is a refusal of the tool, if the messages are in order
pub refused_in_lanes : (tool : Tool) (fault : ToolFault) (l : List Message) → IsLawfulTool tool → IsLawful l → IsFaultOf tool fault l → (given : List Message)
    × HasRefused tool fault l given
refused_in_lanes tool CutOutside l of_range lawful found = absurd found
refused_in_lanes tool ChannelOutside l of_range lawful (whole, found) =
    refused_at tool ChannelOutside l of_range lawful found
    ((refl, next_may_come Between found.prefix (Begin found.head) found.rest (subst IsLawful found.parts lawful)), found.refused)
refused_in_lanes tool TooLarge l of_range lawful (whole, found) =
    refused_at tool TooLarge l of_range lawful found
    ((refl, next_may_come Between found.prefix (Begin found.head) found.rest (subst IsLawful found.parts lawful)), found.refused)
refused_in_lanes tool OutOfOrder l of_range lawful found = absurd (found lawful)
refused_in_lanes tool Memory l of_range lawful found = ([], not_started tool l)
