-- Between functions: what passes through the stages of a run in one thread.
use Rattle.std.specs.Prelude.{ℕ, List, [], ◌∷◌, ◌++◌, map, Option, Bool}
use Rattle.pnm_image.specs.declared.format.Form.{Form}
use Rattle.pnm_image.specs.declared.message.Message.{Message}
use Rattle.pnm_tools.specs.declared.fault.ToolFault.{ToolFault}
use Rattle.pnm_tools.specs.declared.tool.Tool.{Tool}
use Rattle.pnm_tools.specs.declared.fused_filter.FusedFilter.{FusedFilter}
use Rattle.pnm_tools.specs.Chains.{AreLawfulTools}
use Rattle.pnm_tools.specs.ChainAnswers.{AreSound}
use Rattle.pnm_tools.specs.FusedFilters.{FilterBusy, refusal_in}
use Rattle.pnm_serial.specs.declared.fused_sink.FusedSink.{FusedSink}
use Rattle.pnm_serial.specs.FusedSinks.{HasTaken}
use Rattle.pnm_serial.specs.SerialChains.{FiltersAt}

-- the same, where the first of them may still give messages
abbrev pub FiltersBusy : {F : Type 0} → (F → Tool → List Message → List Message → Type 0) → (F → Bool)
    → (F → Option ToolFault) → List (FusedFilter F) → List Tool → List Message → List Message → Type 0
FiltersBusy at all_given stopped [] tools received given = ⊥
FiltersBusy at all_given stopped (stage ∷ stages) [] received given = ⊥
FiltersBusy at all_given stopped (stage ∷ stages) (tool ∷ tools) received given = (middle : List Message)
    × FilterBusy at stopped stage tool received middle
    × FiltersAt at all_given stopped stages tools middle given

-- the last of the stages has given more for what the first has received, where that may come, and the sink has taken
-- it; what the stages had received and given before, and what they have now
pub record GivesThrough {W : Type 0} (held : W → Option (List ℕ)) (failures : W → ℕ)
    (Old New : List Tool → List Message → List Message → Type 0) (before after : FusedSink W) : Type 0 where
  pub more : List Message
  pub stages : (tools : List Tool) (l g : List Message) → AreLawfulTools tools → AreSound l → Old tools l g
      → New tools l (g ++ more)
  pub taken : (form : Form) (start : W) (messages : List Message) → HasTaken held failures form start messages before
      → HasTaken held failures form start (messages ++ more) after

-- messages have passed through the stages, where they may come, and the sink has taken what came of them
pub record FeedsThrough {F W : Type 0} (at : F → Tool → List Message → List Message → Type 0) (all_given : F → Bool)
    (stopped : F → Option ToolFault) (held : W → Option (List ℕ)) (failures : W → ℕ)
    (old : List (FusedFilter F)) (passed : List Message) (new : List (FusedFilter F)) (before after : FusedSink W)
    : Type 0 where
  pub more : List Message
  pub stages : (tools : List Tool) (l g : List Message) → AreLawfulTools tools → AreSound (l ++ passed)
      → FiltersAt at all_given stopped old tools l g
      → FiltersAt at all_given stopped new tools (l ++ passed) (g ++ more)
  pub taken : (form : Form) (start : W) (messages : List Message) → HasTaken held failures form start messages before
      → HasTaken held failures form start (messages ++ more) after

-- why each stage refused, if it did
abbrev pub refusals_in : {F : Type 0} → List (FusedFilter F) → List (Option ToolFault)
refusals_in stages = map refusal_in stages
