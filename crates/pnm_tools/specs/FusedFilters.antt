-- A fused filter: a tool at work, or one that has refused; what it has received and given.
use Rattle.std.specs.Prelude.{◌≡◌, ℕ, Bool, true, List, Option, Some, None}
use Rattle.pnm_image.specs.declared.message.Message.{Message}
use Rattle.pnm_tools.specs.declared.fault.ToolFault.{ToolFault}
use Rattle.pnm_tools.specs.declared.tool.Tool.{Tool}
use Rattle.pnm_tools.specs.Answers.{AnswersInFull}
use Rattle.pnm_tools.specs.ChainAnswers.{HasRefused}
use Rattle.pnm_tools.specs.Tools.{AreTaken}
use Rattle.pnm_tools.specs.declared.fused_filter.FusedFilter.{FusedFilter}
use Rattle.pnm_tools.specs.declared.fused_filter.FusedFilter.TheVariants.{AtWork, Refused}

abbrev pub refusal_in : {F : Type 0} → FusedFilter F → Option ToolFault
refusal_in (AtWork filter) = None
refusal_in (Refused fault) = Some fault

-- a tool at work that has given all that is due for what it accepted
pub record IsIdle {F : Type 0} (at : F → Tool → List Message → List Message → Type 0) (all_given : F → Bool)
    (stopped : F → Option ToolFault) (filter : F) (tool : Tool) (received given : List Message) : Type 0 where
  pub state : at filter tool received given
  pub none_due : all_given filter ≡ true
  pub going : stopped filter ≡ None
  pub full : AnswersInFull tool received given

-- what a stage has received and given
abbrev pub FilterAt : {F : Type 0} → (F → Tool → List Message → List Message → Type 0) → (F → Bool)
    → (F → Option ToolFault) → FusedFilter F → Tool → List Message → List Message → Type 0
FilterAt at all_given stopped (AtWork filter) tool received given =
    IsIdle at all_given stopped filter tool received given
FilterAt at all_given stopped (Refused fault) tool received given = HasRefused tool fault received given

-- a tool at work that may still give messages for what it accepted
pub record IsBusy {F : Type 0} (at : F → Tool → List Message → List Message → Type 0) (stopped : F → Option ToolFault)
    (filter : F) (tool : Tool) (received given : List Message) : Type 0 where
  pub state : at filter tool received given
  pub going : stopped filter ≡ None
  pub taken : AreTaken tool received

-- what a stage has received, and given so far
abbrev pub FilterBusy : {F : Type 0} → (F → Tool → List Message → List Message → Type 0) → (F → Option ToolFault)
    → FusedFilter F → Tool → List Message → List Message → Type 0
FilterBusy at stopped (AtWork filter) tool received given = IsBusy at stopped filter tool received given
FilterBusy at stopped (Refused fault) tool received given = HasRefused tool fault received given

-- the messages that a stage is still to give, at most
abbrev pub waiting_at : {F : Type 0} → (F → ℕ) → FusedFilter F → ℕ
waiting_at waiting (AtWork filter) = waiting filter
waiting_at waiting (Refused fault) = 0
