-- What passes through the stages of a run in one thread.
use Rattle.std.specs.Prelude.{List, [], ◌∷◌, ◌≡◌, Option, Bool}
use Rattle.pnm_image.specs.declared.message.Message.{Message}
use Rattle.pnm_tools.specs.declared.fault.ToolFault.{ToolFault}
use Rattle.pnm_tools.specs.declared.tool.Tool.{Tool}
use Rattle.pnm_tools.specs.declared.fused_filter.FusedFilter.{FusedFilter}
use Rattle.pnm_tools.specs.FusedFilters.{FilterAt}

-- what the first of the stages has received and the last has given
abbrev pub FiltersAt : {F : Type 0} → (F → Tool → List Message → List Message → Type 0) → (F → Bool)
    → (F → Option ToolFault) → List (FusedFilter F) → List Tool → List Message → List Message → Type 0
FiltersAt at all_given stopped [] [] received given = given ≡ received
FiltersAt at all_given stopped [] (tool ∷ tools) received given = ⊥
FiltersAt at all_given stopped (stage ∷ stages) [] received given = ⊥
FiltersAt at all_given stopped (stage ∷ stages) (tool ∷ tools) received given = (middle : List Message)
    × FilterAt at all_given stopped stage tool received middle
    × FiltersAt at all_given stopped stages tools middle given
