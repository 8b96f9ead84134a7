-- Between functions: the state of a tool at work, W being what it keeps.
use Rattle.std.specs.Prelude.{◌≡◌, ℕ, List, [], Option, Some, None}
use Rattle.pnm_image.specs.declared.shape.Shape.{Shape}
use Rattle.pnm_image.specs.declared.place.Place.{Place}
use Rattle.pnm_tools.specs.declared.fault.ToolFault.{ToolFault}
use Rattle.pnm_filters.specs.declared.pending.Pending.{Pending}
use Rattle.pnm_filters.specs.States.{StateValue, IsReadyFor, SuitsPlace}

abbrev pub state_value : {W : Type 0} → W → Place → Pending → Option ToolFault → StateValue W
state_value work place pending fault = record { work = work; place = place; pending = pending; fault = fault }

-- a state is sound: it keeps no rows after a fault
abbrev pub IsSoundState : {W : Type 0} → (W → Shape → List (List ℕ) → Type 0) → (W → List (List ℕ))
    → (W → List (List ℕ)) → W → Place → Pending → Option ToolFault → Type 0
IsSoundState ready due kept work place pending None = ((rows : List (List ℕ)) × IsReadyFor ready work place rows)
    × SuitsPlace due kept work place pending.phase
IsSoundState ready due kept work place pending (Some fault) = kept work ≡ []
