-- Between functions: whether messages may come, by what a tool at work has still to give.
use Rattle.std.specs.Prelude.{◌≡◌, Bool, true, List, Option, Some, None}
use Rattle.pnm_image.specs.declared.message.Message.{Message}
use Rattle.pnm_image.specs.declared.place.Place.{Place}
use Rattle.pnm_image.specs.Places.{IsLawfulFrom, LeadsTo}

-- the place to which they lead, if all was given and they may come
abbrev pub LeadsOn : Bool → Place → List Message → Option Place → Type 0
LeadsOn all_given place ms (Some after) = (all_given ≡ true) × LeadsTo place ms (Some after)
LeadsOn all_given place ms None = (all_given ≡ true) × IsLawfulFrom place ms → ⊥
