-- Between functions: what is still to be said where something is awaited, and what is given of it.
use Rattle.std.specs.Prelude.{◌≡◌, ℕ, ◌<◌, ◌≤◌, ◌⊎◌, Bool, true, false, List, [], length}
use Rattle.std.specs.Prelude.{Result, Ok, Err}
use Rattle.std.specs.Coded.{Unit-prop, le_prop}
use Rattle.pnm_image.specs.declared.packet.Packet.{Packet}
use Rattle.pnm_image.specs.declared.packet.Packet.TheVariants.{Part, StreamEnd, Stop}
use Rattle.pnm_image.specs.Packets.{messages_in}
use Rattle.pnm_read.specs.declared.fault.InputFault.{InputFault}
use Rattle.pnm_read.specs.declared.source.Awaited.{Awaited}
use Rattle.pnm_read.specs.declared.source.Awaited.TheVariants.{FirstImage, Row, ImageOrEnd, End}
use Rattle.pnm_read.specs.declared.source.State.{State}
use Rattle.pnm_read.specs.declared.source.State.TheVariants.{Awaits, Ended, Failed}
use Rattle.pnm_read.specs.Said.{image_said, later_said, says_fault, after_messages, IsOutsideFault}
use Rattle.pnm_read.specs.Awaiting.{due_at, state_due, is_ended}

-- where a row is awaited, its raster has one left
abbrev pub HasRow : Awaited → Type 0
HasRow FirstImage = Unit {0}
HasRow (Row raster) = raster.y < raster.shape.height
HasRow ImageOrEnd = Unit {0}
HasRow End = Unit {0}

abbrev pub HasRowNext : State → Type 0
HasRowNext (Awaits awaited) = HasRow awaited
HasRowNext Ended = Unit {0}
HasRowNext (Failed fault) = Unit {0}

HasRow-prop : (awaited : Awaited) → IsProp (HasRow awaited)
HasRow-prop FirstImage = Unit-prop
HasRow-prop (Row raster) = le_prop
HasRow-prop ImageOrEnd = Unit-prop
HasRow-prop End = Unit-prop

pub HasRowNext-prop : (state : State) → IsProp (HasRowNext state)
HasRowNext-prop (Awaits awaited) = HasRow-prop awaited
HasRowNext-prop Ended = Unit-prop
HasRowNext-prop (Failed fault) = Unit-prop

-- a packet stands for at least one message; the end of the stream leads to its state, and Stop isn't given
abbrev pub MayBeGiven : Packet → State → Type 0
MayBeGiven (Part part) state = 1 ≤ length part
MayBeGiven StreamEnd state = is_ended state ≡ true
MayBeGiven Stop state = ⊥

-- what is given where this is awaited, and the state after it: the next of what was to be said, or the fault
abbrev pub Gives : Awaited → Result Packet InputFault → State → List ℕ → List ℕ → Type 0
Gives awaited (Ok packet) new before after =
    (due_at awaited before ≡ after_messages (messages_in packet) (state_due new after)) × MayBeGiven packet new
Gives awaited (Err fault) new before after = (due_at awaited before ≡ says_fault fault) ⊎ IsOutsideFault fault

-- what is given at the start of an image
abbrev pub GivesAtStart : Bool → Result Packet InputFault → State → List ℕ → List ℕ → Type 0
GivesAtStart is_first (Ok packet) new before after =
    (image_said later_said is_first before ≡ after_messages (messages_in packet) (state_due new after))
    × MayBeGiven packet new
GivesAtStart is_first (Err fault) new before after =
    (image_said later_said is_first before ≡ says_fault fault) ⊎ IsOutsideFault fault

-- whether the text has ended; nothing was taken of it
abbrev pub SeesText : Result Bool InputFault → List ℕ → List ℕ → Type 0
SeesText (Ok true) before after = (before ≡ []) × (after ≡ [])
SeesText (Ok false) before after = (before ≡ [] → ⊥) × (after ≡ before)
SeesText (Err fault) before after = IsOutsideFault fault
