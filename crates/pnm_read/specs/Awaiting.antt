-- What is still to be said where something is awaited, and what is given of it.
use Rattle.std.specs.Prelude.{ℕ, ◌-◌, Bool, true, false, List, Option, Some, None}
use Rattle.pnm_read.specs.declared.fault.InputFault.{InputFault}
use Rattle.pnm_read.specs.declared.source.Awaited.{Awaited}
use Rattle.pnm_read.specs.declared.source.Awaited.TheVariants.{FirstImage, Row, ImageOrEnd, End}
use Rattle.pnm_read.specs.declared.source.State.{State}
use Rattle.pnm_read.specs.declared.source.State.TheVariants.{Awaits, Ended, Failed}
use Rattle.pnm_read.specs.Said.{Said, text_said, later_said, ends_stream, says_nothing, says_fault, rows_said}

-- what is still to be said of the rest of the text, where this is awaited
abbrev pub due_at : Awaited → List ℕ → Said
due_at FirstImage text = text_said text
due_at (Row raster) text = rows_said later_said raster.format raster.shape (raster.shape.height - raster.y) text
due_at ImageOrEnd text = later_said text
due_at End text = ends_stream

-- what is still to be said in a state
abbrev pub state_due : State → List ℕ → Said
state_due (Awaits awaited) text = due_at awaited text
state_due Ended text = says_nothing
state_due (Failed fault) text = says_fault fault

-- the fault that there was, if any
abbrev pub state_fault : State → Option InputFault
state_fault (Awaits awaited) = None
state_fault Ended = None
state_fault (Failed fault) = Some fault

-- the stream has ended
abbrev pub is_ended : State → Bool
is_ended (Awaits awaited) = false
is_ended Ended = true
is_ended (Failed fault) = false
