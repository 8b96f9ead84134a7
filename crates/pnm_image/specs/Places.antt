-- The place in a stream of messages, and which messages may come there.
use Rattle.std.specs.Prelude.{◌≡◌, ℕ, ◌+◌, ◌<◌, ◌≤◌, List, [], ◌∷◌, length, All, Option, Some, None}
use Rattle.pnm_image.specs.declared.shape.Shape.{Shape}
use Rattle.pnm_image.specs.declared.message.Message.{Message}
use Rattle.pnm_image.specs.declared.message.Message.TheVariants.{Begin, Row, ImageEnd, StreamEnd, Stop}
use Rattle.pnm_image.specs.declared.place.Place.{Place}
use Rattle.pnm_image.specs.declared.place.Place.TheVariants.{Between, Inside, After}
use Rattle.pnm_image.specs.Heads.{row_length}

-- a row of an image of this shape
pub record IsRowOf (s : Shape) (row : List ℕ) : Type 0 where
  pub count : length row ≡ row_length s
  pub range : All (λ sample. sample ≤ s.maxval) row

-- which message may come at a place
abbrev pub Accepts : Place → Message → Type 0
Accepts Between (Begin head) = Unit {0}
Accepts Between (Row row) = ⊥
Accepts Between ImageEnd = ⊥
Accepts Between StreamEnd = Unit {0}
Accepts Between Stop = Unit {0}
Accepts (Inside s y) (Begin head) = ⊥
Accepts (Inside s y) (Row row) = (y < s.height) × IsRowOf s row
Accepts (Inside s y) ImageEnd = y ≡ s.height
Accepts (Inside s y) StreamEnd = ⊥
Accepts (Inside s y) Stop = Unit {0}
Accepts After m = ⊥

-- the place after a message that may come there
abbrev pub place_after : Place → Message → Place
place_after place (Begin head) = Inside head.shape 0
place_after (Inside s y) (Row row) = Inside s (y + 1)
place_after Between (Row row) = Between
place_after After (Row row) = After
place_after place ImageEnd = Between
place_after place StreamEnd = After
place_after place Stop = After

-- each message may come where it stands, from this place on
abbrev pub IsLawfulFrom : Place → List Message → Type 0
IsLawfulFrom place [] = Unit {0}
IsLawfulFrom place (m ∷ ms) = Accepts place m × IsLawfulFrom (place_after place m) ms

-- a lawful list of messages
abbrev pub IsLawful : List Message → Type 0
IsLawful l = IsLawfulFrom Between l

-- the place that a list of messages leads to
abbrev pub place_of : Place → List Message → Place
place_of place [] = place
place_of place (m ∷ ms) = place_of (place_after place m) ms

-- the place after messages, if each may come where it stands
abbrev pub LeadsTo : Place → List Message → Option Place → Type 0
LeadsTo place ms (Some after) = IsLawfulFrom place ms × (after ≡ place_of place ms)
LeadsTo place ms None = IsLawfulFrom place ms → ⊥
