-- What a lane has given and isn't passed on yet, as messages.
use Rattle.std.specs.Prelude.{◌≡◌, ℕ, Bool, List, [], ◌∷◌, ◌++◌, drop, Option, Some, None}
use Rattle.pnm_image.specs.declared.message.Message.{Message}
use Rattle.pnm_image.specs.declared.message.Message.TheVariants.{Begin, Row, ImageEnd, StreamEnd, Stop}
use Rattle.pnm_image.specs.declared.message.Ending.{Ending}
use Rattle.pnm_image.specs.declared.message.Ending.TheVariants.{More, Whole, BrokenOff}
use Rattle.pnm_image.specs.Heads.{HeadValue}
use Rattle.pnm_image.specs.Parts.{head_messages, end_messages}
use Rattle.pnm_image.specs.Rows.{row_messages}
use Rattle.pnm_lanes.specs.declared.held.Held.{Held}
use Rattle.pnm_lanes.specs.declared.held.Next.{Next}
use Rattle.pnm_lanes.specs.declared.held.Next.TheVariants.{Nothing, Head, Row as NextRow, ImageEnd as NextImageEnd}
use Rattle.pnm_lanes.specs.declared.held.Next.TheVariants.{StreamEnd as NextStreamEnd, Stop as NextStop}

-- rows, of which so many have been passed on
abbrev pub rows_left : ℕ → Option (List (List ℕ)) → List (List ℕ)
rows_left passed None = []
rows_left passed (Some rows) = drop passed rows

-- the end of a stream, if it comes
abbrev pub last_messages : Ending → List Message
last_messages More = []
last_messages Whole = StreamEnd ∷ []
last_messages BrokenOff = Stop ∷ []

-- a head, rows and the ends of an image and of a stream
abbrev pub held_messages : Option HeadValue → ℕ → Option (List (List ℕ)) → Bool → Ending → List Message
held_messages head passed rows ends_image ending = head_messages head
    ++ (row_messages (rows_left passed rows) ++ (end_messages ends_image ++ last_messages ending))

-- what is held of a lane
abbrev pub in_held : Held → List Message
in_held h = held_messages h.head h.passed h.rows h.ends_image h.ending

-- the kind of the next of these messages
abbrev pub next_of : List Message → Next
next_of [] = Nothing
next_of (Begin head ∷ l) = Head
next_of (Row row ∷ l) = NextRow
next_of (ImageEnd ∷ l) = NextImageEnd
next_of (StreamEnd ∷ l) = NextStreamEnd
next_of (Stop ∷ l) = NextStop

-- the next of the messages that are held is a row, which was put behind these rows
abbrev pub HasPassedRow : List (List ℕ) → List (List ℕ) → List Message → List Message → Type 0
HasPassedRow rows_old rows_new old new = (row : List ℕ) × (rows_new ≡ rows_old ++ row ∷ []) × (old ≡ Row row ∷ new)
