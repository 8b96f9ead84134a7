-- How a tool answers message by message: a row by rows at once, and the end of an image by what is left of the result.
use Rattle.std.specs.Prelude.{◌≡◌, ℕ, ◌+◌, List, [], ◌∷◌, ◌++◌, map, Ok, Err}
use Rattle.pnm_image.specs.declared.shape.Shape.{Shape}
use Rattle.pnm_image.specs.declared.message.Message.{Message}
use Rattle.pnm_image.specs.declared.message.Message.TheVariants.{Begin, Row, ImageEnd, StreamEnd, Stop}
use Rattle.pnm_image.specs.declared.place.Place.{Place}
use Rattle.pnm_image.specs.declared.place.Place.TheVariants.{Between, Inside, After}
use Rattle.pnm_image.specs.Places.{IsLawful, place_after}
use Rattle.pnm_tools.specs.declared.tool.Tool.{Tool}
use Rattle.pnm_tools.specs.Tools.{AreTaken, result_head, row_answer, end_answer}

-- the rows that answer rows of an image of this shape, from row y on
abbrev pub rows_answer : Tool → Shape → ℕ → List (List ℕ) → List (List ℕ)
rows_answer tool s y [] = []
rows_answer tool s y (row ∷ rows) = row_answer tool s y row ++ rows_answer tool s (y + 1) rows

-- the rows of an image that have come, with a message more
abbrev pub rows_after : List (List ℕ) → Message → List (List ℕ)
rows_after rows (Begin head) = []
rows_after rows (Row row) = rows ++ row ∷ []
rows_after rows ImageEnd = []
rows_after rows StreamEnd = []
rows_after rows Stop = []

-- the rows of an image that have come, with more messages
abbrev pub rows_come : List (List ℕ) → List Message → List (List ℕ)
rows_come rows [] = rows
rows_come rows (m ∷ ms) = rows_come (rows_after rows m) ms

-- the messages that answer one message, at a place, where these rows of the image have come
abbrev pub answers_at : Tool → Place → List (List ℕ) → Message → List Message
answers_at tool place rows (Begin head) = elim (result_head tool head) [
  | Ok result ↦ Begin result ∷ []
  | Err fault ↦ []
]
answers_at tool Between rows (Row row) = []
answers_at tool (Inside s y) rows (Row row) = map Row (row_answer tool s y row)
answers_at tool After rows (Row row) = []
answers_at tool Between rows ImageEnd = ImageEnd ∷ []
answers_at tool (Inside s y) rows ImageEnd = map Row (end_answer tool s rows) ++ ImageEnd ∷ []
answers_at tool After rows ImageEnd = ImageEnd ∷ []
answers_at tool place rows StreamEnd = StreamEnd ∷ []
answers_at tool place rows Stop = Stop ∷ []

-- the messages that answer messages from a place on, where these rows of the image have come
abbrev pub answers_from : Tool → Place → List (List ℕ) → List Message → List Message
answers_from tool place rows [] = []
answers_from tool place rows (m ∷ ms) = answers_at tool place rows m ++ answers_from tool (place_after place m)
    (rows_after rows m) ms

-- these were accepted, none of them refused, and the answers to them are those that were given and those that wait
pub record IsAnswering (tool : Tool) (l g waiting : List Message) : Type 0 where
  pub lawful : IsLawful l
  pub taken : AreTaken tool l
  pub given : answers_from tool Between [] l ≡ g ++ waiting
