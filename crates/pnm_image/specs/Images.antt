-- Images as wholes, and the messages that carry them.
use Rattle.std.specs.Prelude.{◌≡◌, ℕ, ◌+◌, ◌*◌, ◌≤◌, List, [], ◌∷◌, ◌++◌, length, map, slice_index, All}
use Rattle.std.specs.List.{AllByRecursion}
pub use Rattle.pnm_samples.specs.Cuts.{cut_rows}
use Rattle.pnm_image.specs.declared.message.Message.{Message}
use Rattle.pnm_image.specs.declared.message.Message.TheVariants.{Begin, Row, ImageEnd, StreamEnd}
use Rattle.pnm_image.specs.Heads.{HeadValue, IsHead, row_length}

-- a head, and the samples: rows top to bottom, columns left to right, planes in order
pub record Image : Type 0 where
  pub head : HeadValue
  pub samples : List ℕ

pub record IsImage (i : Image) : Type 0 where
  pub head : IsHead i.head
  pub count : length i.samples ≡ i.head.shape.height * row_length i.head.shape
  pub range : All (λ sample. sample ≤ i.head.shape.maxval) i.samples

abbrev pub AreImages : List Image → Type 0
AreImages is = AllByRecursion IsImage is

-- the sample of a column, a row and a plane, all counted from 0
abbrev pub sample_at : Image → ℕ → ℕ → ℕ → ℕ
sample_at i x y p = slice_index i.samples ((y * i.head.shape.width + x) * i.head.shape.depth + p)

-- the rows of an image, top to bottom
abbrev pub rows_of : Image → List (List ℕ)
rows_of i = cut_rows i.head.shape.height (row_length i.head.shape) i.samples

-- the messages of an image: its head, its rows and its end
abbrev pub messages_of_image : Image → List Message
messages_of_image i = Begin i.head ∷ (map Row (rows_of i) ++ ImageEnd ∷ [])

-- the messages of a stream: those of each image in turn, and the end of the stream
abbrev pub messages_of_stream : List Image → List Message
messages_of_stream [] = StreamEnd ∷ []
messages_of_stream (i ∷ is) = messages_of_image i ++ messages_of_stream is
