-- How a list of messages that broke off could have gone on, and the laws of lists of messages.
use Rattle.std.specs.Prelude.{◌≡◌, List, ◌++◌}
use Rattle.std.specs.List.{AllByRecursion}
use Rattle.pnm_image.specs.declared.message.Message.{Message}
use Rattle.pnm_image.specs.Messages.{IsMessage, EndsStream, without_stop}
use Rattle.pnm_image.specs.Places.{IsLawful}
use Rattle.pnm_image.specs.Images.{Image, AreImages, messages_of_stream}

-- the first list is a prefix of the second
abbrev pub IsPrefixOf : List Message → List Message → Type 0
IsPrefixOf prefix whole = (rest : List Message) × (whole ≡ prefix ++ rest)

-- the images complete the messages: without a last Stop, these are a prefix of the images' messages
pub record Completes (is : List Image) (l : List Message) : Type 0 where
  pub images : AreImages is
  pub prefix : IsPrefixOf (without_stop l) (messages_of_stream is)

-- the messages are those of these images, and of no others
pub record IsStreamOf (l : List Message) (is : List Image) : Type 0 where
  pub images : AreImages is
  pub messages : l ≡ messages_of_stream is
  pub only : (js : List Image) → AreImages js → l ≡ messages_of_stream js → js ≡ is

-- lawful lists are streams: a lawful list that ends the stream belongs to exactly one list of images
abbrev pub LawfulListsAreStreams : Type 0
LawfulListsAreStreams =
    (l : List Message) → AllByRecursion IsMessage l → IsLawful l → EndsStream l → (is : List Image) × IsStreamOf l is

-- the messages of a stream of images are a lawful list that ends the stream
abbrev pub StreamsAreLawful : Type 0
StreamsAreLawful =
    (is : List Image) → AreImages is → AllByRecursion IsMessage (messages_of_stream is)
    × IsLawful (messages_of_stream is) × EndsStream (messages_of_stream is)

-- every lawful list can be completed
abbrev pub LawfulListsCanBeCompleted : Type 0
LawfulListsCanBeCompleted =
    (l : List Message) → AllByRecursion IsMessage l → IsLawful l → (is : List Image) × Completes is l
