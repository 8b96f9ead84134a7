-- What a thread has sent, however it ended: a prefix of what is due for the messages that it received.
use Rattle.std.specs.Prelude.{◌≡◌, List, ◌∷◌, ◌++◌}
use Rattle.pnm_image.specs.declared.message.Message.{Message}
use Rattle.pnm_image.specs.declared.place.Place.TheVariants.{Between}
use Rattle.pnm_image.specs.Images.{Image}
use Rattle.pnm_image.specs.Messages.{without_stop}
use Rattle.pnm_image.specs.Places.{Accepts, IsLawful, place_of}
use Rattle.pnm_image.specs.Completion.{IsPrefixOf, Completes}

-- what was sent is a prefix of what is due for a lawful prefix of what was received, whatever images complete that
pub record IsPrefixOfDue (due : List Image → List Message) (l g : List Message) : Type 0 where
  pub accepted : List Message
  pub rest : List Message
  pub parts : l ≡ accepted ++ rest
  pub lawful : IsLawful accepted
  pub prefix : (is : List Image) → Completes is accepted → IsPrefixOf (without_stop g) (due is)

-- the longest prefix that is lawful
pub record IsLongestLawfulPrefix (prefix l : List Message) : Type 0 where
  pub rest : List Message
  pub parts : l ≡ prefix ++ rest
  pub lawful : IsLawful prefix
  pub longest : (m : Message) (ms : List Message) → rest ≡ m ∷ ms → ¬ Accepts (place_of Between prefix) m

-- every list has one
abbrev pub ListsHaveLongestPrefixes : Type 0
ListsHaveLongestPrefixes = (l : List Message) → (prefix : List Message) × IsLongestLawfulPrefix prefix l

-- so it is for the longest lawful prefix of what was received: a prefix of what is due, whatever images complete that
abbrev pub LongestPrefixIsDue : Type 0
LongestPrefixIsDue = (due : List Image → List Message) (l g prefix : List Message) (is : List Image)
    → IsPrefixOfDue due l g → IsLongestLawfulPrefix prefix l → Completes is prefix
    → IsPrefixOf (without_stop g) (due is)
