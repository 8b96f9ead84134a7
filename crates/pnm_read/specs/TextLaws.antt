-- The laws that tie what a text spells to what is said of it, and the laws of what is said.
use Rattle.std.specs.Prelude.{◌≡◌, ◌↔◌, ◌⊎◌, ℕ, List, Some, None}
use Rattle.std.specs.List.{AllByRecursion}
use Rattle.pnm_image.specs.Images.{Image, AreImages, messages_of_stream}
use Rattle.pnm_image.specs.Messages.{IsMessage, EndsStream}
use Rattle.pnm_image.specs.Places.{IsLawful}
use Rattle.pnm_read.specs.declared.fault.InputFault.{InputFault}
use Rattle.pnm_read.specs.declared.fault.InputFault.TheVariants.{ReadFailed, Memory}
use Rattle.pnm_read.specs.Spelling.{Spells}
use Rattle.pnm_read.specs.Said.{said_of, fault_of, AreSaid}
use Rattle.pnm_read.specs.BeforeFaults.{SpellsUpToFault}

-- of a text that spells images their messages are said, without a fault
abbrev pub SpelledIsSaid : Type 0
SpelledIsSaid =
    (text : List ℕ) (images : List Image) → Spells text images → (said_of text ≡ messages_of_stream images)
    × (fault_of text ≡ None)

-- a text without a fault spells the images whose messages are said of it
abbrev pub SaidIsSpelled : Type 0
SaidIsSpelled =
    (text : List ℕ) → fault_of text ≡ None → (images : List Image) × Spells text images
    × (said_of text ≡ messages_of_stream images)

-- the images that a text spells are those that are said of it
abbrev pub SpelledAreSaid : Type 0
SpelledAreSaid = (text : List ℕ) (images : List Image) → Spells text images ↔ AreSaid text images

-- the images that a text spells are images
abbrev pub SpelledAreImages : Type 0
SpelledAreImages =
    (text : List ℕ) (images : List Image) → Spells text images → AreImages images

-- the text spells these images and no others, and has no fault
pub record SpellsOnly (text : List ℕ) (images : List Image) : Type 0 where
  pub spelled : Spells text images
  pub only : (others : List Image) → Spells text others → others ≡ images
  pub sound : fault_of text ≡ None

-- the text has this fault, and spells no images
pub record IsAtFault (text : List ℕ) (fault : InputFault) : Type 0 where
  pub first : fault_of text ≡ Some fault
  pub not_spelled : (images : List Image) → Spells text images → ⊥

-- a text spells exactly one list of images and has no fault, or spells none and has a fault
abbrev pub OneStreamOrOneFault : Type 0
OneStreamOrOneFault =
    (text : List ℕ) → ((images : List Image) × SpellsOnly text images) ⊎ ((fault : InputFault) × IsAtFault text fault)

-- What is said of a text with a fault is spelled: it is a prefix that spells the images that ended, and a rest, and
-- what is said are the messages of these images, and then nothing, or the head of an image whose header the rest begins
-- with, and its first rows, as many as are spelled there.
abbrev pub SaidBeforeFaultIsSpelled : Type 0
SaidBeforeFaultIsSpelled =
    (text : List ℕ) (fault : InputFault) → fault_of text ≡ Some fault → SpellsUpToFault text (said_of text)

-- what is said of any text may come in turn, also before a fault
abbrev pub SaidIsLawful : Type 0
SaidIsLawful =
    (text : List ℕ) → IsLawful (said_of text)

-- what is said of any text are messages of a program: each head keeps the rules of heads
abbrev pub SaidAreMessages : Type 0
SaidAreMessages =
    (text : List ℕ) → AllByRecursion IsMessage (said_of text)

-- the end of the stream is said of a text exactly if the text has no fault
abbrev pub EndIsSaidWithoutFault : Type 0
EndIsSaidWithoutFault =
    (text : List ℕ) → EndsStream (said_of text) ↔ (fault_of text ≡ None)

-- the fault of a text is never one from outside: neither a failed read nor memory that ran out
abbrev pub FaultsAreOfTexts : Type 0
FaultsAreOfTexts =
    (text : List ℕ) → (fault_of text ≡ Some ReadFailed → ⊥) × (fault_of text ≡ Some Memory → ⊥)
