-- The law of what is written and of what is read.
use Rattle.std.specs.Prelude.{◌≡◌, ◌<◌, List, length, None}
use Rattle.std.specs.List.{AllByRecursion}
use Rattle.pnm_image.specs.declared.format.Form.{Form}
use Rattle.pnm_image.specs.Images.{Image, AreImages}
use Rattle.pnm_read.specs.Spelling.{Spells}
use Rattle.pnm_write.specs.Forms.{images_fault}
use Rattle.pnm_write.specs.Encoding.{encoding_of}

-- what is written of images that the form can hold is read again: it spells these images
abbrev pub WrittenIsReadAgain : Type 0
WrittenIsReadAgain =
    (form : Form) (is : List Image) → 0 < length is → AreImages is → AllByRecursion (λ i. 0 < i.head.shape.height) is
    → images_fault form is ≡ None
    → Spells (encoding_of form is) is
