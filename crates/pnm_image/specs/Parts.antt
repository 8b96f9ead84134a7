-- A part of an image, as messages.
use Rattle.std.specs.Prelude.{ℕ, Bool, true, false, List, [], ◌∷◌, ◌++◌, Option, Some, None}
use Rattle.pnm_image.specs.declared.message.Message.{Message}
use Rattle.pnm_image.specs.declared.message.Message.TheVariants.{Begin, ImageEnd}
use Rattle.pnm_image.specs.Heads.{HeadValue}
use Rattle.pnm_image.specs.Rows.{row_messages, rows_list}

-- the head of an image, if it comes
abbrev pub head_messages : Option HeadValue → List Message
head_messages None = []
head_messages (Some head) = Begin head ∷ []

-- the end of an image, if it comes
abbrev pub end_messages : Bool → List Message
end_messages false = []
end_messages true = ImageEnd ∷ []

-- rows of an image, if some come, and its end
abbrev pub rest_messages : Option (List (List ℕ)) → Bool → List Message
rest_messages rows ends = row_messages (rows_list rows) ++ end_messages ends

-- the head of an image, rows of it, and its end
abbrev pub part_messages : Option HeadValue → Option (List (List ℕ)) → Bool → List Message
part_messages head rows ends = head_messages head ++ rest_messages rows ends

-- a part, or none
abbrev pub part_list : Option (List Message) → List Message
part_list None = []
part_list (Some part) = part
