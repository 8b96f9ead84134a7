-- What a tool means: which options are lawful, and what it makes of an image, or why it refuses it; and by which rows
-- it answers the rows of an image and its end.
use Rattle.std.specs.Prelude.{ℕ, Bool, List, Result}
use Rattle.pnm_image.specs.declared.shape.Shape.{Shape}
use Rattle.pnm_image.specs.Heads.{HeadValue}
use Rattle.pnm_image.specs.Images.{Image}
use Rattle.pnm_tools.specs.declared.fault.ToolFault.{ToolFault}

pub record Meaning : Type 1 where
  -- the values of the options are in their ranges
  pub lawful : Type 0
  -- the rows of an image may be dealt to several of the tool, each of which sees an image of its own
  pub row_wise : Bool
  -- the head of the result, or the refusal
  pub head : HeadValue → Result HeadValue ToolFault
  -- the sample of the result in a column, a row and a plane
  pub sample : Image → ℕ → ℕ → ℕ → ℕ

-- when the rows of the result come
pub record RowRule : Type 0 where
  -- the rows that answer row y of an image of this shape, as soon as it comes
  pub row_answer : Shape → ℕ → List ℕ → List (List ℕ)
  -- the rows that answer the end of an image of this shape and of these rows
  pub end_answer : Shape → List (List ℕ) → List (List ℕ)
