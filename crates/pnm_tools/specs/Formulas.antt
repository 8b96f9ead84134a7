-- Images given by a formula: the sample of each column, row and plane.
use Rattle.std.specs.Prelude.{ℕ, List, map}
use Rattle.std.specs.List.{flat_map, range_with_len}
use Rattle.pnm_image.specs.declared.shape.Shape.{Shape}
use Rattle.pnm_image.specs.Heads.{HeadValue}
use Rattle.pnm_image.specs.Images.{Image}

-- the samples of a row: its columns from left to right, the planes of each in order
abbrev pub row_by : Shape → (ℕ → ℕ → ℕ) → List ℕ
row_by s sample = flat_map (λ x. map (λ p. sample x p) (range_with_len 0 s.depth)) (range_with_len 0 s.width)

-- the image of this head whose sample in a column, a row and a plane is this
abbrev pub image_by : HeadValue → (ℕ → ℕ → ℕ → ℕ) → Image
image_by head sample =
    record {
      head = head;
      samples = flat_map (λ y. row_by head.shape (λ x p. sample x y p)) (range_with_len 0 head.shape.height);
    }
