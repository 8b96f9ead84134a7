-- What the numbers of a PNM header make. From pbm(5), pgm(5) and ppm(5).
use Rattle.std.specs.Prelude.{ℕ, List, [], ◌∷◌, slice_index}
use Rattle.pnm_image.specs.declared.shape.Shape.{Shape}
use Rattle.pnm_image.specs.declared.shape.Kind.{Kind}
use Rattle.pnm_image.specs.declared.shape.Kind.TheVariants.{Bit, Gray, Color, Pam}

-- how many numbers a PNM header has: the width, the height and, except for PBM, the maxval. PAM has another
-- header: what this and the following definitions say of it means nothing.
abbrev pub number_count : Kind → ℕ
number_count Bit = 2
number_count Gray = 3
number_count Color = 3
number_count Pam = 3

abbrev pub planes : Kind → ℕ
planes Bit = 1
planes Gray = 1
planes Color = 3
planes Pam = 1

-- the maxval: 1 for PBM, else the third number
abbrev pub maxval_of : Kind → List ℕ → ℕ
maxval_of Bit numbers = 1
maxval_of Gray numbers = slice_index numbers 2
maxval_of Color numbers = slice_index numbers 2
maxval_of Pam numbers = slice_index numbers 2

-- the shape that a header's numbers make
abbrev pub shape_of : Kind → List ℕ → Shape
shape_of kind numbers =
    record {
      kind = kind;
      width = slice_index numbers 0;
      height = slice_index numbers 1;
      depth = planes kind;
      maxval = maxval_of kind numbers;
    }

-- the numbers that a header of this shape has
abbrev pub header_numbers : Shape → List ℕ
header_numbers s = elim s.kind [
  | Bit ↦ s.width ∷ s.height ∷ []
  | Gray ↦ s.width ∷ s.height ∷ s.maxval ∷ []
  | Color ↦ s.width ∷ s.height ∷ s.maxval ∷ []
  | Pam ↦ s.width ∷ s.height ∷ s.maxval ∷ []
]
