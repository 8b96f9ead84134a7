-- Between functions: the flipped image, from pamflip(1): the same, flipped left for right, flipped top for bottom,
-- transposed, columns and rows exchanged, or turned counterclockwise by one, two or three quarters.
use Rattle.std.specs.Prelude.{ℕ, ◌-◌, if◌then◌else◌, Bool}
use Rattle.pnm_image.specs.Heads.{HeadValue}
use Rattle.pnm_image.specs.Images.{Image, sample_at}
use Rattle.pnm_tools.specs.declared.flip.Transform.{Transform}
use Rattle.pnm_tools.specs.Flip.{transposed_head_value}

-- ---- what a rule makes of an image

-- the place that comes to the k-th one of n, where their order is reversed or not
abbrev pub place_in : Bool → ℕ → ℕ → ℕ
place_in reversed n k = if reversed then n - 1 - k else k

-- the sample of the result in a column, a row and a plane
abbrev pub transformed_sample : Transform → Image → ℕ → ℕ → ℕ → ℕ
transformed_sample t i x y p =
    sample_at i (place_in t.columns_reversed i.head.shape.width (if t.exchanged then y else x))
    (place_in t.rows_reversed i.head.shape.height (if t.exchanged then x else y)) p

abbrev pub transformed_head_value : Transform → HeadValue → HeadValue
transformed_head_value t head = if t.exchanged then transposed_head_value head else head
