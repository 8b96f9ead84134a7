-- Between functions: the picked image, from pamchannel(1): a PAM image of planes of the image, in the order in which
-- they are named.
use Rattle.std.specs.Prelude.{ℕ, ◌+◌, ◌*◌, List, map, slice_index_or}
use Rattle.std.specs.List.{flat_map, range_with_len}
use Rattle.pnm_image.specs.declared.shape.Shape.{Shape}

-- of each column of a row of this shape the planes that are picked, past the end of the row this sample
abbrev pub picked_or : {X : Type 0} → X → List ℕ → Shape → List X → List X
picked_or past numbers s row = flat_map (λ x. map (λ number. slice_index_or row (x * s.depth + number) past) numbers)
    (range_with_len 0 s.width)
