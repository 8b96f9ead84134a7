-- The images and the rows of messages.
use Rattle.std.specs.Prelude.{ℕ, ◌+◌, ◌-◌, ◌^◌, min, List, [], ◌∷◌}
use Rattle.pnm_image.specs.declared.message.Message.{Message}
use Rattle.pnm_image.specs.declared.message.Message.TheVariants.{Begin, Row, ImageEnd, StreamEnd, Stop}

-- a count that stays at the greatest u64
abbrev pub saturate_u64 : ℕ → ℕ
saturate_u64 n = min n (2 ^ 64 - 1)

-- the images that have ended, after a message
abbrev pub image_count_after : ℕ → Message → ℕ
image_count_after images (Begin head) = images
image_count_after images (Row row) = images
image_count_after images ImageEnd = saturate_u64 (images + 1)
image_count_after images StreamEnd = images
image_count_after images Stop = images

-- the rows that have passed, after a message
abbrev pub row_count_after : ℕ → Message → ℕ
row_count_after rows (Begin head) = rows
row_count_after rows (Row row) = saturate_u64 (rows + 1)
row_count_after rows ImageEnd = rows
row_count_after rows StreamEnd = rows
row_count_after rows Stop = rows

abbrev pub images_in : ℕ → List Message → ℕ
images_in images [] = images
images_in images (m ∷ ms) = images_in (image_count_after images m) ms

abbrev pub rows_in : ℕ → List Message → ℕ
rows_in rows [] = rows
rows_in rows (m ∷ ms) = rows_in (row_count_after rows m) ms
