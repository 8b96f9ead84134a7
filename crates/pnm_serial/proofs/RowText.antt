-- The bytes that are written of a raw row are those that a reader takes for one, and give the row again.
use Rattle.pnm_serial.proofs.Words.{◌≡◌, ℕ, ◌+◌, ◌*◌, ◌/◌, ◌≤◌, Bool, true, false, nat_lt, if◌then◌else◌, List, [], ◌∷◌, length, take, flat_map, All, refl, sym}
use Rattle.pnm_serial.proofs.Words.{ap, ap₂, subst, ◌∙◌, arith, div-add-mod, Shape, Kind, Bit, Gray, Color, Pam, Raw, HeadValue, IsHead, Suits, row_length}
use Rattle.pnm_serial.proofs.Words.{IsRowOf, Bits, Bytes, Words, pixels, raw_samples, bytes_in_row, packed_bytes, wide_bytes, bytes_in, row_bytes}
use Rattle.pnm_serial.proofs.Words.{length-packed_bytes, ArePixels, pixels_of_groups}
use Rattle.pnm_read.specs.Rasters.{wide_samples}
use Rattle.pnm_image.specs.declared.sample_width.SampleWidth.TheVariants as written

-- so many bytes, of which a reader makes these samples
abbrev GivesAgain : ℕ → List ℕ → List ℕ → List ℕ → Type 0
GivesAgain count bytes samples row = (length bytes ≡ count) × (samples ≡ row)

-- ---- by the width of its samples

length-wide_bytes : (row : List ℕ) → length (wide_bytes row) ≡ 2 * length row
length-wide_bytes [] = refl
length-wide_bytes (sample ∷ row) = omega (arith, length-wide_bytes row)

wide_again : (row : List ℕ) → wide_samples (wide_bytes row) ≡ row
unfolding wide_samples
wide_again [] = refl
wide_again (sample ∷ row) = ap₂ (λ (x : ℕ) (l : List ℕ). x ∷ l) (div-add-mod sample 256) (wide_again row)

packed_again : (width : ℕ) (row : List ℕ) → length row ≡ width → ArePixels row
    → GivesAgain ((width + 7) / 8) (packed_bytes row) (take width (flat_map pixels (packed_bytes row))) row
packed_again width row count range = (
  length-packed_bytes row ∙ ap (λ (n : ℕ). (n + 7) / 8) count,
  ap (λ (n : ℕ). take n (flat_map pixels (packed_bytes row))) (sym count) ∙ pixels_of_groups ((length row + 7) / 8) row (omega arith) range,
)

-- a byte or two a sample, by whether the maxval fits a byte
numbers_again : (narrow : Bool) (s : Shape) (row : List ℕ) → length row ≡ row_length s
    → (let bytes : List ℕ = bytes_in (if narrow then written.Bytes else written.Words) row in
    GivesAgain
    (elim (if narrow then Bytes else Words) [ Bits ↦ (s.width + 7) / 8 | Bytes ↦ row_length s | Words ↦ 2 * row_length s ])
    bytes
    (elim (if narrow then Bytes else Words) [ Bits ↦ take s.width (flat_map pixels bytes) | Bytes ↦ bytes | Words ↦ wide_samples bytes ])
    row)
numbers_again true s row count = (count, refl)
numbers_again false s row count = (length-wide_bytes row ∙ ap (λ (n : ℕ). 2 * n) count, wide_again row)

-- ---- by the kind

-- what is known of a row of PBM
pixels_range : {maxval : ℕ} (row : List ℕ) → maxval ≡ 1 → All (λ sample. sample ≤ maxval) row → ArePixels row
pixels_range row e range = subst (λ (n : ℕ). All (λ sample. sample ≤ n) row) e range

pixels_count : (width : ℕ) {depth n : ℕ} → depth ≡ 1 → n ≡ width * depth → n ≡ width
pixels_count width e count = count ∙ ap (λ (d : ℕ). width * d) e ∙ omega arith

row_by : (kind : Kind) (width height depth maxval : ℕ) (tuple_type : List ℕ)
    → (let s : Shape = record { kind = kind; width = width; height = height; depth = depth; maxval = maxval } in
    Suits kind depth maxval tuple_type → (row : List ℕ) → IsRowOf s row
    → GivesAgain (bytes_in_row s) (row_bytes Raw s row) (raw_samples s (row_bytes Raw s row)) row)
row_by Bit width height depth maxval tuple_type suits row is = packed_again width row (pixels_count width suits.0 is.count) (pixels_range row suits.1 is.range)
row_by Gray width height depth maxval tuple_type suits row is =
    numbers_again (nat_lt maxval 256) (record { kind = Gray; width = width; height = height; depth = depth; maxval = maxval }) row is.count
row_by Color width height depth maxval tuple_type suits row is =
    numbers_again (nat_lt maxval 256) (record { kind = Color; width = width; height = height; depth = depth; maxval = maxval }) row is.count
row_by Pam width height depth maxval tuple_type suits row is =
    numbers_again (nat_lt maxval 256) (record { kind = Pam; width = width; height = height; depth = depth; maxval = maxval }) row is.count

-- the bytes of a row are as many as a reader takes for one, and the samples in them are the row's
pub record RowIsReadAgain (s : Shape) (row : List ℕ) : Type 0 where
  pub count : length (row_bytes Raw s row) ≡ bytes_in_row s
  pub samples : raw_samples s (row_bytes Raw s row) ≡ row

pub row_is_read_again : {head : HeadValue} → IsHead head → {row : List ℕ} → IsRowOf head.shape row → RowIsReadAgain head.shape row
row_is_read_again {head} sound {row} is =
    let again = row_by head.shape.kind head.shape.width head.shape.height head.shape.depth head.shape.maxval head.tuple_type sound.suits row is in
    record { count = again.0; samples = again.1 }
