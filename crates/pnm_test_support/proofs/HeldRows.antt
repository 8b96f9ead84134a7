-- Rows of packed pixels, and rows that are cut.
use Rattle.std.proofs.Common.{ℕ, zero, suc, ◌≤◌, List, take, drop, All, arith}
use Rattle.std.proofs.lemmas.List.Elements.{All-cons, All-drop, All-nil, All-take}
use Rattle.pnm_samples.specs.Cuts.{cut_rows}
use Rattle.pnm_samples.specs.Pixels.{all_pixels}
use Rattle.pnm_samples.specs.PixelRows.{bytes_for, rows_of_bytes}
use Rattle.pnm_samples.proofs.PixelRowLaws.{byte_pixels_within}
use Rattle.pnm_image.specs.HeldRows.{AreRowsWithin}

-- no sample of rows of packed pixels is above 1
pub bits_within : (count each : ℕ) (bytes : List ℕ) → AreRowsWithin 1 (rows_of_bytes count each bytes)
bits_within zero each bytes = All-nil (λ (row : List ℕ). All (λ sample. sample ≤ 1) row)
bits_within (suc count) each bytes =
    All-cons (λ (row : List ℕ). All (λ sample. sample ≤ 1) row) (take each (all_pixels bytes)) (rows_of_bytes count each (drop (bytes_for each) bytes))
    (byte_pixels_within each 1 bytes (omega arith)) (bits_within count each (drop (bytes_for each) bytes))

-- rows that are cut have no sample above what none of the samples is above
pub cut_within : (count each most : ℕ) (samples : List ℕ) → All (λ sample. sample ≤ most) samples → AreRowsWithin most (cut_rows count each samples)
cut_within zero each most samples h = All-nil (λ (row : List ℕ). All (λ sample. sample ≤ most) row)
cut_within (suc count) each most samples h =
    All-cons (λ (row : List ℕ). All (λ sample. sample ≤ most) row) (take each samples) (cut_rows count each (drop each samples))
    (All-take (λ sample. sample ≤ most) each samples h) (cut_within count each most (drop each samples) (All-drop (λ sample. sample ≤ most) each samples h))
