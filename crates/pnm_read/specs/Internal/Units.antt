-- The units of a row.
use Rattle.std.specs.Prelude.{ℕ, ◌≤◌, List, All}
use Rattle.pnm_samples.specs.Pixels.{all_pixels}
use Rattle.pnm_image.specs.declared.sample_width.SampleWidth.{SampleWidth}
use Rattle.pnm_image.specs.declared.sample_width.SampleWidth.TheVariants.{Bits, Bytes, Words}

-- the samples of bytes that are units each, with those of spare bits; what this says of wide samples means nothing
abbrev pub samples_of_bytes : SampleWidth → List ℕ → List ℕ
samples_of_bytes Bits bytes = all_pixels bytes
samples_of_bytes Bytes bytes = bytes
samples_of_bytes Words bytes = bytes

-- none of them is a sample above the maxval; a byte of eight pixels is none
abbrev pub AreBytesWithin : SampleWidth → ℕ → List ℕ → Type 0
AreBytesWithin Bits maxval bytes = Unit {0}
AreBytesWithin Bytes maxval bytes = All (λ sample. sample ≤ maxval) bytes
AreBytesWithin Words maxval bytes = All (λ sample. sample ≤ maxval) bytes
