-- The samples that a row holds.
use Rattle.std.specs.Prelude.{ℕ, List, take}
use Rattle.pnm_samples.specs.Pixels.{all_pixels, ArePacked}
use Rattle.pnm_samples.specs.declared.samples.SampleVec.{SampleVec}
use Rattle.pnm_samples.specs.declared.samples.SampleVec.TheVariants.{Bits, Bytes, Words}
use Rattle.pnm_samples.specs.declared.samples.SampleSlice.{SampleSlice}
use Rattle.pnm_samples.specs.declared.samples.SampleSlice.TheVariants.{Bits as SliceBits, Bytes as SliceBytes}
use Rattle.pnm_samples.specs.declared.samples.SampleSlice.TheVariants.{Words as SliceWords}

abbrev pub samples_of : SampleVec → List ℕ
samples_of (Bits bits) = bits
samples_of (Bytes bytes) = bytes.items
samples_of (Words words) = words.items

abbrev pub slice_samples : SampleSlice → List ℕ
slice_samples (SliceBits bytes count) = take count (all_pixels bytes.now)
slice_samples (SliceBytes bytes) = bytes.now
slice_samples (SliceWords words) = words.now

-- what is lent of pixels has no byte more than they need, and the spare bits of the last one are white
abbrev pub HasWhiteSpare : SampleSlice → Type 0
HasWhiteSpare (SliceBits bytes count) = ArePacked count bytes.now
HasWhiteSpare (SliceBytes bytes) = Unit {0}
HasWhiteSpare (SliceWords words) = Unit {0}
