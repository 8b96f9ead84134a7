-- What fits into a fixed buffer.
use Rattle.std.specs.Prelude.{ℕ, ◌≤◌, List, All}
use Rattle.pnm_image.specs.declared.sample_width.SampleWidth.{SampleWidth}
use Rattle.pnm_image.specs.declared.sample_width.SampleWidth.TheVariants.{Bits, Bytes, Words}

-- the most samples whose bytes fit into 4,096 bytes
abbrev pub most_samples : SampleWidth → ℕ
most_samples Bits = 32768
most_samples Bytes = 4096
most_samples Words = 2048

-- each sample fits its bytes
abbrev pub FitIn : SampleWidth → List ℕ → Type 0
FitIn Bits samples = Unit {0}
FitIn Bytes samples = All (λ sample. sample ≤ 255) samples
FitIn Words samples = Unit {0}
