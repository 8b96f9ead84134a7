-- How the samples of a raw row lie in its bytes. From pbm(5), pgm(5), ppm(5) and pam(5), 'The layout' of the raw
-- formats.
use Rattle.std.specs.Prelude.{ℕ, nat_lt, if◌then◌else◌}
use Rattle.pnm_image.specs.declared.sample_width.SampleWidth.{SampleWidth}
use Rattle.pnm_image.specs.declared.sample_width.SampleWidth.TheVariants.{Bits, Bytes, Words}
use Rattle.pnm_image.specs.declared.shape.Kind.{Kind}
use Rattle.pnm_image.specs.declared.shape.Kind.TheVariants.{Bit, Gray, Color, Pam}

-- eight pixels a byte, a byte a sample, or two
abbrev pub sample_width_of : Kind → ℕ → SampleWidth
sample_width_of Bit maxval = Bits
sample_width_of Gray maxval = if nat_lt maxval 256 then Bytes else Words
sample_width_of Color maxval = if nat_lt maxval 256 then Bytes else Words
sample_width_of Pam maxval = if nat_lt maxval 256 then Bytes else Words
