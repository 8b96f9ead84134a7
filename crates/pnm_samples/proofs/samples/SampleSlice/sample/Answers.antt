use Rattle.pnm_samples.proofs.Words.{length, ap, arith, length-take, all_pixels, slice_samples}
use Rattle.pnm_samples.proofs.PixelLaws.{length-all_pixels}
use Rattle.pnm_samples.proofs.samples.SampleSlice.sample.Goals as goal

pub pixel_of-requires : goal.pixel_of-requires
pixel_of-requires c =
    let bytes = c.in-Bits.bytes.now in
    omega (arith, c.requires, ap (λ s. length (slice_samples s)) c.in-Bits.is, length-take c.in-Bits.field-1 (all_pixels bytes), length-all_pixels bytes)
