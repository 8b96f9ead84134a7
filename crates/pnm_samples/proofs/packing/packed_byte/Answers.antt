use Rattle.pnm_samples.proofs.Words.{sym}
use Rattle.pnm_samples.proofs.PackLaws.{byte_of_eight}
use Rattle.pnm_samples.proofs.packing.packed_byte.Goals as goal

pub returns : goal.returns
returns c = rw (
  c.black.ensures.bit,
  c.black-2.ensures.bit,
  c.black-3.ensures.bit,
  c.black-4.ensures.bit,
  c.black-5.ensures.bit,
  c.black-6.ensures.bit,
  c.black-7.ensures.bit,
  c.black-8.ensures.bit,
) (sym (byte_of_eight c.args.pixels.now c.requires))
