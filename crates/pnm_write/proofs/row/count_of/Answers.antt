use Rattle.pnm_write.proofs.Words.{◌∙◌, ap, length, subst, HasWhiteSpare, slice_samples, SampleSlice, length_of_packed}
use Rattle.pnm_write.proofs.row.count_of.Goals as goal

pub returns-in-Bits : goal.returns-in-Bits
returns-in-Bits c =
    ap (λ (row : SampleSlice). length (slice_samples row)) c.in-Bits.is
    ∙ length_of_packed c.in-Bits.count c.in-Bits.field-0.now (subst HasWhiteSpare c.in-Bits.is c.requires)
