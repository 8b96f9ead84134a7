use Rattle.pnm_samples.proofs.Words.{◌∙◌, ◌<◌, sym, subst}
use Rattle.pnm_samples.proofs.BlockLaws.{mask_of_highest, mask_of_sixteen, sixteen_bits}
use Rattle.pnm_samples.proofs.block.highest_bits.Goals as goal

pub overflow_cast-result : goal.overflow_cast-result
overflow_cast-result c =
    record { fits = subst (λ n. n < 65536) (sym (mask_of_sixteen c.args.lanes c.requires.count)) (sixteen_bits c.args.lanes c.requires.count) }

pub returns : goal.returns
returns c = mask_of_sixteen c.args.lanes c.requires.count ∙ mask_of_highest c.args.lanes c.requires.bytes
