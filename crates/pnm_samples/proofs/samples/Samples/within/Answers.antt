use Rattle.pnm_samples.proofs.samples.Samples.within.Goals as goal

pub invariant_of-result : goal.invariant_of-result
invariant_of-result c = c.requires
