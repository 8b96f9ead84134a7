use Rattle.pnm_row_tools.proofs.ValueLaws.{Changed}
use Rattle.pnm_row_tools.proofs.change.change_each.Given as goal

-- the samples that have passed are changed
abbrev pub invariant-loop-sample : goal.invariant-loop-sample
invariant-loop-sample g l =
    Changed g.W.Width.value (λ sample. g.C.Change.changed l.change (g.W.Width.value sample)) l.sample-index l.initial.samples l.samples
