use Rattle.pnm_flow.proofs.Words.{refl, inl, inr}
use Rattle.pnm_flow.proofs.ToolSteps.{fresh_at}
use Rattle.pnm_flow.proofs.serial.run_serial_over.Goals as goal

-- there is no memory for the list of the tools
pub returns-in-Err-clause-ran : goal.returns-in-Err-clause-ran
returns-in-Err-clause-ran g c =
    rw c.in-Err.ensures.refused (inr (refl, refl, refl))

-- the filters of the tools have run
pub returns-clause-ran : goal.returns-clause-ran
returns-clause-ran g c =
    inl (c.run_filters.ensures.ran c.args.tools.now c.requires.lawful
    (fresh_at c.as_mut_slice.result.now c.args.tools.now (rw (← c.as_mut_slice.ensures.value) at c.in-Ok.ensures.fresh)))
