use Rattle.pnm_stages.proofs.Words.{rules}
use Rattle.pnm_stages.proofs.RingSteps.{same_output}
use Rattle.pnm_stages.proofs.stage.run_filter.Goals as goal

pub returns-clause-input : goal.returns-clause-input
returns-clause-input g c = c.pass_all-end.ensures.input

pub returns-clause-output : goal.returns-clause-output
returns-clause-output g c =
    same_output c.args.output c.coalesce_wakes.new.self c.pass_all-end.new.output c.coalesce_wakes.ensures.ring c.pass_all-end.ensures.output

pub returns-clause-ran : goal.returns-clause-ran
returns-clause-ran g c = search rules
