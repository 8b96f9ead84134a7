use Rattle.pnm_flow.proofs.chain.run_chain.Goals as goal

pub returns-in-Ok : goal.returns-in-Ok
returns-in-Ok g c = record { input = c.in-Ok.ensures.input; output = c.in-Ok.ensures.output; ran = c.in-Ok.ensures.ran; not_started = tt }

pub returns-in-Err : goal.returns-in-Err
returns-in-Err g c = record { input = tt; output = tt; ran = tt; not_started = c.in-Err.ensures.not_started }
