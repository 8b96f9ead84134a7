use Rattle.pnm_flow.proofs.threaded.beside_chain.Goals as goal

pub returns-clause-stepped : goal.returns-clause-stepped
returns-clause-stepped g c =
    let stepped = rw (c.in_ok-io_loop.ensures.0, c.in_ok-io_loop.ensures.1) at c.in-Ok.ensures.beside.0 in
    rw (c.into_inner.ensures, c.into_inner-2.ensures) stepped

pub returns-clause-input : goal.returns-clause-input
returns-clause-input g c = c.in-Ok.ensures.input

pub returns-clause-output : goal.returns-clause-output
returns-clause-output g c = c.in-Ok.ensures.output

pub returns-clause-ran : goal.returns-clause-ran
returns-clause-ran g c = c.in-Ok.ensures.ran

-- there is no memory, or a thread can't be started
pub returns-in_err-io_loop : goal.returns-in_err-io_loop
returns-in_err-io_loop g c = rw c.from_residual.ensures (record { input = tt; output = tt; ran = tt; stepped = tt })

pub returns-in-Err : goal.returns-in-Err
returns-in-Err g c = record { input = tt; output = tt; ran = tt; stepped = tt }
