use Rattle.pnm_flow.proofs.Words.{arith, length, vec_capacity, as_many_unused, pairs_after}
use Rattle.pnm_flow.proofs.lanes.run_lanes_beside.Goals as goal

pub run_threads-requires-clause-outer : goal.run_threads-requires-clause-outer
run_threads-requires-clause-outer g c κs within =
    let rings = c.args.rings in
    let many = as_many_unused rings.outputs.items rings.lanes.items rings.inputs.items c.requires.rings.0 in
    let few = c.requires.rings.1 in
    ((omega (arith, many.0, few.0), omega (arith, many.0, few.1)), omega (arith, many.0, many.1))

pub merged-requires : goal.merged-requires
merged-requires g c =
    let rings = c.args.rings in
    let run = c.in_ok-done.ensures.ran in
    record {
      rings = pairs_after c.args.tool.now c.in_ok-done.done.dealt.end (length rings.outputs.items) 0 run.dealt.took rings.outputs.items
          c.in_ok-done.done.dealt.outputs.items rings.lanes.items c.in_ok-done.done.lanes.items rings.inputs.items c.in_ok-done.done.gathered.inputs.items
          c.requires.rings.0 run.dealt.lanes run.lanes_run run.inputs;
    }

pub returns-clause-ran : goal.returns-clause-ran
returns-clause-ran g c =
    let rings = c.args.rings in
    c.merged.ensures.ran c.args.tool.now rings.lanes.items _ (vec_capacity rings.reserved) c.requires.lawful c.requires.row_wise
    (omega (arith, c.requires.rings.1.0)) c.requires.rings.0 c.in_ok-done.ensures.ran

pub returns-clause-beside : goal.returns-clause-beside
returns-clause-beside g c = c.in_ok-done.ensures.beside

-- a thread can't be started
pub returns-in_err-done : goal.returns-in_err-done
returns-in_err-done g c = rw c.from_residual.ensures (record { input = tt; output = tt; ran = tt; beside = tt })
