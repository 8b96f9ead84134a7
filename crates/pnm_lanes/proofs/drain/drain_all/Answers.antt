use Rattle.pnm_lanes.proofs.Words.{arith}
use Rattle.pnm_lanes.proofs.LaneLists.{are_themselves}
use Rattle.pnm_lanes.proofs.DrainSteps.{carries_nothing, tried_both}
use Rattle.pnm_lanes.proofs.drain.drain_all.Goals as goal

pub loop-init : goal.loop-init
loop-init g c = (
  are_themselves c.args.inputs.now,
  carries_nothing,
)

pub returns-in-Some-outcome-clause-inputs : goal.returns-in-Some-outcome-clause-inputs
returns-in-Some-outcome-clause-inputs g c =
    (tried_both c.args.inputs.now c.loop.inputs c.drain_round-has_moved.new.inputs
    c.loop.invariant c.drain_round-has_moved.ensures.inputs c.drain_round-has_moved.ensures.carried).0

pub returns-in-Some-outcome-clause-drained : goal.returns-in-Some-outcome-clause-drained
returns-in-Some-outcome-clause-drained g c = record {
  carried = (tried_both c.args.inputs.now c.loop.inputs c.drain_round-has_moved.new.inputs
      c.loop.invariant c.drain_round-has_moved.ensures.inputs c.drain_round-has_moved.ensures.carried).1;
  done = λ lane below. c.in-Some-outcome.ensures.done lane (omega arith);
}

pub loop-preserved-then-not-has_moved : goal.loop-preserved-then-not-has_moved
loop-preserved-then-not-has_moved g c =
    tried_both c.args.inputs.now c.loop.inputs c.drain_round-has_moved.new.inputs
    c.loop.invariant c.drain_round-has_moved.ensures.inputs c.drain_round-has_moved.ensures.carried

pub loop-preserved : goal.loop-preserved
loop-preserved g c =
    tried_both c.args.inputs.now c.loop.inputs c.drain_round-has_moved.new.inputs
    c.loop.invariant c.drain_round-has_moved.ensures.inputs c.drain_round-has_moved.ensures.carried
