use Rattle.pnm_flow.proofs.lanes.run_lanes.Goals as goal

pub returns-in-Some-run_lanes_beside : goal.returns-in-Some-run_lanes_beside
returns-in-Some-run_lanes_beside g c = record {
  input = c.in-Some-run_lanes_beside.ensures.input;
  output = c.in-Some-run_lanes_beside.ensures.output;
  ran = c.in-Some-run_lanes_beside.ensures.ran;
  not_started = tt;
}

-- a thread can't be started
pub returns-in-None : goal.returns-in-None
returns-in-None g c = record { input = tt; output = tt; ran = tt; not_started = tt }
