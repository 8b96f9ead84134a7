use Rattle.pnm_flow.proofs.ToolRunSteps.{lanes_came_back, came_so}
use Rattle.pnm_flow.proofs.tool_run.run_tool.Goals as goal

-- over several lanes
pub returns-in_ok-beside-in-Lanes-clause-ran : goal.returns-in_ok-beside-in-Lanes-clause-ran
returns-in_ok-beside-in-Lanes-clause-ran g c =
    lanes_came_back c.args.lanes c.args.tool.now c.args.plan c.in-Lanes.rings c.in-Lanes.notify c.in-Lanes.notified c.args.input c.args.output
    c.in_ok-done-in-Lanes.done c.in_ok-done-in-Lanes-2.field-0 c.requires.plan c.in-Lanes.is c.in_ok-done-in-Lanes.ensures.0 c.in_ok-done-in-Lanes-2.was

pub returns-in_ok-beside-in-Lanes-clause-beside : goal.returns-in_ok-beside-in-Lanes-clause-beside
returns-in_ok-beside-in-Lanes-clause-beside g c =
    came_so (g.T.Task.run_gives c.args.beside) c.in_ok-done-in-Lanes.beside c.in_ok-beside-in-Lanes.field-0 c.in_ok-done-in-Lanes.ensures.1
    c.in_ok-beside-in-Lanes.was

-- a thread can't be started
pub returns-in_err-beside-in-Lanes-clause-ran : goal.returns-in_err-beside-in-Lanes-clause-ran
returns-in_err-beside-in-Lanes-clause-ran g c = rw c.from_residual-in_err-beside-in-Lanes.ensures tt

pub returns-in_err-beside-in-Lanes-clause-beside : goal.returns-in_err-beside-in-Lanes-clause-beside
returns-in_err-beside-in-Lanes-clause-beside g c = rw c.from_residual-in_err-beside-in-Lanes.ensures tt

pub returns-in_err-done-in-Lanes-2-clause-ran : goal.returns-in_err-done-in-Lanes-2-clause-ran
returns-in_err-done-in-Lanes-2-clause-ran g c = rw c.from_residual-in_err-done-in-Lanes-2.ensures tt

pub returns-in_err-done-in-Lanes-2-clause-beside : goal.returns-in_err-done-in-Lanes-2-clause-beside
returns-in_err-done-in-Lanes-2-clause-beside g c = rw c.from_residual-in_err-done-in-Lanes-2.ensures tt

pub returns-in_err-done-in-Lanes : goal.returns-in_err-done-in-Lanes
returns-in_err-done-in-Lanes g c = rw c.from_residual.ensures (record { ran = tt; beside = tt })
