use Rattle.pnm_flow.proofs.Words.{◌≡◌, arith, length, vec_capacity, as_many_run, came_back, has_run_more, HaveRun}
use Rattle.pnm_flow.proofs.ToolRunSteps.{came_so, none_left, ran_from_home}
use Rattle.pnm_flow.proofs.lanes.+fn-run_threads-Call+run_threads.Goals as goal

pub push_reserved-requires : goal.push_reserved-requires
push_reserved-requires g t c =
    let run = came_back c.args.tool.now c.pop.new.self.items c.args.outer (vec_capacity c.args.reserved) _ c.in_ok-done.rest c.in_ok-all.all c.in_ok-all.beside
    c.in_ok-done.ensures.1 c.in_ok-all.was in
    let count = as_many_run c.args.tool.now c.pop.new.self.items c.in_ok-all.all.lanes.items run.lanes_run in
    let ok = c.in_ok-all.all.lanes.ok in
    let fewer = c.in-Some.ensures.len in
    let reserved = run.for_lanes in
    let whole = c.pop.new.self.ok in
    omega (arith, ok, count, fewer, reserved, whole, c.args.lanes.ok, c.requires.reserved.1)

pub returns-clause-ran : goal.returns-clause-ran
returns-clause-ran g t c =
    let run = came_back c.args.tool.now c.pop.new.self.items c.args.outer (vec_capacity c.args.reserved) _ c.in_ok-done.rest c.in_ok-all.all c.in_ok-all.beside
    c.in_ok-done.ensures.1 c.in_ok-all.was in
    has_run_more c.args.tool.now c.args.lanes.items c.pop.new.self.items c.args.outer (vec_capacity c.args.reserved) c.in_ok-all.all c.push_reserved.new.self
    c.in-Some.ends c.in_ok-done.done run
    (ran_from_home c.args.tool.now c.in-Some.ends.input c.in-Some.ends.output c.set_home.new.self c.in_ok-done.done c.set_home.ensures.ring
    c.set_home.ensures.sent c.in_ok-done.ensures.0)
    c.in-Some.ensures.items c.push_reserved.ensures.items c.push_reserved.ensures.capacity

pub returns-clause-beside : goal.returns-clause-beside
returns-clause-beside g t c =
    (came_so (λ r. HaveRun c.args.tool.now c.pop.new.self.items c.args.outer (vec_capacity c.args.reserved) r.0 × g.T.Task.run_gives c.args.beside r.1)
    c.in_ok-done.rest (c.in_ok-all.all, c.in_ok-all.beside) c.in_ok-done.ensures.1 c.in_ok-all.was).1

-- a thread can't be started
pub returns-in_err-done-clause-ran : goal.returns-in_err-done-clause-ran
returns-in_err-done-clause-ran g t c = rw c.from_residual.ensures tt

pub returns-in_err-done-clause-beside : goal.returns-in_err-done-clause-beside
returns-in_err-done-clause-beside g t c = rw c.from_residual.ensures tt

pub returns-in_err-all-clause-ran : goal.returns-in_err-all-clause-ran
returns-in_err-all-clause-ran g t c = rw c.from_residual-in_err-all.ensures tt

pub returns-in_err-all-clause-beside : goal.returns-in_err-all-clause-beside
returns-in_err-all-clause-beside g t c = rw c.from_residual-in_err-all.ensures tt

-- no lane is left
pub returns-in_default-clause-ran : goal.returns-in_default-clause-ran
returns-in_default-clause-ran g t c =
    let none : length c.args.lanes.items ≡ 0 = omega (arith, c.args.lanes.ok, c.in_default.ensures.cases.0) in
    none_left c.args.tool.now c.args.lanes.items c.args.outer c.args.reserved c.deal_and_gather.result none c.requires.reserved.0 c.deal_and_gather.ensures.ran

pub returns-in_default-clause-beside : goal.returns-in_default-clause-beside
returns-in_default-clause-beside g t c = c.deal_and_gather.ensures.beside

pub deal_and_gather-requires-clause-shared : goal.deal_and_gather-requires-clause-shared
deal_and_gather-requires-clause-shared g t c = λ κs within. c.requires.shared.0

pub deal_and_gather-requires-clause-outer : goal.deal_and_gather-requires-clause-outer
deal_and_gather-requires-clause-outer g t c = λ κs within. c.requires.outer

pub deal_and_gather-requires-clause-beside : goal.deal_and_gather-requires-clause-beside
deal_and_gather-requires-clause-beside g t c = λ κs within. c.requires.beside
