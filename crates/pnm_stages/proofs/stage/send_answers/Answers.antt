use Rattle.pnm_stages.proofs.Words.{messages_in, sent}
use Rattle.pnm_stages.proofs.RingSteps.{itself_output, same_output}
use Rattle.pnm_stages.proofs.SendingSteps.{sends_nothing_yet, sends_on, loses_answer, sends_all}
use Rattle.pnm_stages.proofs.stage.send_answers.Goals as goal

pub loop-answer-init : goal.loop-answer-init
loop-answer-init g c = (itself_output c.args.output.now, sends_nothing_yet)

pub loop-answer-preserved : goal.loop-answer-preserved
loop-answer-preserved g c = (
  same_output c.args.output.now c.loop-answer.output c.send.new.self c.loop-answer.invariant.0 c.send.ensures.ring,
  sends_on g.F.Filter.at g.F.Filter.stopped c.args.stage.now c.loop-answer.stage c.next.new.self (messages_in c.in-Some.answer)
      (sent c.args.output.now) (sent c.loop-answer.output) (sent c.send.new.self) c.loop-answer.invariant.1 c.in-Some.ensures.given
      (c.send.ensures.given c.if-not-send.false),
)

pub returns-then-not-send-clause-output : goal.returns-then-not-send-clause-output
returns-then-not-send-clause-output g c =
    same_output c.args.output.now c.loop-answer.output c.send.new.self c.loop-answer.invariant.0 c.send.ensures.ring

pub returns-then-not-send-clause-sent : goal.returns-then-not-send-clause-sent
returns-then-not-send-clause-sent g c = loses_answer g.F.Filter.at g.F.Filter.all_given g.F.Filter.stopped g.met.F.Filter.at_answers c.args.stage.now
    c.loop-answer.stage c.next.new.self (sent c.args.output.now) (sent c.loop-answer.output) (sent c.send.new.self) c.loop-answer.invariant.1
    (c.send.ensures.gone c.if-not-send.true)

pub returns-clause-output : goal.returns-clause-output
returns-clause-output g c = c.loop-answer.invariant.0

pub returns-clause-sent : goal.returns-clause-sent
returns-clause-sent g c = sends_all g.F.Filter.at g.F.Filter.all_given g.F.Filter.stopped g.met.F.Filter.at_answers c.args.stage.now c.loop-answer.stage
    c.next.new.self (sent c.args.output.now) (sent c.loop-answer.output) c.loop-answer.invariant.1 c.in_default.ensures.full
