use Rattle.pnm_stages.proofs.Words.{refl, messages_in, ending_of_packet, unfed_in, sent}
use Rattle.pnm_stages.proofs.RingSteps.{itself_output, same_output}
use Rattle.pnm_stages.proofs.PassingSteps.{feeds_nothing_yet, feeds_more, loses_rest, drops_rest}
use Rattle.pnm_stages.proofs.stage.pass.Goals as goal

pub loop-alloc-init : goal.loop-alloc-init
loop-alloc-init g c = (
  itself_output c.args.output.now,
  feeds_nothing_yet g.F.Filter.at g.F.Filter.all_given g.F.Filter.stopped c.args.stage.now (messages_in c.args.packet) (unfed_in c.of-unfed.result)
      (sent c.args.output.now) c.of-unfed.ensures,
)

pub loop-alloc-smaller : goal.loop-alloc-smaller
loop-alloc-smaller g c = c.loop-alloc-test.ensures.fewer refl

pub loop-alloc-preserved : goal.loop-alloc-preserved
loop-alloc-preserved g c = (
  same_output c.args.output.now c.loop-alloc.output c.send_answers.new.output c.loop-alloc.invariant.0 c.send_answers.ensures.output,
  feeds_more g.F.Filter.at g.F.Filter.all_given g.F.Filter.stopped c.args.stage.now c.loop-alloc.stage c.feed_next.new.self c.send_answers.new.stage
      (messages_in c.args.packet) (unfed_in c.loop-alloc.unfed) (unfed_in c.feed_next.new.unfed) (sent c.args.output.now) (sent c.loop-alloc.output)
      (sent c.send_answers.new.output) c.loop-alloc.invariant.1 (c.loop-alloc-test.ensures.fed refl) c.if-not-send_answers.ensures.sent,
)

pub returns-then-not-send_answers-clause-output : goal.returns-then-not-send_answers-clause-output
returns-then-not-send_answers-clause-output g c =
    same_output c.args.output.now c.loop-alloc.output c.send_answers.new.output c.loop-alloc.invariant.0 c.send_answers.ensures.output

pub returns-then-not-send_answers-clause-passed : goal.returns-then-not-send_answers-clause-passed
returns-then-not-send_answers-clause-passed g c = loses_rest c.loop-alloc.invariant.1 (c.loop-alloc-test.ensures.fed refl) c.if-not-send_answers.ensures.sent

pub returns-clause-output : goal.returns-clause-output
returns-clause-output g c = c.loop-alloc.invariant.0

pub returns-clause-passed : goal.returns-clause-passed
returns-clause-passed g c = drops_rest (ending_of_packet c.args.packet) c.requires c.loop-alloc.invariant.1 (c.loop-alloc-test.ensures.dropped refl)
