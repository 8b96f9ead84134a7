use Rattle.pnm_read.proofs.DecidedSteps.{ended_is_decided, fault_told, reading_more}
use Rattle.pnm_read.proofs.ends.is_decided.Goals as goal

pub returns-in-Ok-None-clause-decided : goal.returns-in-Ok-None-clause-decided
returns-in-Ok-None-clause-decided c = λ _.
    let told = rw c.in-Ok-None.field-0-is at c.in-Ok-None.ensures.told in
    ended_is_decided c.loop.invariant told c.next.ensures.unread

pub returns-in-Err-clause-decided : goal.returns-in-Err-clause-decided
returns-in-Err-clause-decided c = fault_told c.is_of_text.result c.loop.invariant c.in-Err.ensures.told c.next.ensures.unread c.is_of_text.ensures.own

pub loop-preserved : goal.loop-preserved
loop-preserved c =
    let told = rw c.in-Ok-Some.field-0-is at c.in-Ok-Some.ensures.told in
    reading_more c.args.text.now c.loop.source c.next.new.self c.in-Ok-Some.field-0-0 c.loop.invariant told c.next.ensures.end
