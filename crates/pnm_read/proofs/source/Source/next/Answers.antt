use Rattle.pnm_read.proofs.Words.{◌≡◌, inr, ReadFailed}
use Rattle.pnm_read.proofs.SourceSteps.{tells_next, tells_fault, tells_no_more, tells_again, state_told, some_messages, ended_after, end_stays, never_stop}
use Rattle.pnm_read.proofs.SourceSteps.{not_at_end}
use Rattle.pnm_read.proofs.StreamLaws.{any_may_come}
use Rattle.pnm_read.proofs.source.Source.next.Goals as goal

pub returns-in-Ok-clause-told : goal.returns-in-Ok-clause-told
returns-in-Ok-clause-told g c =
    tells_next c.args.self.now c.go_on.new.self c.in-Awaits.awaited c.in-Ok.packet c.in-Awaits.is c.in-Ok.ensures

pub returns-in-Ok-clause-some : goal.returns-in-Ok-clause-some
returns-in-Ok-clause-some g c =
    let state = c.go_on.new.self.state in
    some_messages c.in-Ok.packet state (state_told c.in-Awaits.awaited state c.in-Ok.ensures)

pub returns-in-Ok-clause-no_stop : goal.returns-in-Ok-clause-no_stop
returns-in-Ok-clause-no_stop g c =
    let state = c.go_on.new.self.state in
    never_stop c.in-Ok.packet state (state_told c.in-Awaits.awaited state c.in-Ok.ensures)

pub returns-in-Ok-clause-end : goal.returns-in-Ok-clause-end
returns-in-Ok-clause-end g c = end_stays c.args.self.now c.go_on.new.self c.in-Ok.ensures

pub returns-in-Ok-clause-unread : goal.returns-in-Ok-clause-unread
returns-in-Ok-clause-unread g c = λ seen. any_may_come g.R.BytesIn.left c.go_on.new.self (end_stays c.args.self.now c.go_on.new.self c.in-Ok.ensures seen)

pub returns-in-Ok-clause-ended : goal.returns-in-Ok-clause-ended
returns-in-Ok-clause-ended g c =
    let state = c.go_on.new.self.state in
    ended_after c.in-Ok.packet state (state_told c.in-Awaits.awaited state c.in-Ok.ensures)

pub returns-in-Err-clause-told : goal.returns-in-Err-clause-told
returns-in-Err-clause-told g c =
    tells_fault c.args.self.now _ c.in-Awaits.awaited c.go_on.new.self.state c.in-Err.fault c.in-Awaits.is c.in-Err.ensures

pub returns-in-Err-clause-end : goal.returns-in-Err-clause-end
returns-in-Err-clause-end g c = end_stays c.args.self.now _ c.in-Err.ensures

pub returns-in-Err-clause-unread : goal.returns-in-Err-clause-unread
returns-in-Err-clause-unread g c = λ seen. any_may_come g.R.BytesIn.left _ (end_stays c.args.self.now _ c.in-Err.ensures seen)

pub returns-in-Err-clause-not_at_end : goal.returns-in-Err-clause-not_at_end
returns-in-Err-clause-not_at_end g c = λ e.
    let same : c.in-Err.fault ≡ ReadFailed = cc in
    inr (not_at_end c.args.self.now _ c.in-Err.ensures same)

pub returns-in-Ended-clause-told : goal.returns-in-Ended-clause-told
returns-in-Ended-clause-told g c = tells_no_more c.in-Ended.is

pub returns-in-Ended-clause-unread : goal.returns-in-Ended-clause-unread
returns-in-Ended-clause-unread g c = any_may_come g.R.BytesIn.left c.args.self.now

pub returns-in-Failed-clause-told : goal.returns-in-Failed-clause-told
returns-in-Failed-clause-told g c = tells_again c.in-Failed.is

pub returns-in-Failed-clause-unread : goal.returns-in-Failed-clause-unread
returns-in-Failed-clause-unread g c = any_may_come g.R.BytesIn.left c.args.self.now
