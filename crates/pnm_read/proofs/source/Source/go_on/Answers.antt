use Rattle.pnm_read.proofs.Words.{Ok, [], refl, ReadFailed}
use Rattle.pnm_read.proofs.ReadCalls.{call_ok_so, call_taken, no_fault}
use Rattle.pnm_read.proofs.AwaitedSteps.{first_call, plain_ends}
use Rattle.pnm_read.proofs.source.Source.go_on.Goals as goal

pub returns-in-FirstImage : goal.returns-in-FirstImage
returns-in-FirstImage g c = rw c.in-FirstImage.is (first_call c.begin.result c.begin.new.self.state c.begin.ensures)

pub returns-in-End : goal.returns-in-End
returns-in-End g c =
    let packet = c.end.result in
    rw (c.in-End.is, c.end.ensures.input) (call_ok_so (Ok packet) (no_fault packet ReadFailed)
    (λ b a o. plain_ends b a c.end.ensures.packet c.end.ensures.state)
    (call_taken {A = Unit {0}} {result = Ok tt} [] g.met.R.BytesIn.same_at_once (no_fault tt ReadFailed) refl refl refl))

pub returns-in-Row : goal.returns-in-Row
returns-in-Row g c = rw c.in-Row.is c.give_rows.ensures
