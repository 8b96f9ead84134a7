use Rattle.pnm_read.proofs.Words.{Ok, inr, err_from_is_err_and, ReadFailed}
use Rattle.pnm_read.proofs.ReadCalls.{call_then, call_ok_so, call_err_so, no_fault}
use Rattle.pnm_read.proofs.AwaitedSteps.{at_end_so, next_so}
use Rattle.pnm_read.proofs.source.Source.follow.Goals as goal

pub returns-in_err-is_at_end : goal.returns-in_err-is_at_end
returns-in_err-is_at_end g c =
    let k = c.in_err-is_at_end.field-0.0 in
    let p = err_from_is_err_and c.from_residual.result c.from_residual.ensures.1 in
    rw (p.1, p.2) (call_err_so (λ b a o. inr o) c.in_err-is_at_end.ensures)

pub returns-then-branch : goal.returns-then-branch
returns-then-branch g c =
    let packet = c.end.result in
    rw c.end.ensures.input (call_ok_so (Ok packet) (no_fault packet ReadFailed)
    (λ b a o. at_end_so c.in_ok-is_at_end.field-0 b a c.if-branch.true o c.end.ensures.packet c.end.ensures.state) c.in_ok-is_at_end.ensures)

pub returns : goal.returns
returns g c =
    next_so c.begin.result c.begin.new.self.state c.if-branch.false
    (call_then c.in_ok-is_at_end.field-0 g.met.R.BytesIn.same_later c.in_ok-is_at_end.ensures c.begin.ensures)
