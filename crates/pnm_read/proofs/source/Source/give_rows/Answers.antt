use Rattle.pnm_read.proofs.Words.{[], Ok, refl, ◌∙◌, err_from_is_err_and, ReadFailed}
use Rattle.pnm_read.proofs.ReadCalls.{call_ok_so, call_err_so, no_fault}
use Rattle.pnm_read.proofs.source.Source.give_rows.Goals as goal

pub returns-in_err-rows : goal.returns-in_err-rows
returns-in_err-rows g c =
    let k = c.in_err-rows.field-0.0 in
    let p = err_from_is_err_and c.from_residual.result c.from_residual.ensures.1 in
    rw (p.1, p.2) (call_err_so (λ b a o. o) c.in_err-rows.ensures)

pub part-requires-clause-some : goal.part-requires-clause-some
part-requires-clause-some g c = λ _. (c.in_ok-rows.ensures.told [] (λ _. refl)).0

pub part-requires-clause-left : goal.part-requires-clause-left
part-requires-clause-left g c = (c.in_ok-rows.ensures.told [] (λ _. refl)).1

pub returns : goal.returns
returns g c =
    rw c.part.ensures.input (call_ok_so (Ok _) (no_fault _ ReadFailed) (λ b a o. (o.2 ∙ c.part.ensures.said a, c.part.ensures.given)) c.in_ok-rows.ensures)
