use Rattle.pnm_read.proofs.Words.{rules, ◌≤◌, [], length, refl, err_from_is_err_and}
use Rattle.pnm_read.proofs.ReadCalls.{call_ok_so, call_err_so}
use Rattle.pnm_read.proofs.HeadSteps.{head_found, head_of_text, head_missed}
use Rattle.pnm_read.proofs.header.read_pnm_head.Goals as goal

pub returns-in_err-scan : goal.returns-in_err-scan
returns-in_err-scan g c =
    let three : length c.new-header.result.numbers ≤ 3 = search rules in
    let p = err_from_is_err_and c.from_residual.result c.from_residual.ensures.1 in
    rw (p.1, p.2) (call_err_so (λ b a o. head_missed c.args.kind c.scan.new.scanner c.in_err-scan.field-0.0 b a c.new-header.ensures
    c.number_count.ensures three o) c.in_err-scan.ensures)

pub returns : goal.returns
returns g c =
    let three : length c.new-header.result.numbers ≤ 3 = search rules in
    call_ok_so c.head_of.result (head_of_text c.args.kind c.scan.new.scanner _ _ c.new-header.ensures c.number_count.ensures
    three c.head_of.ensures (c.in_ok-scan.ensures.told [] (λ e. refl)))
    (λ b a o. head_found c.args.kind c.scan.new.scanner c.head_of.result b a c.new-header.ensures c.number_count.ensures three c.head_of.ensures o)
    c.in_ok-scan.ensures
