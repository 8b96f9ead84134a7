use Rattle.pnm_read.proofs.Words.{rules, ◌≤◌, length, Ok, Err, err_from_is_err_and}
use Rattle.pnm_read.proofs.HeldHeads.{header_goes_on, header_at_fault, header_ends}
use Rattle.pnm_read.proofs.header.pnm_head_in.Goals as goal

pub returns-in_err-taken : goal.returns-in_err-taken
returns-in_err-taken c =
    let three : length c.new-header.result.numbers ≤ 3 = search rules in
    let p = err_from_is_err_and c.from_residual.result c.from_residual.ensures.1 in
    rw (p.1, p.2) (header_at_fault c.args.kind c.feed.new.scanner c.args.bytes.now c.in_err-taken.field-0.0
    c.new-header.ensures c.number_count.ensures three c.in_err-taken.ensures.fed)

pub returns-in_default : goal.returns-in_default
returns-in_default c =
    let three : length c.new-header.result.numbers ≤ 3 = search rules in
    let fed = rw c.in_default.is at c.in_ok-taken.ensures.fed in
    header_goes_on c.args.kind c.feed.new.scanner c.args.bytes.now c.new-header.ensures c.number_count.ensures three fed

pub returns-in_err-head : goal.returns-in_err-head
returns-in_err-head c =
    let three : length c.new-header.result.numbers ≤ 3 = search rules in
    let fed = rw c.in-Some.is at c.in_ok-taken.ensures.fed in
    let within = rw c.in-Some.is at c.in_ok-taken.ensures.taken in
    let p = err_from_is_err_and c.from_residual-in_err-head.result c.from_residual-in_err-head.ensures.1 in
    rw (p.1, p.2) (header_ends c.args.kind c.feed.new.scanner (Err c.in_err-head.field-0.0) c.args.bytes.now
    c.in-Some.taken c.new-header.ensures c.number_count.ensures three c.in_err-head.ensures within fed)

pub returns : goal.returns
returns c =
    let three : length c.new-header.result.numbers ≤ 3 = search rules in
    let fed = rw c.in-Some.is at c.in_ok-taken.ensures.fed in
    let within = rw c.in-Some.is at c.in_ok-taken.ensures.taken in
    header_ends c.args.kind c.feed.new.scanner (Ok c.in_ok-head.head) c.args.bytes.now c.in-Some.taken
    c.new-header.ensures c.number_count.ensures three c.in_ok-head.ensures within fed
