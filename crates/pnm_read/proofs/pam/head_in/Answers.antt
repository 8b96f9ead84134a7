use Rattle.pnm_read.proofs.Words.{get_or, refl, Ok, Err, err_from_is_err_and}
use Rattle.pnm_read.proofs.HeldHeads.{after_first_byte, first_byte_is, no_bytes, pam_nothing, pam_bad, pam_goes_on, pam_at_fault, pam_type_of, pam_ends}
use Rattle.pnm_read.proofs.pam.head_in.Goals as goal

pub returns-in_default : goal.returns-in_default
returns-in_default c = pam_nothing (no_bytes c.args.bytes.now c.in_default.len_below)

pub returns-then-first-ne10 : goal.returns-then-first-ne10
returns-then-first-ne10 c = pam_bad (first_byte_is c.args.bytes.now c.in-len1-up.len_at_least refl) c.if-first-ne10.true

pub returns-in_err-taken : goal.returns-in_err-taken
returns-in_err-taken c =
    let p = err_from_is_err_and c.from_residual.result c.from_residual.ensures.1 in
    rw (p.1, p.2) (pam_at_fault c.feed.new.scanner c.in_err-taken.field-0.0
    (first_byte_is c.args.bytes.now c.in-len1-up.len_at_least c.if-first-ne10.false) c.new-header.ensures c.in_err-taken.ensures.fed)

pub returns-in_default-2 : goal.returns-in_default-2
returns-in_default-2 c =
    let fed = rw c.in_default-2.is at c.in_ok-taken.ensures.fed in
    pam_goes_on c.feed.new.scanner (first_byte_is c.args.bytes.now c.in-len1-up.len_at_least c.if-first-ne10.false) c.new-header.ensures fed

pub head_of-requires : goal.head_of-requires
head_of-requires c =
    let fed = rw c.in-Some.is at c.in_ok-taken.ensures.fed in
    pam_type_of c.feed.new.scanner (after_first_byte c.args.bytes.now) c.in-Some.taken c.new-header.ensures fed

pub returns-in_err-head : goal.returns-in_err-head
returns-in_err-head c =
    let fed = rw c.in-Some.is at c.in_ok-taken.ensures.fed in
    let within = rw c.in-Some.is at c.in_ok-taken.ensures.taken in
    let p = err_from_is_err_and c.from_residual-in_err-head.result c.from_residual-in_err-head.ensures.1 in
    rw (p.1, p.2) (pam_ends c.feed.new.scanner (Err c.in_err-head.field-0.0)
    c.in-Some.taken (first_byte_is c.args.bytes.now c.in-len1-up.len_at_least c.if-first-ne10.false) c.new-header.ensures c.in_err-head.ensures within fed)

pub returns : goal.returns
returns c =
    let fed = rw c.in-Some.is at c.in_ok-taken.ensures.fed in
    let within = rw c.in-Some.is at c.in_ok-taken.ensures.taken in
    pam_ends c.feed.new.scanner (Ok c.in_ok-head.head) c.in-Some.taken
    (first_byte_is c.args.bytes.now c.in-len1-up.len_at_least c.if-first-ne10.false) c.new-header.ensures c.in_ok-head.ensures within fed
