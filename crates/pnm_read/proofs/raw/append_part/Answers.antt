use Rattle.pnm_read.proofs.Words.{ℕ, ◌≤◌, ◌*◌, All, length, sym, subst, arith, ◌∙◌, All-append, err_from_is_err_and, held_of}
use Rattle.pnm_read.proofs.PartSteps.{words_cut, words_fail, words_read}
use Rattle.pnm_read.proofs.raw.append_part.Goals as goal

pub returns-then-count-eq0-clause-found : goal.returns-then-count-eq0-clause-found
returns-then-count-eq0-clause-found g c =
    words_cut c.args.maxval c.args.most c.args.row.now.items (λ _. c.args.row.now.items) c.in_ok-fill.ensures.read_call
    c.in_ok-fill.ensures.enough c.bytes-bytes.ensures (sym c.min-count.ensures ∙ c.if-count-eq0.true) c.requires

pub returns-in_err-append_wide-clause-found : goal.returns-in_err-append_wide-clause-found
returns-in_err-append_wide-clause-found g c =
    let p = err_from_is_err_and c.from_residual-in_err-append_wide.result c.from_residual-in_err-append_wide.ensures.1 in
    let few : c.min-count.result * 2 ≤ length (held_of c.fill.new.self) = rw (sym c.bytes-bytes.ensures) (omega arith) in
    rw (p.1, p.2) (words_fail c.args.maxval c.args.most c.min-count.result c.args.row.now.items c.append_wide.new.row.items
    c.args.row.now.items (λ _. c.append_wide.new.row.items) c.in_ok-fill.ensures.read_call (omega arith) few
    (rw (sym c.bytes-bytes.ensures) c.in_err-append_wide.ensures))

pub returns-clause-found : goal.returns-clause-found
returns-clause-found g c =
    let few : c.min-count.result * 2 ≤ length (held_of c.fill.new.self) = rw (sym c.bytes-bytes.ensures) (omega arith) in
    words_read c.args.maxval c.args.most c.args.row.now.items c.append_wide.new.row.items c.in_ok-fill.ensures.read_call (omega arith) few
    (rw (sym c.bytes-bytes.ensures) c.in_ok-append_wide.ensures) c.advance.ensures.reader c.advance.ensures.ended c.advance.ensures.held

pub returns-clause-within : goal.returns-clause-within
returns-clause-within g c = λ old.
    let most = λ (sample : ℕ). sample ≤ c.args.maxval in
    subst (All most) (sym c.in_ok-append_wide.ensures.0) (All-append most c.args.row.now.items _ old c.in_ok-append_wide.ensures.1)
