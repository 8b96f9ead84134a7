use Rattle.pnm_read.proofs.Words.{rules, ◌≡◌, List, [], ℕ, length, Some, None, Err, sym, ap, err_from_is_err_and, held_of}
use Rattle.pnm_read.proofs.ScanSteps.{scan_begins, scan_unread, scan_ends, scan_fails, scan_found, scan_goes_on, none_of_length, end_seen}
use Rattle.pnm_read.proofs.scan.scan.Goals as goal

pub loop-input-init : goal.loop-input-init
loop-input-init g c = scan_begins c.args.input.now c.args.scanner.now g.met.R.BytesIn.same_at_once

pub returns-in_err-fill : goal.returns-in_err-fill
returns-in_err-fill g c =
    let p = err_from_is_err_and c.from_residual.result c.from_residual.ensures.1 in
    rw (p.1, p.2) (scan_unread (g.S.Scanner.is_whole c.loop-input.scanner) g.met.R.BytesIn.same_later c.loop-input.invariant c.in_err-fill.ensures.read_call)

pub returns-in-Some : goal.returns-in-Some
returns-in-Some g c =
    let none : held_of c.fill.new.self ≡ [] = none_of_length (held_of c.fill.new.self) c.bytes-bytes.ensures (search rules) in
    scan_ends g.S.Scanner.is_whole (Some c.in-Some.fault) g.met.R.BytesIn.same_later c.loop-input.invariant c.in_ok-fill.ensures.read_call none
    (end_seen c.fill.new.self c.in_ok-fill.ensures.enough none) c.in-Some.ensures.of_text c.in-Some.ensures.judged

pub returns-in-None : goal.returns-in-None
returns-in-None g c =
    let none : held_of c.fill.new.self ≡ [] = none_of_length (held_of c.fill.new.self) c.bytes-bytes.ensures (search rules) in
    scan_ends g.S.Scanner.is_whole None g.met.R.BytesIn.same_later c.loop-input.invariant c.in_ok-fill.ensures.read_call none
    (end_seen c.fill.new.self c.in_ok-fill.ensures.enough none) c.in-None.ensures.of_text c.in-None.ensures.judged

pub returns-in_err-taken : goal.returns-in_err-taken
returns-in_err-taken g c =
    let p = err_from_is_err_and c.from_residual-in_err-taken.result c.from_residual-in_err-taken.ensures.1 in
    rw (p.1, p.2) (scan_fails (g.S.Scanner.is_after c.feed.new.scanner) (g.S.Scanner.is_whole c.feed.new.scanner)
    g.met.R.BytesIn.same_later c.loop-input.invariant c.in_ok-fill.ensures.read_call
    (λ e. c.in_err-taken.ensures.of_text (ap (λ k. Err k) e)) (rw (sym c.bytes-bytes.ensures) c.in_err-taken.ensures.fed))

pub advance-requires : goal.advance-requires
advance-requires g c = rw (sym c.bytes-bytes.ensures) (let taken = c.in_ok-taken.ensures.taken in rw c.in-Some-2.is at taken)

pub returns-in-Some-2 : goal.returns-in-Some-2
returns-in-Some-2 g c =
    scan_found (g.S.Scanner.is_after c.feed.new.scanner) (g.S.Scanner.is_whole c.feed.new.scanner) c.in-Some-2.taken g.met.R.BytesIn.same_later
    c.loop-input.invariant c.in_ok-fill.ensures.read_call
    (rw (sym c.bytes-bytes.ensures) (rw c.in-Some-2.is at c.in_ok-taken.ensures.fed)) c.advance.ensures.reader c.advance.ensures.ended c.advance.ensures.held

pub loop-input-preserved : goal.loop-input-preserved
loop-input-preserved g c =
    scan_goes_on (g.S.Scanner.is_whole c.feed.new.scanner) g.met.R.BytesIn.same_later c.loop-input.invariant c.in_ok-fill.ensures.read_call
    (rw (sym c.bytes-bytes.ensures) (rw c.in-None-2.is at c.in_ok-taken.ensures.fed)) c.in_ok-taken.ensures.same_items c.in_ok-taken.ensures.same_end
    (ap (λ (l : List ℕ). length l) c.bytes-bytes.ensures) c.advance-in-None-2.ensures.reader c.advance-in-None-2.ensures.ended c.advance-in-None-2.ensures.held
