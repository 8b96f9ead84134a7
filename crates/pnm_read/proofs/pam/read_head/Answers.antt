use Rattle.pnm_read.proofs.Words.{[], Ok, Err, refl, err_from_is_err_and, line_feed_item, pam_item, header_end, Passes, Scans, IsPamAfter, IsPamWhole}
use Rattle.pnm_read.proofs.ReadCalls.{call_then, call_ok_so, call_err_so}
use Rattle.pnm_read.proofs.PamSteps.{pam_no_feed, pam_missed, pam_type, pam_found, pam_of_text}
use Rattle.pnm_read.proofs.pam.read_head.Goals as goal

pub returns-in_err-read_line_feed : goal.returns-in_err-read_line_feed
returns-in_err-read_line_feed g c =
    let p = err_from_is_err_and c.from_residual.result c.from_residual.ensures.1 in
    rw (p.1, p.2) (call_err_so (λ b a o. pam_no_feed c.in_err-read_line_feed.field-0.0 b a o) c.in_err-read_line_feed.ensures)

pub returns-in_err-scan : goal.returns-in_err-scan
returns-in_err-scan g c =
    let p = err_from_is_err_and c.from_residual-in_err-scan.result c.from_residual-in_err-scan.ensures.1 in
    rw (p.1, p.2) (call_err_so (λ b a o. pam_missed (IsPamWhole c.scan.new.scanner) c.in_err-scan.field-0.0 b a c.new-header.ensures o.1 o.2)
    (call_then {o = Passes line_feed_item (Ok tt)}
    {q = Scans pam_item header_end (IsPamAfter c.new-header.result) (IsPamWhole c.scan.new.scanner) (Err c.in_err-scan.field-0.0)}
    c.in_ok-read_line_feed.field-0 g.met.R.BytesIn.same_later c.in_ok-read_line_feed.ensures c.in_err-scan.ensures))

pub head_of-requires : goal.head_of-requires
head_of-requires g c = pam_type c.scan.new.scanner _ _ c.new-header.ensures (c.in_ok-scan.ensures.told [] (λ e. refl))

pub returns : goal.returns
returns g c =
    call_ok_so c.head_of.result (pam_of_text c.scan.new.scanner _ _ c.new-header.ensures c.head_of.ensures (c.in_ok-scan.ensures.told [] (λ e. refl)))
    (λ b a o. pam_found c.scan.new.scanner c.head_of.result b a c.new-header.ensures c.head_of.ensures o.1 o.2)
    (call_then {o = Passes line_feed_item (Ok tt)} {q = Scans pam_item header_end (IsPamAfter c.new-header.result) (IsPamWhole c.scan.new.scanner) (Ok tt)}
    c.in_ok-read_line_feed.field-0 g.met.R.BytesIn.same_later c.in_ok-read_line_feed.ensures c.in_ok-scan.ensures)
