use Rattle.pnm_read.proofs.Words.{ℕ, inl, inr, ◌∙◌, ap, Some, Err, err_from_is_err_and, EmptyInput, BadMagic, HeaderCut}
use Rattle.pnm_read.proofs.ReadCalls.{call_then, call_ok_so, call_err_so}
use Rattle.pnm_read.proofs.MagicSteps.{byte_is, no_byte, magic_none, magic_wrong, magic_cut, magic_found, magic_of_text}
use Rattle.pnm_read.proofs.header.read_format.Goals as goal

pub returns-in-Some : goal.returns-in-Some
returns-in-Some g c =
    call_ok_so (Err BadMagic) (λ e. absurd cc) (λ b a o. inl (magic_wrong c.args.is_first (byte_is c.in_ok-next_byte.field-0 b a c.in-Some.is o)
    c.in-Some.field-0-test.1)) c.in_ok-next_byte.ensures

pub returns-in-None : goal.returns-in-None
returns-in-None g c =
    call_ok_so (Err EmptyInput) (λ e. absurd cc)
    (λ b a o. inl (magic_none c.args.is_first (no_byte c.in_ok-next_byte.field-0 b a c.in-None.is o))) c.in_ok-next_byte.ensures

pub returns-in_err-byte : goal.returns-in_err-byte
returns-in_err-byte g c =
    let p = err_from_is_err_and c.from_residual-in_err-byte.result c.from_residual-in_err-byte.ensures.1 in
    rw (p.1, p.2) (call_err_so (λ b a o. inr o.2)
    (call_then c.in_ok-next_byte.field-0 g.met.R.BytesIn.same_later c.in_ok-next_byte.ensures c.in_err-byte.ensures))

pub returns-in-Some-2 : goal.returns-in-Some-2
returns-in-Some-2 g c =
    call_ok_so c.format_named.result (magic_of_text c.args.is_first c.in-Some-2.byte c.format_named.ensures)
    (λ b a o. magic_found c.args.is_first c.format_named.ensures
    (byte_is c.in_ok-next_byte.field-0 b o.0 (c.in-Some-eq80.is ∙ ap (λ (byte : ℕ). Some byte) c.in-Some-eq80.field-0-test) o.1)
    (byte_is c.in_ok-byte.field-0 o.0 a c.in-Some-2.is o.2))
    (call_then c.in_ok-next_byte.field-0 g.met.R.BytesIn.same_later c.in_ok-next_byte.ensures c.in_ok-byte.ensures)

pub returns-in-None-2 : goal.returns-in-None-2
returns-in-None-2 g c =
    call_ok_so (Err HeaderCut) (λ e. absurd cc) (λ b a o. inl (magic_cut c.args.is_first
    (byte_is c.in_ok-next_byte.field-0 b o.0 (c.in-Some-eq80.is ∙ ap (λ (byte : ℕ). Some byte) c.in-Some-eq80.field-0-test) o.1)
    (no_byte c.in_ok-byte.field-0 o.0 a c.in-None-2.is o.2)))
    (call_then c.in_ok-next_byte.field-0 g.met.R.BytesIn.same_later c.in_ok-next_byte.ensures c.in_ok-byte.ensures)

pub returns-in_err-next_byte : goal.returns-in_err-next_byte
returns-in_err-next_byte g c =
    let p = err_from_is_err_and c.from_residual.result c.from_residual.ensures.1 in
    rw (p.1, p.2) (call_err_so (λ b a o. inr o) c.in_err-next_byte.ensures)
