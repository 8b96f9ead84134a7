use Rattle.pnm_read.proofs.Words.{◌≡◌, ℕ, inr, Option, None, slice_get, sym, ap, ◌∙◌, option_copied, err_from_is_err_and}
use Rattle.std.proofs.Common.{Bor}
use Rattle.pnm_read.proofs.PlainSteps.{end_goes_on, end_is_bad, end_is_there}
use Rattle.pnm_read.proofs.ReadCalls.{call_err_so}
use Rattle.pnm_read.proofs.plain.check_end.Goals as goal

pub returns-in_err-fill : goal.returns-in_err-fill
returns-in_err-fill g c =
    let p = err_from_is_err_and c.from_residual.result c.from_residual.ensures.1 in
    rw (p.1, p.2) (call_err_so (λ b a o. inr o) c.in_err-fill.ensures.read_call)

pub returns-in-Some : goal.returns-in-Some
returns-in-Some g c = end_is_bad c.bytes.ensures c.in-Some.ensures.value (sym c.is_apart.ensures ∙ c.if-not-is_apart.true) c.in_ok-fill.ensures.read_call

pub returns-in_default : goal.returns-in_default
returns-in_default g c = end_goes_on c.bytes.ensures c.in-Some.ensures.value (sym c.is_apart.ensures ∙ c.if-not-is_apart.false) c.in_ok-fill.ensures.read_call

pub returns-in_default-2 : goal.returns-in_default-2
returns-in_default-2 g c =
    let first : None ≡ slice_get c.bytes.result.now 0 =
    ap (λ (found : Option (Bor ℕ)). option_copied found) (sym c.in_default.is) ∙ c.first.ensures.value in
    end_is_there c.bytes.ensures first c.in_ok-fill.ensures.enough c.in_ok-fill.ensures.read_call
