use Rattle.pnm_read.proofs.Words.{sym, ◌∙◌, ◌≡◌, ◌-◌, get_or, with_digit}
use Rattle.pnm_read.proofs.LineSteps.{no_digits, digits_more, number_none, number_is}
use Rattle.pnm_read.proofs.line.number_of.Goals as goal

pub loop-byte-init : goal.loop-byte-init
loop-byte-init c = no_digits

pub loop-byte-preserved : goal.loop-byte-preserved
loop-byte-preserved c =
    let number : c.saturating_add-number.result ≡ with_digit c.loop-byte.number (get_or c.args.token.now c.loop-byte.byte-index 0 - 48) = cc in
    digits_more c.args.token.now c.loop-byte.byte-index c.loop-byte.number c.saturating_add-number.result c.loop-byte.invariant c.loop-byte-test.true
    (sym c.is_digit.ensures ∙ c.if-not-is_digit.false) number

pub returns-then-not-is_digit : goal.returns-then-not-is_digit
returns-then-not-is_digit c = number_none c.args.token.now c.loop-byte.byte-index c.loop-byte-test.true (sym c.is_digit.ensures ∙ c.if-not-is_digit.true)

pub returns : goal.returns
returns c = number_is c.loop-byte.invariant c.loop-byte-test.false
