use Rattle.pnm_chain.proofs.Words.{sym, ◌∙◌}
use Rattle.pnm_chain.proofs.NumberLaws.{text_refused, text_taken, no_plus, parse_is_spelled}
use Rattle.pnm_chain.proofs.word.decimal.Goals as goal

pub returns-in_err-ok : goal.returns-in_err-ok
returns-in_err-ok c = c.from_residual.ensures
    ∙ sym (text_refused _ _ c.args.word.now c.from_utf8.result c.from_utf8.ensures.cases (sym c.ok.ensures.value ∙ c.in_err-ok.was))

pub returns : goal.returns
returns c =
    let text = text_taken c.args.word.now _ c.from_utf8.result c.in_ok-ok.field-0 c.from_utf8.ensures.cases (sym c.ok.ensures.value ∙ c.in_ok-ok.was) in
    let no_plus_first = no_plus c.args.word.now (sym c.starts_with.ensures.value ∙ c.if-starts_with.false) in
    c.ok-2.ensures.value ∙ parse_is_spelled c.args.word.now c.in_ok-ok.field-0.now c.parse.result no_plus_first text c.parse.ensures.value.0
