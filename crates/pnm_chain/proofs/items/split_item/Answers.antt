use Rattle.pnm_chain.proofs.Words.{not, inl, inr, sym, ap, ◌∙◌, rules, words, value_read}
use Rattle.pnm_chain.proofs.ItemSteps.{option_word, argument_first, unknown_first, next_value_first, own_value_first, HasNoNext, is_some-value_read}
use Rattle.pnm_chain.proofs.items.split_item.Goals as goal
use Rattle.pnm_chain.proofs.items.split_item.Goals.{else-is_none-via-else-is_none, else-is_none-via-then-is_none+else-wants_value}
use Rattle.pnm_chain.proofs.items.split_item.Goals.{else-is_none-via-then-is_none+then-wants_value+in-None-1}

pub returns-then-not-starts_with-clause-first : goal.returns-then-not-starts_with-clause-first
returns-then-not-starts_with-clause-first c =
    argument_first c.args.tool c.in_ok-word.word.now (words c.args.text.now) (words c.in_ok-word.rest.now) c.starts_with.result
    c.in_ok-word.ensures.first c.starts_with.ensures.value c.if-not-starts_with.true

pub returns-in_default-clause-first : goal.returns-in_default-clause-first
returns-in_default-clause-first c =
    let value = value_read c.split_option.result.1 in
    let h = option_word c.args.tool c.in_ok-word.word.now c.split_option.result.0.now _ value c.starts_with.result
    c.starts_with.ensures.value c.if-not-starts_with.false c.split_option.ensures.name c.in_default.ensures c.split_option.ensures.value in
    unknown_first c.args.tool c.in_ok-word.word.now value (words c.args.text.now) (words c.in_ok-word.rest.now) c.in_ok-word.ensures.first h

pub returns-clause-first : goal.returns-clause-first
returns-clause-first c =
    let value = value_read c.split_option.result.1 in
    let h = option_word c.args.tool c.in_ok-word.word.now c.split_option.result.0.now _ value c.starts_with.result
    c.starts_with.ensures.value c.if-not-starts_with.false c.split_option.ensures.name c.in-Some.ensures c.split_option.ensures.value in
    next_value_first c.args.tool c.in_ok-word.word.now c.in-Some-split_word.value.now c.in-Some.option value (words c.args.text.now)
    (words c.in_ok-word.rest.now) (words c.in-Some-split_word.rest.now)
    c.in_ok-word.ensures.first c.in-Some-split_word.ensures.first h
    (is_some-value_read c.split_option.result.1 c.is_none.result c.is_none.ensures ∙ ap not c.if-is_none.true)
    (sym c.wants_value.ensures ∙ c.if-wants_value.true)

pub returns-2-clause-first : goal.returns-2-clause-first
returns-2-clause-first c =
    let value = value_read c.split_option.result.1 in
    let h = option_word c.args.tool c.in_ok-word.word.now c.split_option.result.0.now _ value c.starts_with.result
    c.starts_with.ensures.value c.if-not-starts_with.false c.split_option.ensures.name c.in-Some.ensures c.split_option.ensures.value in
    let no_next : HasNoNext c.in-Some.option value (words c.in_ok-word.rest.now) =
    elim c.else-is_none.branch [
      | else-is_none-via-else-is_none w ↦ inl (is_some-value_read c.split_option.result.1 c.is_none.result c.is_none.ensures ∙ ap not w.if-is_none.false)
      | else-is_none-via-then-is_none+else-wants_value w ↦ inr (inl (sym w.wants_value.ensures ∙ w.if-wants_value.false))
      | else-is_none-via-then-is_none+then-wants_value+in-None-1 w ↦ inr (inr (search rules))
    ] in
    own_value_first c.args.tool c.in_ok-word.word.now c.in-Some.option value (words c.args.text.now) (words c.in_ok-word.rest.now) c.in_ok-word.ensures.first h
    no_next
