use Rattle.pnm_chain.proofs.Words.{rules, ◌≡◌, ◌⊎◌, ◌++◌, ◌∷◌, ◌∙◌, [], List, Some, inr, sym, ap, subst, length, arith, length_push, YieldsList-at}
use Rattle.pnm_chain.proofs.Words.{YieldsList-turn, YieldsList-end, YieldsList-from_str_split, Tool, Memory, chain_fault_of, stage_texts, whole_fault, AreRead}
use Rattle.pnm_chain.proofs.LawfulLaws.{spelled_chain_is_lawful}
use Rattle.pnm_chain.proofs.ParsingLaws.{none_read, one_read_more, stage_at_fault, chain_read, too_long, no_words_at_all, too_many, no_word_found, word_found}
use Rattle.pnm_chain.proofs.ParsingLaws.{few_stages, many_stages}
use Rattle.pnm_chain.proofs.chain_text.parse_chain.Goals as goal

pub returns-then-text-gt-MAX_TEXT_LENGTH-clause-refused : goal.returns-then-text-gt-MAX_TEXT_LENGTH-clause-refused
returns-then-text-gt-MAX_TEXT_LENGTH-clause-refused c =
    inr (too_long c.args.text.now c.if-text-gt-MAX_TEXT_LENGTH.true ∙ ap (λ f. Some f) (sym c.whole.ensures))

pub returns-then-is_none-clause-refused : goal.returns-then-is_none-clause-refused
returns-then-is_none-clause-refused c =
    let blank = no_word_found c.args.text.now c.as_bytes.result.now c.split_word.result c.as_bytes.ensures.value c.split_word.ensures.first
    c.if-is_none.ensures in
    inr (no_words_at_all c.args.text.now c.if-text-gt-MAX_TEXT_LENGTH.false blank ∙ ap (λ f. Some f) (sym c.whole-then-is_none.ensures))

pub returns-then-count_bars-ge-MOST_STAGES-clause-refused :
    goal.returns-then-count_bars-ge-MOST_STAGES-clause-refused
returns-then-count_bars-ge-MOST_STAGES-clause-refused c =
    let black = word_found c.args.text.now c.as_bytes.result.now c.split_word.result c.as_bytes.ensures.value c.split_word.ensures.first c.if-is_none.ensures in
    let many = many_stages c.args.text.now c.as_bytes-2.result.now c.count_bars.result c.as_bytes-2.ensures.value c.count_bars.ensures
    c.if-count_bars-ge-MOST_STAGES.true in
    inr (too_many c.args.text.now c.if-text-gt-MAX_TEXT_LENGTH.false black many ∙ ap (λ f. Some f) (sym c.whole-then-count_bars-ge-MOST_STAGES.ensures))

pub loop-stage-init : goal.loop-stage-init
loop-stage-init c = subst (λ (tools : List Tool). AreRead (stage_texts c.args.text.now) 0 tools) (sym c.new-tools.ensures.items)
    (none_read (stage_texts c.args.text.now))

pub returns-in_err-tool-clause-refused : goal.returns-in_err-tool-clause-refused
returns-in_err-tool-clause-refused c =
    let given =
    YieldsList-at c.into_iter-stage-iterator.ensures.into_iter_gives
    (YieldsList-from_str_split 124 c.args.text.now (omega arith) c.split-stage-items.ensures.text c.split-stage-items.ensures.has_more
    c.split-stage-items.ensures.pattern) in
    let turn = YieldsList-turn given c.loop-stage.yielded _ c.loop-stage.yielded_by _ _ c.in-Some.stage c.in-Some.is c.next.ensures.steps in
    let black = word_found c.args.text.now c.as_bytes.result.now c.split_word.result c.as_bytes.ensures.value c.split_word.ensures.first c.if-is_none.ensures in
    let few = few_stages c.args.text.now c.as_bytes-2.result.now c.count_bars.result c.as_bytes-2.ensures.value c.count_bars.ensures
    c.if-count_bars-ge-MOST_STAGES.false in
    let fault : (c.in_err-tool.field-0.0 ≡ whole_fault Memory) ⊎ (chain_fault_of c.args.text.now ≡ Some c.in_err-tool.field-0.0) =
    stage_at_fault c.args.text.now (length c.loop-stage.yielded) c.len.result c.loop-stage.tools.items c.in-Some.stage.now c.as_bytes-in-loop-stage.result.now
    c.in_err-tool.field-0.0
    c.if-text-gt-MAX_TEXT_LENGTH.false black few c.loop-stage.invariant turn (search rules) c.as_bytes-in-loop-stage.ensures.value
    c.in_err-tool.ensures.refused in
    search rules

pub loop-stage-preserved : goal.loop-stage-preserved
loop-stage-preserved c =
    let given =
    YieldsList-at c.into_iter-stage-iterator.ensures.into_iter_gives
    (YieldsList-from_str_split 124 c.args.text.now (omega arith) c.split-stage-items.ensures.text c.split-stage-items.ensures.has_more
    c.split-stage-items.ensures.pattern) in
    let turn = YieldsList-turn given c.loop-stage.yielded _ c.loop-stage.yielded_by _ _ c.in-Some.stage c.in-Some.is c.next.ensures.steps in
    one_read_more (stage_texts c.args.text.now) (length c.loop-stage.yielded) (length (c.loop-stage.yielded ++ c.in-Some.stage ∷ [])) c.loop-stage.tools.items
    c.push.new.self.items c.in-Some.stage.now c.as_bytes-in-loop-stage.result.now c.in_ok-tool.tool
    c.loop-stage.invariant turn (length_push c.loop-stage.yielded c.in-Some.stage) c.as_bytes-in-loop-stage.ensures.value (search rules)
    c.in_ok-tool.ensures.spelled

pub returns-clause-spelled : goal.returns-clause-spelled
returns-clause-spelled c =
    let given =
    YieldsList-at c.into_iter-stage-iterator.ensures.into_iter_gives
    (YieldsList-from_str_split 124 c.args.text.now (omega arith) c.split-stage-items.ensures.text c.split-stage-items.ensures.has_more
    c.split-stage-items.ensures.pattern) in
    let end = YieldsList-end given c.loop-stage.yielded _ c.loop-stage.yielded_by _ _ c.in-None.is c.next.ensures.steps in
    let few = few_stages c.args.text.now c.as_bytes-2.result.now c.count_bars.result c.as_bytes-2.ensures.value c.count_bars.ensures
    c.if-count_bars-ge-MOST_STAGES.false in
    chain_read c.args.text.now (length c.loop-stage.yielded) c.loop-stage.tools.items c.if-text-gt-MAX_TEXT_LENGTH.false few c.loop-stage.invariant end.1

pub returns-clause-lawful : goal.returns-clause-lawful
returns-clause-lawful c = spelled_chain_is_lawful c.args.text.now c.loop-stage.tools.items (
    let given =
    YieldsList-at c.into_iter-stage-iterator.ensures.into_iter_gives
    (YieldsList-from_str_split 124 c.args.text.now (omega arith) c.split-stage-items.ensures.text c.split-stage-items.ensures.has_more
    c.split-stage-items.ensures.pattern) in
    let end = YieldsList-end given c.loop-stage.yielded _ c.loop-stage.yielded_by _ _ c.in-None.is c.next.ensures.steps in
    let few = few_stages c.args.text.now c.as_bytes-2.result.now c.count_bars.result c.as_bytes-2.ensures.value c.count_bars.ensures
    c.if-count_bars-ge-MOST_STAGES.false in
    chain_read c.args.text.now (length c.loop-stage.yielded) c.loop-stage.tools.items c.if-text-gt-MAX_TEXT_LENGTH.false few c.loop-stage.invariant end.1)
