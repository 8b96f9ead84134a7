use Rattle.pnm_chain.proofs.Words.{rules, ◌≡◌, ◌∙◌, ◌⊎◌, sym, Some, Memory, words, stage_fault, items_of, item_read}
use Rattle.pnm_chain.proofs.ReadingLaws.{begins, goes_on, stops_badly, ends_ok, ends_err}
use Rattle.pnm_chain.proofs.chain_text.read_stage.Goals as goal

pub loop-item-init : goal.loop-item-init
loop-item-init c = begins c.in-Some-named.tool c.new-settings.result c.in-Some.rest.now c.new-settings.ensures

pub returns-in_err-take-clause-refused : goal.returns-in_err-take-clause-refused
returns-in_err-take-clause-refused c =
    let fault : (c.in_err-take.field-0.0 ≡ Memory) ⊎ (stage_fault c.args.stage.now ≡ Some c.in_err-take.field-0.0) =
    stops_badly c.args.stage.now c.in-Some.name.now c.loop-item.rest.now c.in-Some.rest.now c.in-Some-named.tool c.loop-item.settings
    (item_read c.in-Some-split_item.item) (items_of c.in-Some-named.tool (words c.in-Some-split_item.after.now)) c.in_err-take.field-0.0
    c.in-Some.ensures.first (sym c.named.ensures ∙ c.in-Some-named.is) c.loop-item.invariant c.in-Some-split_item.ensures.first c.in_err-take.ensures.refused in
    search rules

pub loop-item-smaller : goal.loop-item-smaller
loop-item-smaller c = c.in-Some-split_item.ensures.shorter

pub loop-item-preserved : goal.loop-item-preserved
loop-item-preserved c =
    goes_on c.in-Some-named.tool (items_of c.in-Some-named.tool (words c.in-Some.rest.now)) c.loop-item.settings c.take.new.self c.loop-item.rest.now
    c.in-Some-split_item.after.now
    (item_read c.in-Some-split_item.item) c.loop-item.invariant c.in-Some-split_item.ensures.first c.in_ok-take.ensures.set

pub returns-clause-spelled : goal.returns-clause-spelled
returns-clause-spelled c =
    ends_ok c.args.stage.now c.in-Some.name.now c.loop-item.rest.now c.in-Some.rest.now c.in-Some-named.tool c.loop-item.settings c.finish.result
    c.in-Some.ensures.first (sym c.named.ensures ∙ c.in-Some-named.is) c.loop-item.invariant c.in_default-split_item.ensures.first c.finish.ensures.meant

pub returns-clause-refused : goal.returns-clause-refused
returns-clause-refused c =
    ends_err c.args.stage.now c.in-Some.name.now c.loop-item.rest.now c.in-Some.rest.now c.in-Some-named.tool c.loop-item.settings c.finish.result
    c.in-Some.ensures.first (sym c.named.ensures ∙ c.in-Some-named.is) c.loop-item.invariant c.in_default-split_item.ensures.first c.finish.ensures.refused
