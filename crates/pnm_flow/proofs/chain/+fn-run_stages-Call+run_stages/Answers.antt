use Rattle.pnm_flow.proofs.Words.{List, length, sym, ap, subst, ◌∙◌, arith, vec_capacity, sent, received, known_items, SameSender, SameReceiver, Message}
use Rattle.pnm_flow.proofs.Words.{still_pair, HasRunStages}
use Rattle.pnm_flow.proofs.ChainSteps.{came_back, has_reserved, only_stage, reserved_for_fewer, stages_extended}
use Rattle.pnm_flow.proofs.chain.+fn-run_stages-Call+run_stages.Goals as goal

-- a chain of one tool
pub only-requires : goal.only-requires
only-requires g t c =
    reserved_for_fewer (length c.args.tools.now) 1 c.args.reserved.links.items (vec_capacity c.args.reserved.links) c.args.reserved.ends.items
    (vec_capacity c.args.reserved.ends) c.requires.reserved c.requires.tools.1

pub returns-in-Some-all-clause-ran : goal.returns-in-Some-all-clause-ran
returns-in-Some-all-clause-ran g t c =
    only_stage c.args.lanes c.args.tools.now c.last_and_others.result.1.now c.last_and_others.result.0.now (vec_capacity c.args.reserved.links)
    (vec_capacity c.args.reserved.ends) c.args.input c.args.output c.in-Some-all.done c.only.result c.last_and_others.ensures.parts
    (sym c.is_empty.ensures ∙ c.if-is_empty.true) c.in-Some-all.ensures.ran c.only.ensures.ends c.only.ensures.lists c.only.ensures.reserved

pub returns-in-Some-all-clause-beside : goal.returns-in-Some-all-clause-beside
returns-in-Some-all-clause-beside g t c = c.in-Some-all.ensures.beside

pub extended-requires-clause-ring : goal.extended-requires-clause-ring
extended-requires-clause-ring g t c =
    let chain =
    (came_back c.args.lanes c.last_and_others.result.1.now (vec_capacity c.args.reserved.links) (vec_capacity c.args.reserved.ends) c.args.input
    c.in-Some-new_ring.producer _
    c.in-Some-run_tool.rest c.in-Some-rest.chain c.in-Some-rest.beside c.in-Some-run_tool.ensures.beside c.in-Some-rest.is).0 in
    still_pair c.in-Some-new_ring.producer c.in-Some-rest.chain.output c.in-Some-new_ring.consumer c.in-Some-run_tool.done.input
    c.in-Some-new_ring.ensures.pair chain.same_output c.in-Some-run_tool.ensures.ran.0

pub extended-requires-clause-reserved : goal.extended-requires-clause-reserved
extended-requires-clause-reserved g t c =
    let chain =
    (came_back c.args.lanes c.last_and_others.result.1.now (vec_capacity c.args.reserved.links) (vec_capacity c.args.reserved.ends) c.args.input
    c.in-Some-new_ring.producer _
    c.in-Some-run_tool.rest c.in-Some-rest.chain c.in-Some-rest.beside c.in-Some-run_tool.ensures.beside c.in-Some-rest.is).0 in
    has_reserved (length c.args.tools.now) c.args.lanes c.last_and_others.result.1.now (vec_capacity c.args.reserved.links) (vec_capacity c.args.reserved.ends)
    c.args.input
    c.in-Some-new_ring.producer c.in-Some-rest.chain chain (omega (arith, c.last_and_others.ensures.one_less)) c.requires.reserved.for_links
    c.requires.reserved.for_ends

pub returns-in-Some-rest-clause-ran : goal.returns-in-Some-rest-clause-ran
returns-in-Some-rest-clause-ran g t c =
    let chain =
    (came_back c.args.lanes c.last_and_others.result.1.now (vec_capacity c.args.reserved.links) (vec_capacity c.args.reserved.ends) c.args.input
    c.in-Some-new_ring.producer _
    c.in-Some-run_tool.rest c.in-Some-rest.chain c.in-Some-rest.beside c.in-Some-run_tool.ensures.beside c.in-Some-rest.is).0 in
    let last = c.in-Some-run_tool.ensures.ran in
    record {
      same_input = subst (SameReceiver c.args.input) (sym c.extended.ensures.input) chain.same_input;
      same_output = subst (SameSender c.args.output) (sym c.extended.ensures.output) last.1;
      ran = subst (λ (x : List Message). HasRunStages c.args.lanes c.args.tools.now c.extended.result.ends.items c.extended.result.links.items
          (received c.args.input) x (sent c.args.output) (sent c.extended.result.output)) (sym (ap received c.extended.ensures.input))
          (subst (λ (x : List Message). HasRunStages c.args.lanes c.args.tools.now c.extended.result.ends.items c.extended.result.links.items
          (received c.args.input) (received c.in-Some-rest.chain.input) (sent c.args.output) x) (sym (ap sent c.extended.ensures.output))
          (stages_extended c.args.lanes c.last_and_others.result.1.now c.args.tools.now c.in-Some-rest.chain.ends.items c.extended.result.ends.items
          c.in-Some-rest.chain.links.items c.extended.result.links.items c.last_and_others.result.0.now c.in-Some-run_tool.done.end
          (received c.args.input) (received c.in-Some-rest.chain.input) (sent c.args.output) (sent c.in-Some-run_tool.done.output)
          (known_items c.in-Some-run_tool.done.input) (sent c.in-Some-new_ring.producer) (sent c.in-Some-rest.chain.output)
          (received c.in-Some-new_ring.consumer) (received c.in-Some-run_tool.done.input)
          c.in-Some-new_ring.ensures.unused.0 c.in-Some-new_ring.ensures.unused.1 chain.ran last.2 c.last_and_others.ensures.parts c.extended.ensures.end
          c.extended.ensures.link));
      for_links = c.extended.ensures.reserved.0 ∙ chain.for_links;
      for_ends = c.extended.ensures.reserved.1 ∙ chain.for_ends;
    }

pub returns-in-Some-rest-clause-beside : goal.returns-in-Some-rest-clause-beside
returns-in-Some-rest-clause-beside g t c =
    (came_back c.args.lanes c.last_and_others.result.1.now (vec_capacity c.args.reserved.links) (vec_capacity c.args.reserved.ends) c.args.input
    c.in-Some-new_ring.producer _
    c.in-Some-run_tool.rest c.in-Some-rest.chain c.in-Some-rest.beside c.in-Some-run_tool.ensures.beside c.in-Some-rest.is).1

-- a thread can't be started
pub returns-in_default-run_tool-clause-ran : goal.returns-in_default-run_tool-clause-ran
returns-in_default-run_tool-clause-ran g t c = tt

pub returns-in_default-run_tool-clause-beside : goal.returns-in_default-run_tool-clause-beside
returns-in_default-run_tool-clause-beside g t c = tt

pub returns-in_default-run_tool-clause-not_started : goal.returns-in_default-run_tool-clause-not_started
returns-in_default-run_tool-clause-not_started g t c = tt

pub returns-in-None-rest-clause-ran : goal.returns-in-None-rest-clause-ran
returns-in-None-rest-clause-ran g t c = tt

pub returns-in-None-rest-clause-beside : goal.returns-in-None-rest-clause-beside
returns-in-None-rest-clause-beside g t c = tt

pub returns-in-None-rest-clause-not_started : goal.returns-in-None-rest-clause-not_started
returns-in-None-rest-clause-not_started g t c = tt

-- there is no memory
pub returns-in_default : goal.returns-in_default
returns-in_default g t c = record { ran = tt; beside = tt; not_started = c.not_started.ensures }

pub returns-in_default-new_ring : goal.returns-in_default-new_ring
returns-in_default-new_ring g t c = record { ran = tt; beside = tt; not_started = c.not_started-in_default-new_ring.ensures }

pub returns-in-None : goal.returns-in-None
returns-in-None g t c = record { ran = tt; beside = tt; not_started = tt }

pub returns-in-Some-all-clause-not_started : goal.returns-in-Some-all-clause-not_started
returns-in-Some-all-clause-not_started g t c = tt

pub returns-in-Some-rest-clause-not_started : goal.returns-in-Some-rest-clause-not_started
returns-in-Some-rest-clause-not_started g t c = tt

-- what the last tool's threads are started with
pub run_tool-all-requires-clause-shared : goal.run_tool-all-requires-clause-shared
run_tool-all-requires-clause-shared g t c = λ κs within. c.requires.shared

pub run_tool-all-requires-clause-lawful : goal.run_tool-all-requires-clause-lawful
run_tool-all-requires-clause-lawful g t c = λ κs within. c.last_and_others.ensures.lawful.0

pub run_tool-all-requires-clause-plan : goal.run_tool-all-requires-clause-plan
run_tool-all-requires-clause-plan g t c = λ κs within. c.in-Some.ensures

pub run_tool-all-requires-clause-beside : goal.run_tool-all-requires-clause-beside
run_tool-all-requires-clause-beside g t c = λ κs within. c.requires.beside

pub run_tool-requires-clause-shared : goal.run_tool-requires-clause-shared
run_tool-requires-clause-shared g t c = λ κs within. c.requires.shared

pub run_tool-requires-clause-lawful : goal.run_tool-requires-clause-lawful
run_tool-requires-clause-lawful g t c = λ κs within. c.last_and_others.ensures.lawful.0

pub run_tool-requires-clause-plan : goal.run_tool-requires-clause-plan
run_tool-requires-clause-plan g t c = λ κs within. c.in-Some.ensures
