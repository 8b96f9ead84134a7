-- The stages of a chain: one more, what is left between them, and what the chain has answered.
use Rattle.pnm_flow.proofs.Words.{◌≡◌, ◌≢◌, ℕ, suc, ◌+◌, ◌≤◌, ◌<◌, List, [], ◌∷◌, ◌++◌, length, Option, Some, Result, Ok, Err, refl, sym, ap, subst, ◌∙◌}
use Rattle.pnm_flow.proofs.Words.{append_assoc, append-nil, arith, true, ◌==◌, nat_tests, IfOk, IfSome, AllByRecursion, Sender, Receiver, sent, received}
use Rattle.pnm_flow.proofs.Words.{known_items, SameSender, SameReceiver, Message, Image, messages_of_stream, without_stop, IsPrefixOf, IsStreamOf, Tool}
use Rattle.pnm_flow.proofs.Words.{AreResults, AreLawfulTools, AreResultsInTurn, due_in_turn, IsLawfulTool, output_due, nothing_changes, prefix_by_results}
use Rattle.pnm_flow.proofs.Words.{prefix_of_prefix, results_are_images, same_in_turn, results_in_turn, ChainDone, StageDone, Link, StageEnd, Well, PeerGone}
use Rattle.pnm_flow.proofs.Words.{IsPrefixOfDue, IsEnded, IsWhole, IsDrained, IsStageOver, FirstIsThere, AreStages, HasAnsweredStream, HasRunChain, HasRunTool}
use Rattle.pnm_flow.proofs.Words.{HasRunStages, HasRunBetween, IsReserved, IsToolRun, HasEndedOver, nothing_follows, prefix_without_stop}
use Rattle.std.specs.Prelude.{vec_capacity}
use Rattle.pnm_stages.specs.declared.branches.NoStart.{NoStart}
use Rattle.pnm_flow.proofs.ToolOverLaws.{stage_ended, ended_well, received_ended, sent_ended, stage_due}

-- ---- what is left between two stages

drained_between : (lanes : ℕ) (tool next : Tool) (end after : StageEnd) (link : Link) (l g : List Message) → IsStageOver lanes tool end l (sent link.producer)
    → IsWhole link → IsStageOver lanes next after (received link.consumer) g → end ≢ PeerGone → after ≢ PeerGone
    → IsDrained link
drained_between lanes tool next end after link l g first whole second there also =
    nothing_follows (received link.consumer) (known_items link.consumer)
    (received_ended lanes next after (received link.consumer) g (stage_ended lanes next after (received link.consumer) g second) also)
    (subst IsEnded whole.in_order (sent_ended lanes tool end l (sent link.producer) (stage_ended lanes tool end l (sent link.producer) first) there))

-- ---- one stage more

no_stages : (lanes : ℕ) (tools : List Tool) (links : List Link) (took gave : List Message) → AreStages lanes tools [] links took gave → ⊥
no_stages lanes [] links took gave are = are
no_stages lanes (t ∷ tools) links took gave are = are

pub add_stage : (lanes : ℕ) (tools : List Tool) (ends : List StageEnd) (links : List Link) (tool : Tool) (end : StageEnd) (link : Link)
    (took gave : List Message)
    → AreStages lanes tools ends links took (sent link.producer) → IsWhole link → IsStageOver lanes tool end (received link.consumer) gave
    → AreStages lanes (tools ++ tool ∷ []) (ends ++ end ∷ []) (links ++ link ∷ []) took gave
add_stage lanes [] ends links tool end link took gave are whole is = absurd are
add_stage lanes (t ∷ tools) [] links tool end link took gave are whole is = absurd are
add_stage lanes (t ∷ []) (e ∷ []) [] tool end link took gave are whole is =
    (are.2, whole, (λ there also. drained_between lanes t tool e end link took gave are.2 whole is there also), (refl, refl, is))
add_stage lanes (t ∷ []) (e ∷ e2 ∷ ends) [] tool end link took gave are whole is = let none = are.1 in absurd cc
add_stage lanes (t ∷ t2 ∷ tools) (e ∷ ends) [] tool end link took gave are whole is = let none = are.0 in absurd cc
add_stage lanes (t ∷ tools) (e ∷ []) (l ∷ links) tool end link took gave are whole is =
    absurd (no_stages lanes tools links (received l.consumer) (sent link.producer) are.3)
add_stage lanes (t ∷ tools) (e ∷ e2 ∷ ends) (l ∷ links) tool end link took gave are whole is =
    (are.0, are.1, are.2, add_stage lanes tools (e2 ∷ ends) links tool end link (received l.consumer) gave are.3 whole is)

-- ---- how many

pub count : (lanes : ℕ) (tools : List Tool) (ends : List StageEnd) (links : List Link) (took gave : List Message) → AreStages lanes tools ends links took gave
    → (length ends ≡ length tools) × (length links + 1 ≡ length tools)
count lanes [] ends links took gave are = absurd are
count lanes (t ∷ tools) [] links took gave are = absurd are
count lanes (t ∷ []) (e ∷ []) [] took gave are = (refl, refl)
count lanes (t ∷ []) (e ∷ e2 ∷ ends) [] took gave are = let none = are.1 in absurd cc
count lanes (t ∷ t2 ∷ tools) (e ∷ ends) [] took gave are = let none = are.0 in absurd cc
count lanes (t ∷ tools) (e ∷ ends) (l ∷ links) took gave are =
    let rest = count lanes tools ends links (received l.consumer) gave are.3 in
    (ap suc rest.0, omega (arith, rest.1))

-- ---- where no stage saw a neighbour's end dropped

first_is_there : (lanes : ℕ) (tools : List Tool) (ends : List StageEnd) (links : List Link) (took gave : List Message)
    → AreStages lanes tools ends links took gave → AllByRecursion (λ end. end ≢ PeerGone) ends → FirstIsThere ends
first_is_there lanes tools [] links took gave are all = absurd (no_stages lanes tools links took gave are)
first_is_there lanes tools (e ∷ ends) links took gave are all = all.0

all_drained : (lanes : ℕ) (tools : List Tool) (ends : List StageEnd) (links : List Link) (took gave : List Message) → AreStages lanes tools ends links took gave
    → AllByRecursion (λ end. end ≢ PeerGone) ends → AllByRecursion IsDrained links
all_drained lanes tools ends [] took gave are all = tt
all_drained lanes [] ends (l ∷ links) took gave are all = absurd are
all_drained lanes (t ∷ tools) [] (l ∷ links) took gave are all = absurd are
all_drained lanes (t ∷ tools) (e ∷ ends) (l ∷ links) took gave are all = (
  are.2 all.0 (first_is_there lanes tools ends links (received l.consumer) gave are.3 all.1),
  all_drained lanes tools ends links (received l.consumer) gave are.3 all.1,
)

-- ---- where all ended well

none_gone : (ends : List StageEnd) → AllByRecursion (λ end. end ≡ Well) ends → AllByRecursion (λ end. end ≢ PeerGone) ends
none_gone [] all = tt
none_gone (e ∷ ends) all = ((λ gone. let well = all.0 in absurd cc), none_gone ends all.1)

one_well : (tool : Tool) (l g : List Message) (images results : List Image) → IsStreamOf l images → AreResults tool images results
    → g ≡ messages_of_stream results → HasAnsweredStream (tool ∷ []) l g
one_well tool l g images results stream made answer =
    record {
      images = images;
      results = results;
      stream = stream;
      made = results_in_turn tool [] images results results made (same_in_turn results);
      answer = answer;
    }

pub all_well : (lanes : ℕ) (tools : List Tool) (ends : List StageEnd) (links : List Link) (took gave : List Message) → AreLawfulTools tools
    → AreStages lanes tools ends links took gave → AllByRecursion (λ end. end ≡ Well) ends → HasAnsweredStream tools took gave
all_well lanes [] ends links took gave lawful are all = absurd are
all_well lanes (t ∷ tools) [] links took gave lawful are all = absurd are
all_well lanes (t ∷ []) (e ∷ ends) [] took gave lawful are all =
    let ended = ended_well lanes t took gave (subst (λ (x : StageEnd). HasEndedOver lanes t x took gave) all.0 (stage_ended lanes t e took gave are.2)) in
    one_well t took gave ended.images ended.results ended.stream ended.made ended.answer
all_well lanes (t ∷ t2 ∷ tools) (e ∷ ends) [] took gave lawful are all = let none = are.0 in absurd cc
all_well lanes (t ∷ tools) (e ∷ ends) (l ∷ links) took gave lawful are all =
    let ended =
    ended_well lanes t took (sent l.producer)
    (subst (λ (x : StageEnd). HasEndedOver lanes t x took (sent l.producer)) all.0 (stage_ended lanes t e took (sent l.producer) are.0)) in
    let there = none_gone (e ∷ ends) all in
    let none_left = are.2 there.0 (first_is_there lanes tools ends links (received l.consumer) gave are.3 there.1) in
    let passed : received l.consumer ≡ messages_of_stream ended.results = sym (append-nil (received l.consumer))
    ∙ ap (λ (x : List Message). received l.consumer ++ x) (sym none_left) ∙ sym are.1.in_order ∙ ended.answer in
    let others = all_well lanes tools ends links (received l.consumer) gave lawful.1 are.3 all.1 in
    let same : ended.results ≡ others.images =
    others.stream.only ended.results (results_are_images t ended.images ended.results lawful.0 ended.stream.images ended.made) passed in
    record {
      images = ended.images;
      results = others.results;
      stream = ended.stream;
      made = results_in_turn t tools ended.images ended.results others.results ended.made
          (subst (λ (x : List Image). AreResultsInTurn tools x others.results) (sym same) others.made);
      answer = others.answer;
    }

-- ---- however they ended

one_due : (tool : Tool) (l g : List Message) → IsLawfulTool tool → IsPrefixOfDue (output_due tool) l g → IsPrefixOfDue (due_in_turn (tool ∷ [])) l g
one_due tool l g lawful due = record {
  accepted = due.accepted;
  rest = due.rest;
  parts = due.parts;
  lawful = due.lawful;
  prefix = λ is completes. prefix_by_results tool [] is (without_stop g) (without_stop g) lawful completes.images (due.prefix is completes)
      (λ js are prefix. subst (IsPrefixOf (without_stop g)) (sym (nothing_changes js)) prefix);
}

-- what was accepted of what was received, without a last Stop, is a prefix of what was sent
accepted_of_sent : (accepted rest received left sent : List Message) → received ≡ accepted ++ rest → sent ≡ received ++ left
    → IsPrefixOf (without_stop accepted) (without_stop sent)
accepted_of_sent accepted rest received left sent parts whole =
    subst (λ (x : List Message). IsPrefixOf (without_stop accepted) (without_stop x))
    (sym (whole ∙ ap (λ (x : List Message). x ++ left) parts ∙ append_assoc accepted rest left)) (prefix_without_stop accepted (rest ++ left))

pub all_due : (lanes : ℕ) (tools : List Tool) (ends : List StageEnd) (links : List Link) (took gave : List Message) → AreLawfulTools tools
    → AreStages lanes tools ends links took gave → IsPrefixOfDue (due_in_turn tools) took gave
all_due lanes [] ends links took gave lawful are = absurd are
all_due lanes (t ∷ tools) [] links took gave lawful are = absurd are
all_due lanes (t ∷ []) (e ∷ ends) [] took gave lawful are = one_due t took gave lawful.0 (stage_due lanes t e took gave are.2)
all_due lanes (t ∷ t2 ∷ tools) (e ∷ ends) [] took gave lawful are = let none = are.0 in absurd cc
all_due lanes (t ∷ tools) (e ∷ ends) (l ∷ links) took gave lawful are =
    let first = stage_due lanes t e took (sent l.producer) are.0 in
    let others = all_due lanes tools ends links (received l.consumer) gave lawful.1 are.3 in
    record {
      accepted = first.accepted;
      rest = first.rest;
      parts = first.parts;
      lawful = first.lawful;
      prefix = λ is completes. prefix_by_results t tools is (without_stop others.accepted) (without_stop gave) lawful.0 completes.images
          (prefix_of_prefix (without_stop others.accepted) (without_stop (sent l.producer)) (output_due t is)
          (accepted_of_sent others.accepted others.rest (received l.consumer) (known_items l.consumer) (sent l.producer) others.parts are.1.in_order)
          (first.prefix is completes))
          (λ js images prefix. others.prefix js (record { images = images; prefix = prefix }));
    }

-- ---- the chain

pub chain_has_run : (lanes : ℕ) (tools : List Tool) (ends : List StageEnd) (links : List Link) (r r' s s' : List Message) → AreLawfulTools tools
    → HasRunStages lanes tools ends links r r' s s' → HasRunChain lanes tools ends links r r' s s'
chain_has_run lanes tools ends links r r' s s' lawful run =
    let counts = count lanes tools ends links run.took run.gave run.stages in
    record {
      took = run.took;
      gave = run.gave;
      input = run.input;
      output = run.output;
      count = counts.0;
      between = counts.1;
      stages = run.stages;
      drained = all_drained lanes tools ends links run.took run.gave run.stages;
      well = all_well lanes tools ends links run.took run.gave lawful run.stages;
      due = all_due lanes tools ends links run.took run.gave lawful run.stages;
    }

-- a chain of one
pub one_stage : (lanes : ℕ) (tool : Tool) (end : StageEnd) (r r' left s s' : List Message) → HasRunTool lanes tool end r r' left s s'
    → HasRunStages lanes (tool ∷ []) (end ∷ []) [] r r' s s'
one_stage lanes tool end r r' left s s' run =
    record { took = run.took; gave = run.gave; input = run.input; output = run.output; stages = (refl, refl, run.stage) }

-- a chain, and a stage after it, over a ring that had passed nothing before
stages_after : (lanes : ℕ) (tools : List Tool) (ends : List StageEnd) (links : List Link) (tool : Tool) (end : StageEnd) (link : Link)
    (r r' s s' left p p' c c' : List Message)
    → p ≡ [] → c ≡ [] → HasRunStages lanes tools ends links r r' p p' → HasRunTool lanes tool end c c' left s s' → IsWhole link → sent link.producer ≡ p'
    → received link.consumer ≡ c'
    → HasRunStages lanes (tools ++ tool ∷ []) (ends ++ end ∷ []) (links ++ link ∷ []) r r' s s'
stages_after lanes tools ends links tool end link r r' s s' left p p' c c' no_p no_c run last whole sends receives =
    let gave : p' ≡ run.gave = run.output ∙ ap (λ (x : List Message). x ++ run.gave) no_p in
    let took : c' ≡ last.took = last.input ∙ ap (λ (x : List Message). x ++ last.took) no_c in
    record {
      took = run.took;
      gave = last.gave;
      input = run.input;
      output = last.output;
      stages = add_stage lanes tools ends links tool end link run.took last.gave
          (subst (AreStages lanes tools ends links run.took) (sym (sends ∙ gave)) run.stages) whole
          (subst (λ (x : List Message). IsStageOver lanes tool end x last.gave) (sym (receives ∙ took)) last.stage);
    }

-- the lists that came of it
pub stages_extended : (lanes : ℕ) (tools all : List Tool) (ends all_ends : List StageEnd) (links all_links : List Link) (tool : Tool) (end : StageEnd)
    (r r' s s' left p p' c c' : List Message)
    → p ≡ [] → c ≡ [] → HasRunStages lanes tools ends links r r' p p' → HasRunTool lanes tool end c c' left s s'
    → all ≡ tools ++ tool ∷ [] → all_ends ≡ ends ++ end ∷ [] → (link : Link) × (all_links ≡ links ++ link ∷ []) × IsWhole link × (sent link.producer ≡ p')
    × (received link.consumer ≡ c')
    → HasRunStages lanes all all_ends all_links r r' s s'
stages_extended lanes tools all ends all_ends links all_links tool end r r' s s' left p p' c c' no_p no_c run last parts end_last link =
    let joined = stages_after lanes tools ends links tool end link.0 r r' s s' left p p' c c' no_p no_c run last link.2 link.3 link.4 in
    subst (λ (x : List Tool). HasRunStages lanes x all_ends all_links r r' s s') (sym parts)
    (subst (λ (x : List StageEnd). HasRunStages lanes (tools ++ tool ∷ []) x all_links r r' s s') (sym end_last)
    (subst (λ (x : List Link). HasRunStages lanes (tools ++ tool ∷ []) (ends ++ end ∷ []) x r r' s s') (sym link.1) joined))

-- a chain that came back
pub came_back : {B : Type 0} (lanes : ℕ) (tools : List Tool) (links_reserved ends_reserved : ℕ) (input : Receiver) (output : Sender) (P : B → Type 0)
    (result : Option (ChainDone × B)) (done : ChainDone) (b : B)
    → IfSome result (λ r. HasRunBetween lanes tools links_reserved ends_reserved input output r.0 × P r.1) → result ≡ Some (done, b)
    → HasRunBetween lanes tools links_reserved ends_reserved input output done × P b
came_back {B = B} lanes tools links_reserved ends_reserved input output P result done b has is =
    subst (λ (x : Option (ChainDone × B)). IfSome x (λ r. HasRunBetween lanes tools links_reserved ends_reserved input output r.0 × P r.1)) is has

-- a chain of one tool, over these ring ends
pub only_stage : (lanes : ℕ) (tools others : List Tool) (tool : Tool) (links_reserved ends_reserved : ℕ) (input : Receiver) (output : Sender)
    (one : StageDone) (done : ChainDone)
    → tools ≡ others ++ tool ∷ [] → (length others == 0) ≡ true → IsToolRun lanes tool input output one
    → (done.input ≡ one.input) × (done.output ≡ one.output) → (done.links.items ≡ []) × (done.ends.items ≡ one.end ∷ [])
    → (vec_capacity done.links ≡ links_reserved) × (vec_capacity done.ends ≡ ends_reserved)
    → HasRunBetween lanes tools links_reserved ends_reserved input output done
only_stage lanes tools [] tool links_reserved ends_reserved input output one done parts none run ends lists reserved = record {
  same_input = subst (SameReceiver input) (sym ends.0) run.0;
  same_output = subst (SameSender output) (sym ends.1) run.1;
  ran = rw (parts, lists.1, lists.0, ends.0, ends.1)
      (one_stage lanes tool one.end (received input) (received one.input) (known_items one.input) (sent output) (sent one.output) run.2);
  for_links = reserved.0;
  for_ends = reserved.1;
}
only_stage lanes tools (t ∷ ts) tool links_reserved ends_reserved input output one done parts none run ends lists reserved =
    absurd (grind (arith, nat_tests))

-- room for several tools is room for fewer
pub reserved_for_fewer : (count fewer : ℕ) (links : List Link) (links_reserved : ℕ) (ends : List StageEnd) (ends_reserved : ℕ)
    → IsReserved count links links_reserved ends ends_reserved → fewer ≤ count → IsReserved fewer links links_reserved ends ends_reserved
reserved_for_fewer count fewer links links_reserved ends ends_reserved reserved less = record {
  no_links = reserved.no_links;
  no_ends = reserved.no_ends;
  for_links = omega (arith, reserved.for_links);
  for_ends = omega (arith, reserved.for_ends);
}

-- there is still room for a link and an end
pub has_reserved : (count lanes : ℕ) (tools : List Tool) (links_reserved ends_reserved : ℕ) (input : Receiver) (output : Sender) (done : ChainDone)
    → HasRunBetween lanes tools links_reserved ends_reserved input output done → length tools + 1 ≤ count → count ≤ links_reserved → count ≤ ends_reserved
    → (length done.links.items < vec_capacity done.links) × (length done.ends.items < vec_capacity done.ends)
has_reserved most lanes tools links_reserved ends_reserved input output done has few links ends =
    let counts = count lanes tools done.ends.items done.links.items has.ran.took has.ran.gave has.ran.stages in
    (omega (arith, counts.1, has.for_links), omega (arith, counts.0, has.for_ends))

lawful_last : (tools : List Tool) (tool : Tool) → AreLawfulTools (tools ++ tool ∷ []) → IsLawfulTool tool × AreLawfulTools tools
lawful_last [] tool lawful = (lawful.0, tt)
lawful_last (t ∷ tools) tool lawful =
    let rest = lawful_last tools tool lawful.1 in
    (rest.0, (lawful.0, rest.1))

-- the last of lawful tools, and those before it
pub last_is_lawful : (all tools : List Tool) (tool : Tool) → all ≡ tools ++ tool ∷ [] → AreLawfulTools all → IsLawfulTool tool × AreLawfulTools tools
last_is_lawful all tools tool parts lawful = lawful_last tools tool (subst AreLawfulTools parts lawful)

pub chain_came_back : {B : Type 0} (lanes : ℕ) (tools : List Tool) (links_reserved ends_reserved : ℕ) (input : Receiver) (output : Sender)
    (result : Result (ChainDone × B) NoStart) → AreLawfulTools tools
    → IfOk result (λ r. HasRunBetween lanes tools links_reserved ends_reserved input output r.0)
    → IfOk result (λ r. HasRunChain lanes tools r.0.ends.items r.0.links.items (received input) (received r.0.input) (sent output) (sent r.0.output))
chain_came_back lanes tools links_reserved ends_reserved input output (Ok (done, b)) lawful has =
    chain_has_run lanes tools done.ends.items done.links.items (received input) (received done.input) (sent output) (sent done.output) lawful has.ran
chain_came_back lanes tools links_reserved ends_reserved input output (Err refused) lawful has = tt
