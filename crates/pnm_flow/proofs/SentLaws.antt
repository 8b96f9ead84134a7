-- What the tools of a run over threads have sent, by what is promised of the run.
use Rattle.pnm_flow.proofs.Words.{◌≡◌, ◌≢◌, ◌⊎◌, inl, inr, ℕ, zero, suc, ◌+◌, ◌-◌, ◌<◌, List, [], ◌∷◌, ◌++◌, map, take, length, Option, Some, None, Result, Ok}
use Rattle.pnm_flow.proofs.Words.{Err, refl, sym, ap, subst, ◌∙◌, append-nil, arith, Appends, Failed, Form, Message, Between, Image, AreImages}
use Rattle.pnm_flow.proofs.Words.{messages_of_stream, without_stop, IsPrefixOf, Completes, InputFault, said_of, AreSaid, ToolFault, Memory, Tool, AreSound}
use Rattle.pnm_flow.proofs.Words.{IsLawfulTool, AreLawfulTools, Refusal, due_in_turn, refusal_from, results_of, prefix_of_due_is_sound, nothing_changes}
use Rattle.pnm_flow.proofs.Words.{refusal_by, results_are_images, EndsUnbroken, sound_ends, sound_keeps_all, unbroken_keeps_all, SinkFault, written_of}
use Rattle.pnm_flow.proofs.Words.{RunFault, NoStart, Input, OfTool, Output, Gone, Summary, Job, Change, MayFollow, MustGiveAll, HasRun, RefusalIs, IsAnswer}
use Rattle.pnm_flow.proofs.Words.{rest_follows, rest_of, said_are_sound, due_of_one, due_of_others, are_results, verdict_is_of_text, StageEnd, Well, Fault}
use Rattle.pnm_flow.proofs.Words.{PeerGone, first_fault_from, HasEndedOver, HaveEnded, IsAllSent, WhatTheToolsSent}
use Rattle.pnm_flow.proofs.SentEnds.{Fails, in_lanes_or_alone, alone_is_one, ended_well_over, failed_somehow, last_sent}
use Rattle.pnm_flow.proofs.StageEndLaws.{LastIsAlone}

-- ---- no tool refused

abbrev all_well : List Tool → List StageEnd
all_well tools = map (λ tool. Well) tools

none_at_fault : (from : ℕ) (tools : List Tool) → first_fault_from from (all_well tools) ≡ None
none_at_fault from [] = refl
none_at_fault from (tool ∷ tools) = none_at_fault (from + 1) tools

well_by : (lanes from : ℕ) (tool : Tool) (tools : List Tool) (is : List Image) (r : Result (List Image) ToolFault) → IsLawfulTool tool → AreImages is
    → results_of tool is ≡ r
    → ((js : List Image) → AreImages js → refusal_from (from + 1) tools js ≡ None
    → HaveEnded lanes tools (all_well tools) (messages_of_stream js) (due_in_turn tools js))
    → refusal_by from tools r ≡ None → HaveEnded lanes (tool ∷ tools) (all_well (tool ∷ tools)) (messages_of_stream is) (due_in_turn (tool ∷ tools) is)
well_by lanes from tool tools is (Ok js) lawful images made others none =
    let are = are_results tool is js made in (
      messages_of_stream js,
      ended_well_over lanes tool is js lawful images are,
      subst (HaveEnded lanes tools (all_well tools) (messages_of_stream js)) (sym (due_of_others tool tools is js are))
          (others js (results_are_images tool is js lawful images are) none),
    )
well_by lanes from tool tools is (Err fault) lawful images made others none = absurd cc

have_ended_well : (lanes from : ℕ) (tools : List Tool) (is : List Image) → AreLawfulTools tools → AreImages is → refusal_from from tools is ≡ None
    → HaveEnded lanes tools (all_well tools) (messages_of_stream is) (due_in_turn tools is)
have_ended_well lanes from [] is lawful images none = nothing_changes is
have_ended_well lanes from (tool ∷ tools) is lawful images none =
    well_by lanes from tool tools is (results_of tool is) lawful.0 images refl
    (λ js are none_too. have_ended_well lanes (from + 1) tools js lawful.1 are none_too) none

-- ---- one did

-- tools that have seen an end dropped
gone_over : (lanes : ℕ) (tool : Tool) (took gave : List Message) → HasEndedOver lanes tool PeerGone took gave
gone_over lanes tool took gave =
    elim (in_lanes_or_alone lanes tool) [
      | inl several ↦ inl (several, tt)
      | inr one ↦ inr (alone_is_one lanes tool one, tt)
    ]

abbrev all_gone : List Tool → List StageEnd
all_gone tools = map (λ tool. PeerGone) tools

have_gone : (lanes : ℕ) (tool : Tool) (tools : List Tool) (took gave : List Message) → HaveEnded lanes (tool ∷ tools) (all_gone (tool ∷ tools)) took gave
have_gone lanes tool [] took gave = (gave, gone_over lanes tool took gave, refl)
have_gone lanes tool (next ∷ tools) took gave = (gave, gone_over lanes tool took gave, have_gone lanes next tools gave gave)

-- the first that is at fault
abbrev StopsAt : ℕ → List Tool → List Image → ℕ → ToolFault → Type 0
StopsAt from [] is number fault = ⊥
StopsAt from (tool ∷ tools) is number fault = ((number ≡ from) × Fails tool fault is)
    ⊎ ((js : List Image) × (results_of tool is ≡ Ok js) × StopsAt (from + 1) tools js number fault)

-- the tools have ended so, and of what the last one sent as much was written as of this list
record Sent (lanes : ℕ) (form : Form) (from : ℕ) (tools : List Tool) (is : List Image) (number : ℕ) (fault : ToolFault) (out : List Message) : Type 0 where
  ends : List StageEnd
  given : List Message
  first : first_fault_from from ends ≡ Some (OfTool number fault)
  ended : HaveEnded lanes tools ends (messages_of_stream is) given
  written : written_of form (without_stop given) ≡ written_of form out

at_fault : (from number : ℕ) (fault : ToolFault) → number ≡ from → Some (OfTool from fault) ≡ Some (OfTool number fault)
at_fault from number fault at = ap (λ (n : ℕ). Some (OfTool n fault)) (sym at)

-- a tool's fault is answered
tool_is : (number n : ℕ) (fault f : ToolFault) (answer : Result Summary RunFault) → answer ≡ Err (OfTool number fault) → answer ≡ Err (OfTool n f)
    → OfTool number fault ≡ OfTool n f
tool_is number n fault f answer is is_too = cc

sent_until : (lanes : ℕ) (form : Form) (from : ℕ) (tools : List Tool) (is : List Image) (number : ℕ) (fault : ToolFault) (out : List Message)
    → AreLawfulTools tools → AreImages is → StopsAt from tools is number fault → IsPrefixOf out (due_in_turn tools is) → EndsUnbroken out
    → (fault ≢ Memory → number + 1 ≡ from + length tools → LastIsAlone lanes tools → out ≡ due_in_turn tools is)
    → Sent lanes form from tools is number fault out
sent_until lanes form from [] is number fault out lawful images stops prefix ends all = absurd stops
sent_until lanes form from (tool ∷ []) is number fault out lawful images (inl here) prefix ends all =
    let last = last_sent lanes form tool fault is out lawful.0 images here.1 (subst (IsPrefixOf out) (due_of_one tool is) prefix) ends
    (λ named alone. all named (omega (arith, here.0)) ([], tool, refl, alone) ∙ due_of_one tool is) in
    record {
      ends = Fault fault ∷ [];
      given = last.given;
      first = at_fault from number fault here.0;
      ended = (last.given, last.ended, refl);
      written = last.written;
    }
sent_until lanes form from (tool ∷ next ∷ tools) is number fault out lawful images (inl here) prefix ends all =
    let some = failed_somehow lanes tool fault is lawful.0 images here.1 in
    record {
      ends = Fault fault ∷ all_gone (next ∷ tools);
      given = out;
      first = at_fault from number fault here.0;
      ended = (some.0, some.1, have_gone lanes next tools some.0 out);
      written = ap (written_of form) (unbroken_keeps_all ends.0 out ends.1 ends.2);
    }
sent_until lanes form from (tool ∷ tools) is number fault out lawful images (inr later) prefix ends all =
    let are = are_results tool is later.0 later.1 in
    let due = due_of_others tool tools is later.0 are in
    let others = sent_until lanes form (from + 1) tools later.0 number fault out lawful.1 (results_are_images tool is later.0 lawful.0 images are) later.2
    (subst (IsPrefixOf out) due prefix) ends
    (λ named last alone. all named (omega (arith, last)) (tool ∷ alone.0, alone.1, ap (λ (x : List Tool). tool ∷ x) alone.2, alone.3) ∙ due) in
    record {
      ends = Well ∷ others.ends;
      given = others.given;
      first = others.first;
      ended = (messages_of_stream later.0, ended_well_over lanes tool is later.0 lawful.0 images are, others.ended);
      written = others.written;
    }

-- ---- where a run stops

abbrev number_in : ℕ → Option Refusal → ℕ
number_in other None = other
number_in other (Some refusal) = refusal.number

abbrev fault_in : ToolFault → Option Refusal → ToolFault
fault_in other None = other
fault_in other (Some refusal) = refusal.fault

refused_by : (from : ℕ) (tool : Tool) (tools : List Tool) (is : List Image) (number : ℕ) (fault : ToolFault) (r : Result (List Image) ToolFault)
    → fault ≢ Memory → results_of tool is ≡ r
    → ((js : List Image) → refusal_from (from + 1) tools js ≡ Some (record { number = number; fault = fault })
    → StopsAt (from + 1) tools js number fault)
    → refusal_by from tools r ≡ Some (record { number = number; fault = fault }) → StopsAt from (tool ∷ tools) is number fault
refused_by from tool tools is number fault (Ok js) named made others refused = inr (js, made, others js refused)
refused_by from tool tools is number fault (Err other) named made others refused =
    inl (sym (ap (number_in from) refused), inr (named, made ∙ ap Err (ap (fault_in other) refused)))

-- at the refusal of the chain
stops_at_refusal : (from : ℕ) (tools : List Tool) (is : List Image) (number : ℕ) (fault : ToolFault) → fault ≢ Memory
    → refusal_from from tools is ≡ Some (record { number = number; fault = fault }) → StopsAt from tools is number fault
stops_at_refusal from [] is number fault named refused = absurd cc
stops_at_refusal from (tool ∷ tools) is number fault named refused =
    refused_by from tool tools is number fault (results_of tool is) named refl
    (λ js refused_too. stops_at_refusal (from + 1) tools js number fault named refused_too) refused

out_of_memory : (from : ℕ) (tool : Tool) (tools : List Tool) (count : ℕ) (is : List Image) (number : ℕ) (r : Result (List Image) ToolFault)
    → results_of tool is ≡ r
    → ((js : List Image) → refusal_from (from + 1) (take count tools) js ≡ None → StopsAt (from + 1) tools js number Memory)
    → refusal_by from (take count tools) r ≡ None → StopsAt from (tool ∷ tools) is number Memory
out_of_memory from tool tools count is number (Ok js) made others none = inr (js, made, others js none)
out_of_memory from tool tools count is number (Err fault) made others none = absurd cc

-- or where memory ran out
stops_for_memory : (from count : ℕ) (tools : List Tool) (is : List Image) (number : ℕ) → number ≡ from + count → count < length tools
    → refusal_from from (take count tools) is ≡ None → StopsAt from tools is number Memory
stops_for_memory from count [] is number at within none = absurd (omega (arith, within))
stops_for_memory from zero (tool ∷ tools) is number at within none = inl (omega (arith, at), inl refl)
stops_for_memory from (suc count) (tool ∷ tools) is number at within none =
    out_of_memory from tool tools count is number (results_of tool is) refl
    (λ js none_too. stops_for_memory (from + 1) count tools js number (omega (arith, at)) (omega (arith, within)) none_too) none

-- ---- the run

-- what a run has given to the output, for the reader's own text
record Given (lanes : ℕ) (job : Job) (answer : Result Summary RunFault) (text : List ℕ) (old new : Option (List ℕ)) : Type 0 where
  out : List Message
  due : (images : List Image) → Completes images (said_of text) → IsPrefixOf out (due_in_turn job.tools images)
  full : MustGiveAll lanes job answer → (images : List Image) → AreSaid text images → out ≡ due_in_turn job.tools images
  written : Appends old new (written_of job.form out)

-- it is sound
given_sound : (lanes : ℕ) (job : Job) (answer : Result Summary RunFault) (text : List ℕ) (old new : Option (List ℕ)) → AreLawfulTools job.tools
    → (given : Given lanes job answer text old new) → AreSound given.out
given_sound lanes job answer text old new lawful given = prefix_of_due_is_sound job.tools (said_of text) given.out lawful (said_are_sound text) given.due

said_complete : (text : List ℕ) (images : List Image) → AreSaid text images → Completes images (said_of text)
said_complete text images said = record {
  images = said.images_are;
  prefix = ([], sym said.messages ∙ sym (sound_keeps_all (said_of text) (said_are_sound text).sound) ∙ sym (append-nil (without_stop (said_of text))));
}

sent_well : (lanes : ℕ) (job : Job) (answer : Result Summary RunFault) (text : List ℕ) (old new : Option (List ℕ)) → AreLawfulTools job.tools
    → Given lanes job answer text old new → MustGiveAll lanes job answer → ((number : ℕ) (fault : ToolFault) → answer ≢ Err (OfTool number fault))
    → RefusalIs text job.tools None → IsAllSent text lanes job answer old new
sent_well lanes job answer text old new lawful given all not_tool accepted =
    let images : List Image = accepted.0 in
    let sound = given_sound lanes job answer text old new lawful given in
    let ended = have_ended_well lanes 1 job.tools images lawful accepted.1.images_are accepted.2 in
    record {
      ends = all_well job.tools;
      given = given.out;
      first = λ number fault is. absurd (not_tool number fault is);
      none = λ never. none_at_fault 1 job.tools;
      ended = subst (λ (x : List Message). HaveEnded lanes job.tools (all_well job.tools) x given.out) (sym accepted.1.messages)
          (subst (HaveEnded lanes job.tools (all_well job.tools) (messages_of_stream images)) (sym (given.full all images accepted.1)) ended);
      written = subst (λ (x : List Message). Appends old new (written_of job.form x)) (sym (sound_keeps_all given.out sound.sound)) given.written;
    }

sent_by_fault : (lanes : ℕ) (job : Job) (number : ℕ) (fault : ToolFault) (text : List ℕ) (old new : Option (List ℕ)) → AreLawfulTools job.tools
    → Given lanes job (Err (OfTool number fault)) text old new → (images : List Image) → AreSaid text images → StopsAt 1 job.tools images number fault
    → IsAllSent text lanes job (Err (OfTool number fault)) old new
sent_by_fault lanes job number fault text old new lawful given images said stops =
    let sound = given_sound lanes job (Err (OfTool number fault)) text old new lawful given in
    let sent = sent_until lanes job.form 1 job.tools images number fault given.out lawful said.images_are stops
    (given.due images (said_complete text images said)) (sound_ends Between given.out sound.lawful sound.sound)
    (λ named last alone. given.full (named, omega (arith, last), alone) images said) in
    record {
      ends = sent.ends;
      given = sent.given;
      first = λ n f is. sent.first ∙ ap Some (tool_is number n fault f _ refl is);
      none = λ never. absurd (never number fault refl);
      ended = subst (λ (x : List Message). HaveEnded lanes job.tools sent.ends x sent.given) (sym said.messages) sent.ended;
      written = subst (Appends old new) (sym sent.written) given.written;
    }

sent_by_tool : (lanes : ℕ) (job : Job) (number : ℕ) (fault : ToolFault) (text : List ℕ) (old new : Option (List ℕ)) → AreLawfulTools job.tools
    → Given lanes job (Err (OfTool number fault)) text old new → IsAnswer text job (Err (OfTool number fault))
    → IsAllSent text lanes job (Err (OfTool number fault)) old new
sent_by_tool lanes job number fault text old new lawful given (inl refused) =
    let named : fault ≢ Memory = (verdict_is_of_text text job (OfTool number fault) lawful refused).0 in
    sent_by_fault lanes job number fault text old new lawful given refused.0 refused.1 (stops_at_refusal 1 job.tools refused.0 number fault named refused.2)
sent_by_tool lanes job number fault text old new lawful given (inr around) =
    let accepted = around.3 in
    let stops = stops_for_memory 1 (number - 1) job.tools accepted.0 number (omega (arith, around.1)) (omega (arith, around.1, around.2)) accepted.2 in
    sent_by_fault lanes job number fault text old new lawful given accepted.0 accepted.1
    (subst (StopsAt 1 job.tools accepted.0 number) (sym around.0) stops)

accepted_before_output : (text : List ℕ) (job : Job) (fault : SinkFault) → IsAnswer text job (Err (Output fault)) → RefusalIs text job.tools None
accepted_before_output text job fault (inl has) = (has.images, has.said, has.taken)
accepted_before_output text job fault (inr around) = around.1

never_started : (text : List ℕ) (job : Job) → IsAnswer text job (Err NoStart) → ⊥
never_started text job (inl verdict) = verdict
never_started text job (inr around) = around

given_of : (lanes : ℕ) (job : Job) (answer : Result Summary RunFault) (reader writer : Change) → (ran : HasRun lanes ⊥ job answer reader writer)
    → (text : List ℕ) → (rest : List ℕ) → MayFollow ⊥ answer reader rest → text ≡ ran.read ++ rest
    → ¬ Failed writer.failures_old writer.failures_new → Given lanes job answer text writer.old writer.new
given_of lanes job answer reader writer ran text rest may is sound = record {
  out = ran.bytes.given;
  due = λ images completes. ran.bytes.due text (rest, may, is) images completes;
  full = λ all images said. ran.bytes.full all text (rest, may, is) images said;
  written = ran.bytes.all sound;
}

sent_by_answer : (lanes : ℕ) (job : Job) (answer : Result Summary RunFault) (text : List ℕ) (old new : Option (List ℕ)) → AreLawfulTools job.tools
    → Given lanes job answer text old new → IsAnswer text job answer → ((fault : InputFault) → answer ≢ Err (Input fault))
    → ((number : ℕ) → answer ≢ Err (Gone number)) → IsAllSent text lanes job answer old new
sent_by_answer lanes job (Ok summary) text old new lawful given is not_input not_gone =
    sent_well lanes job (Ok summary) text old new lawful given tt (λ number fault e. absurd cc) (is.0.images, is.0.said, is.0.taken)
sent_by_answer lanes job (Err NoStart) text old new lawful given is not_input not_gone = absurd (never_started text job is)
sent_by_answer lanes job (Err (Input fault)) text old new lawful given is not_input not_gone = absurd (not_input fault refl)
sent_by_answer lanes job (Err (OfTool number fault)) text old new lawful given is not_input not_gone =
    sent_by_tool lanes job number fault text old new lawful given is
sent_by_answer lanes job (Err (Output fault)) text old new lawful given is not_input not_gone =
    sent_well lanes job (Err (Output fault)) text old new lawful given tt (λ number f e. absurd cc) (accepted_before_output text job fault is)
sent_by_answer lanes job (Err (Gone number)) text old new lawful given is not_input not_gone = absurd (not_gone number refl)

pub the_tools_sent : WhatTheToolsSent
the_tools_sent lanes job answer reader writer lawful ran text is not_input not_gone sound =
    let own = rest_of reader.old reader.new ran.read text ran.consumed is in
    let may = rest_follows ⊥ answer reader own.0 own.1 in
    let given = given_of lanes job answer reader writer ran text own.0 may own.2 sound in
    sent_by_answer lanes job answer text writer.old writer.new lawful given
    (subst (λ (l : List ℕ). IsAnswer l job answer) (sym own.2) (ran.verdict own.0 may)) not_input not_gone
