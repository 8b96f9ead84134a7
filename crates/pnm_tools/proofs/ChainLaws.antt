-- What the stages of a chain have given: the results of all images, or those before the first refusal.
use Rattle.pnm_tools.proofs.Words.{◌≡◌, ◌⊎◌, inl, inr, ℕ, zero, suc, ◌+◌, ◌-◌, ◌<◌, ◌≤◌, true, List, [], ◌∷◌, ◌++◌, length, take, Option, Some, None, Result}
use Rattle.pnm_tools.proofs.Words.{Ok, Err, refl, sym, ap, ap₂, subst, ◌∙◌, append-nil, arith, AllByRecursion, Message, Begin, Row, ImageEnd, StreamEnd, Stop}
use Rattle.pnm_tools.proofs.Words.{Between, Image, IsImage, AreImages, messages_of_image, messages_of_stream, IsMessage, EndsBy, IsPrefixOf, Completes}
use Rattle.pnm_tools.proofs.Words.{completion, stream_is_messages, stream_is_lawful, lawful_prefix, next_may_come, all_of_prefix, each-middle, ToolFault}
use Rattle.pnm_tools.proofs.Words.{OutOfOrder, Memory, Tool, IsLawfulTool, applied, output_due, More, Answers, AnswersInFull, RefusesHead, Judges, AreResults}
use Rattle.pnm_tools.proofs.Words.{AreLawfulTools, AreResultsInTurn, applied_in_turn, results_of, refusal_from, refusal_of, IsSound, AreSound, AreWell}
use Rattle.pnm_tools.proofs.Words.{IsFirstFault, IsRefusedNext, HasRefused, HasAnswered, HaveAnswered}
use Rattle.pnm_tools.specs.Chains.{due_in_turn}
use Rattle.pnm_tools.proofs.FullAnswers.{full_answer_is_the_stream}
use Rattle.pnm_tools.proofs.FullLaws.{prefix_of_prefix}
use Rattle.pnm_tools.proofs.HeadFaultLaws.{head_is_refused_by_name}
use Rattle.pnm_tools.proofs.SoundLaws.{HasRows, EndsUnbroken, prefix_after, sound_ends, unbroken_keeps_all, sound_keeps_all, stream_is_sound, HasSoundImages}
use Rattle.pnm_tools.proofs.SoundLaws.{sound_images, due_is_sound}
use Rattle.pnm_tools.proofs.PrefixLaws.{nothing_changes, prefix_by_results}
use Rattle.pnm_tools.proofs.ResultLaws.{result_is_image, result_has_rows}
use Rattle.pnm_tools.proofs.RefusalLaws.{results_are_images, results_are, same_in_turn, results_in_turn, refusal_by, in_order, refused_next}

-- a prefix of sound messages, and the messages of images that have rows, are sound
pub sound_prefix : (a b : List Message) → AreSound (a ++ b) → AreSound a
sound_prefix a b h =
    record { lawful = lawful_prefix Between a b h.lawful; messages = all_of_prefix IsMessage a b h.messages; sound = all_of_prefix IsSound a b h.sound }

stream_sound : (is : List Image) → AreImages is → AllByRecursion HasRows is → AreSound (messages_of_stream is)
stream_sound is are have = record { lawful = stream_is_lawful is are; messages = stream_is_messages is are; sound = stream_is_sound is have }

prefix_sound : (l : List Message) → HasSoundImages l → AreSound l
prefix_sound l h = sound_prefix l h.3.0 (subst AreSound h.3.1 (stream_sound h.0 h.1 h.2))

-- images complete sound messages where these are a prefix of theirs
received_prefix : (l : List Message) (is : List Image) → AreSound l → Completes is l → IsPrefixOf l (messages_of_stream is)
received_prefix l is sound completes = subst (λ (x : List Message). IsPrefixOf x (messages_of_stream is)) (sound_keeps_all l sound.sound) completes.prefix

completed : (l : List Message) (is : List Image) → AreSound l → AreImages is → IsPrefixOf l (messages_of_stream is) → Completes is l
completed l is sound are prefix =
    record { images = are; prefix = subst (λ (x : List Message). IsPrefixOf x (messages_of_stream is)) (sym (sound_keeps_all l sound.sound)) prefix }

-- what a stage accepted of what it received, and answered
record Stage (tool : Tool) (received given : List Message) : Type 0 where
  accepted : List Message
  rest : List Message
  parts : received ≡ accepted ++ rest
  sound : AreSound accepted
  answers : Answers tool accepted given
  ends : EndsUnbroken given

-- what a stage that refused gave isn't broken off
refused_ends : (tool : Tool) (fault : ToolFault) (accepted rest given : List Message) → AreSound accepted → ((fault ≡ Memory) × EndsBy More given)
    ⊎ (AnswersInFull tool accepted given × IsRefusedNext tool fault accepted rest) → EndsUnbroken given
refused_ends tool fault accepted rest given sound (inl memory) = (More, tt, memory.1)
refused_ends tool fault accepted rest given sound (inr refused) =
    let ends = sound_ends Between accepted sound.lawful sound.sound in
    (ends.0, ends.1, refused.0.ends ends.0 ends.2)

stage : (tool : Tool) (fault : Option ToolFault) (received given : List Message) → AreSound received → HasAnswered tool fault received given
    → Stage tool received given
stage tool None received given sound has =
    let ends = sound_ends Between received sound.lawful sound.sound in
    record {
      accepted = received;
      rest = [];
      parts = sym (append-nil received);
      sound = sound;
      answers = has.answers;
      ends = (ends.0, ends.1, has.ends ends.0 ends.2);
    }
stage tool (Some fault) received given sound has =
    record {
      accepted = has.accepted;
      rest = has.rest;
      parts = has.parts;
      sound = sound_prefix has.accepted has.rest (subst AreSound has.parts sound);
      answers = has.answers;
      ends = refused_ends tool fault has.accepted has.rest given (sound_prefix has.accepted has.rest (subst AreSound has.parts sound))
          has.refused;
    }

-- what it gave is a prefix of the output due
stage_due : (tool : Tool) (received given : List Message) (is : List Image) (s : Stage tool received given) → AreImages is
    → IsPrefixOf s.accepted (messages_of_stream is) → IsPrefixOf given (output_due tool is)
stage_due tool received given is s are prefix =
    subst (λ (x : List Message). IsPrefixOf x (output_due tool is)) (unbroken_keeps_all s.ends.0 given s.ends.1 s.ends.2)
    (s.answers.prefix is (completed s.accepted is s.sound are prefix))

stage_sound : (tool : Tool) (received given : List Message) → IsLawfulTool tool → Stage tool received given → AreSound given
stage_sound tool received given lawful s =
    let found = completion s.accepted s.sound.messages s.sound.lawful in
    let prefix = received_prefix s.accepted found.0 s.sound (record { images = found.1; prefix = found.2 }) in
    let images = sound_images found.0 s.accepted prefix.0 found.1 prefix.1 s.sound.sound in
    let due = due_is_sound tool images.0 lawful images.1 images.2 in
    prefix_sound given (
      due.0,
      due.1,
      due.2,
      prefix_of_prefix given (output_due tool images.0) (messages_of_stream due.0)
          (stage_due tool received given images.0 s images.1 images.3) due.3,
    )

-- what the last stage gave is sound as well
pub given_are_sound : (tools : List Tool) (faults : List (Option ToolFault)) (received given : List Message) → AreLawfulTools tools → AreSound received
    → HaveAnswered tools faults received given → AreSound given
given_are_sound [] [] received given lawful sound have = subst AreSound (sym have) sound
given_are_sound [] (fault ∷ faults) received given lawful sound have = absurd have
given_are_sound (tool ∷ tools) [] received given lawful sound have = absurd have
given_are_sound (tool ∷ tools) (fault ∷ faults) received given lawful sound have =
    given_are_sound tools faults have.0 given lawful.1 (stage_sound tool received have.0 lawful.0 (stage tool fault received have.0 sound have.1)) have.2

-- a stage that didn't refuse answered a stream by the stream of its results
abbrev Answered : Tool → List Image → List Message → Type 0
Answered tool is given = (js : List Image) × AreResults tool is js × AreImages js × (given ≡ messages_of_stream js)

stage_answered : (tool : Tool) (is : List Image) (given : List Message) → IsLawfulTool tool → AreImages is → HasAnswered tool None (messages_of_stream is) given
    → Answered tool is given
stage_answered tool is given lawful images has =
    let r = full_answer_is_the_stream tool is given images has in
    (r.0, r.1, results_are_images tool is r.0 lawful images r.1, r.2)

-- so did a chain, whose tools are numbered from here
answered_by_stream : (number : ℕ) (tools : List Tool) (faults : List (Option ToolFault)) (is : List Image) (given : List Message) → AreLawfulTools tools
    → AreImages is → AreWell faults → HaveAnswered tools faults (messages_of_stream is) given
    → (js : List Image) × AreResultsInTurn tools is js × AreImages js × (given ≡ messages_of_stream js) × (refusal_from number tools is ≡ None)
answered_by_stream number [] [] is given lawful images well have = (is, same_in_turn is, images, have, refl)
answered_by_stream number [] (fault ∷ faults) is given lawful images well have = absurd have
answered_by_stream number (tool ∷ tools) [] is given lawful images well have = absurd have
answered_by_stream number (tool ∷ tools) (None ∷ faults) is given lawful images well have =
    let r = stage_answered tool is have.0 lawful.0 images have.1 in
    let next = answered_by_stream (number + 1) tools faults r.0 given lawful.1 r.2 well
    (subst (λ (l : List Message). HaveAnswered tools faults l given) r.3 have.2) in
    (next.0, results_in_turn tool tools is r.0 next.0 r.1 next.1, next.2, next.3, ap (refusal_by number tools) (results_are tool is r.0 r.1) ∙ next.4)
answered_by_stream number (tool ∷ tools) (Some fault ∷ faults) is given lawful images well have = absurd well

-- where no stage refused, a stream was answered by the stream of its results
pub stream_is_answered : (tools : List Tool) (faults : List (Option ToolFault)) (is : List Image) (given : List Message) → AreLawfulTools tools → AreImages is
    → AreWell faults → HaveAnswered tools faults (messages_of_stream is) given
    → (js : List Image) × AreResultsInTurn tools is js × AreImages js × (given ≡ messages_of_stream js) × (refusal_of tools is ≡ None)
stream_is_answered tools faults is given lawful images well have = answered_by_stream 1 tools faults is given lawful images well have

-- memory ran out, or this is the refusal of the chain
abbrev IsRefusal : ℕ → List Tool → List Image → ℕ → ToolFault → Type 0
IsRefusal from tools is number fault = (fault ≡ Memory) ⊎ (refusal_from from tools is ≡ Some (record { number = number; fault = fault }))

-- the refusal of the first tool
refused_here : (from : ℕ) (tool : Tool) (tools : List Tool) (is : List Image) (number : ℕ) (fault other : ToolFault) → number ≡ from → fault ≡ other
    → (other ≡ Memory) ⊎ (results_of tool is ≡ Err other) → IsRefusal from (tool ∷ tools) is number fault
refused_here from tool tools is number fault other at same (inl memory) = inl (same ∙ memory)
refused_here from tool tools is number fault other at same (inr refused) =
    inr (ap (refusal_by from tools) refused ∙ ap₂ (λ (n : ℕ) (f : ToolFault). Some (record { number = n; fault = f })) (sym at) (sym same))

stage_refused : (tool : Tool) (fault : ToolFault) (is : List Image) (given : List Message) (has : HasRefused tool fault (messages_of_stream is) given)
    → AreImages is → ((fault ≡ Memory) × EndsBy More given) ⊎ (AnswersInFull tool has.accepted given × IsRefusedNext tool fault has.accepted has.rest)
    → (fault ≡ Memory) ⊎ (results_of tool is ≡ Err fault)
stage_refused tool fault is given has images (inl memory) = inl memory.0
stage_refused tool fault is given has images (inr refused) = refused_next tool fault is has.accepted has.rest images has.parts has.taken refused.1

-- the refusal of a later tool
refused_later : (from : ℕ) (tool : Tool) (tools : List Tool) (is js : List Image) (number : ℕ) (fault : ToolFault) → results_of tool is ≡ Ok js
    → IsRefusal (from + 1) tools js number fault → IsRefusal from (tool ∷ tools) is number fault
refused_later from tool tools is js number fault results (inl memory) = inl memory
refused_later from tool tools is js number fault results (inr refused) = inr (ap (refusal_by from tools) results ∙ refused)

first_refusal : (from : ℕ) (tools : List Tool) (faults : List (Option ToolFault)) (is : List Image) (given : List Message) (number : ℕ) (fault : ToolFault)
    → AreLawfulTools tools → AreImages is → HaveAnswered tools faults (messages_of_stream is) given
    → IsFirstFault from faults number fault → IsRefusal from tools is number fault
first_refusal from [] [] is given number fault lawful images have first = absurd first
first_refusal from [] (other ∷ faults) is given number fault lawful images have first = absurd have
first_refusal from (tool ∷ tools) [] is given number fault lawful images have first = absurd have
first_refusal from (tool ∷ tools) (None ∷ faults) is given number fault lawful images have first =
    let r = stage_answered tool is have.0 lawful.0 images have.1 in
    refused_later from tool tools is r.0 number fault (results_are tool is r.0 r.1)
    (first_refusal (from + 1) tools faults r.0 given number fault lawful.1 r.2 (subst (λ (l : List Message). HaveAnswered tools faults l given) r.3 have.2)
    first)
first_refusal from (tool ∷ tools) (Some other ∷ faults) is given number fault lawful images have first =
    refused_here from tool tools is number fault other first.0 first.1 (stage_refused tool other is have.0 have.1 images have.1.refused)

-- the first fault of the stages that a stream has passed is the refusal of the chain, unless memory ran out
pub refusal_is_first : (tools : List Tool) (faults : List (Option ToolFault)) (is : List Image) (given : List Message) (number : ℕ) (fault : ToolFault)
    → AreLawfulTools tools → AreImages is → AreSound (messages_of_stream is)
    → HaveAnswered tools faults (messages_of_stream is) given → IsFirstFault 1 faults number fault
    → (fault ≡ Memory) ⊎ (refusal_of tools is ≡ Some (record { number = number; fault = fault }))
refusal_is_first tools faults is given number fault lawful images sound have first = first_refusal 1 tools faults is given number fault lawful images have first

-- ---- the first fault

-- no message of images that have rows is out of order for its tool
begins_in_order : (tool : Tool) (m : Message) → IsSound m → RefusesHead tool m OutOfOrder → ⊥
begins_in_order tool (Begin head) sound refuses =
    let some : 0 < head.shape.height = sound in
    let named = head_is_refused_by_name tool head OutOfOrder refuses in
    omega (arith, named.1)
begins_in_order tool (Row row) sound refuses = refuses
begins_in_order tool ImageEnd sound refuses = refuses
begins_in_order tool StreamEnd sound refuses = refuses
begins_in_order tool Stop sound refuses = refuses

-- a stage refuses no message of a sound list as out of order
stage_in_order : (tool : Tool) (fault : ToolFault) (accepted rest given : List Message) → AreSound (accepted ++ rest) → ((fault ≡ Memory) × EndsBy More given)
    ⊎ (AnswersInFull tool accepted given × IsRefusedNext tool fault accepted rest) → fault ≡ OutOfOrder → ⊥
stage_in_order tool fault accepted rest given sound (inl memory) out =
    let ran_out : fault ≡ Memory = memory.0 in
    absurd cc
stage_in_order tool fault accepted [] given sound (inr refused) out = refused.1
stage_in_order tool fault accepted (m ∷ rest) given sound (inr refused) out =
    let may = next_may_come Between accepted m rest sound.lawful in
    let judges : Judges true tool accepted m (Err OutOfOrder) = subst (λ (f : ToolFault). Judges true tool accepted m (Err f)) out refused.1 in
    begins_in_order tool m (each-middle IsSound accepted m rest sound.sound) (in_order tool m accepted may judges)

first_in_order : (from : ℕ) (tools : List Tool) (faults : List (Option ToolFault)) (received given : List Message) (number : ℕ) (fault : ToolFault)
    → AreLawfulTools tools → AreSound received → HaveAnswered tools faults received given → IsFirstFault from faults number fault
    → (fault ≡ OutOfOrder → ⊥) × (from ≤ number) × (number < from + length tools)
first_in_order from [] [] received given number fault lawful sound have first = absurd first
first_in_order from [] (other ∷ faults) received given number fault lawful sound have first = absurd have
first_in_order from (tool ∷ tools) [] received given number fault lawful sound have first = absurd have
first_in_order from (tool ∷ tools) (None ∷ faults) received given number fault lawful sound have first =
    let middle : AreSound have.0 = given_are_sound (tool ∷ []) (None ∷ []) received have.0 (lawful.0, tt) sound (have.0, have.1, refl) in
    let next = first_in_order (from + 1) tools faults have.0 given number fault lawful.1 middle have.2 first in
    (next.0, omega (arith, next.1), omega (arith, next.2))
first_in_order from (tool ∷ tools) (Some other ∷ faults) received given number fault lawful sound have first =
    let has : HasRefused tool other received have.0 = have.1 in
    let in_place = stage_in_order tool other has.accepted has.rest have.0 (subst AreSound has.parts sound) has.refused in
    (λ out. in_place (sym first.1 ∙ out), omega (arith, first.0), omega (arith, first.0))

-- the first fault of the stages is never out of order, and is that of one of the tools
pub first_fault_in_order : (tools : List Tool) (faults : List (Option ToolFault)) (received given : List Message) (number : ℕ) (fault : ToolFault)
    → AreLawfulTools tools → AreSound received → HaveAnswered tools faults received given → IsFirstFault 1 faults number fault
    → (fault ≡ OutOfOrder → ⊥) × (1 ≤ number) × (number ≤ length tools)
first_fault_in_order tools faults received given number fault lawful sound have first =
    let found = first_in_order 1 tools faults received given number fault lawful sound have first in
    (found.0, found.1, omega (arith, found.2))

none_before : (from count : ℕ) (tools : List Tool) (faults : List (Option ToolFault)) (is : List Image) (given : List Message) (number : ℕ) (fault : ToolFault)
    → AreLawfulTools tools → AreImages is → HaveAnswered tools faults (messages_of_stream is) given
    → IsFirstFault from faults number fault → number ≡ from + count → refusal_from from (take count tools) is ≡ None
none_before from zero tools faults is given number fault lawful images have first at = refl
none_before from (suc count) [] faults is given number fault lawful images have first at = refl
none_before from (suc count) (tool ∷ tools) [] is given number fault lawful images have first at = absurd have
none_before from (suc count) (tool ∷ tools) (None ∷ faults) is given number fault lawful images have first at =
    let r = stage_answered tool is have.0 lawful.0 images have.1 in
    let others = none_before (from + 1) count tools faults r.0 given number fault lawful.1 r.2
    (subst (λ (l : List Message). HaveAnswered tools faults l given) r.3 have.2) first (omega arith) in
    ap (refusal_by from (take count tools)) (results_are tool is r.0 r.1) ∙ others
none_before from (suc count) (tool ∷ tools) (Some other ∷ faults) is given number fault lawful images have first at = absurd (omega (arith, first.0))

-- no tool before the one with the first fault refuses an image of the stream
pub none_before_first_fault : (tools : List Tool) (faults : List (Option ToolFault)) (is : List Image) (given : List Message) (number : ℕ) (fault : ToolFault)
    → AreLawfulTools tools → AreImages is → AreSound (messages_of_stream is)
    → HaveAnswered tools faults (messages_of_stream is) given → IsFirstFault 1 faults number fault → refusal_of (take (number - 1) tools) is ≡ None
none_before_first_fault tools faults is given number fault lawful images sound have first =
    let found = first_fault_in_order tools faults (messages_of_stream is) given number fault lawful sound have first in
    none_before 1 (number - 1) tools faults is given number fault lawful images have first (omega (arith, found.1))

-- ---- what is due

-- whatever images complete what was received, what was given is a prefix of the output due for them
pub given_is_prefix : (tools : List Tool) (faults : List (Option ToolFault)) (received given : List Message) (is : List Image) → AreLawfulTools tools
    → AreSound received → HaveAnswered tools faults received given → Completes is received → IsPrefixOf given (due_in_turn tools is)
given_is_prefix [] [] received given is lawful sound have completes = subst (λ (l : List Message). IsPrefixOf l (due_in_turn [] is)) (sym have)
    (subst (IsPrefixOf received) (sym (nothing_changes is)) (received_prefix received is sound completes))
given_is_prefix [] (fault ∷ faults) received given is lawful sound have completes = absurd have
given_is_prefix (tool ∷ tools) [] received given is lawful sound have completes = absurd have
given_is_prefix (tool ∷ tools) (fault ∷ faults) received given is lawful sound have completes =
    let middle : List Message = have.0 in
    let s = stage tool fault received middle sound have.1 in
    let next : AreSound middle = stage_sound tool received middle lawful.0 s in
    let accepted = prefix_of_prefix s.accepted received (messages_of_stream is) (s.rest, s.parts) (received_prefix received is sound completes) in
    prefix_by_results tool tools is middle given lawful.0 completes.images (stage_due tool received middle is s completes.images accepted)
    (λ js are prefix. given_is_prefix tools faults middle given js lawful.1 next have.2 (completed middle js next are prefix))

-- ---- what is due is sound

-- a chain's result of an image that has rows is one
abbrev IsResult : Image → Type 0
IsResult j = IsImage j × HasRows j

abbrev in_turn_by : List Tool → Result Image ToolFault → Result Image ToolFault
in_turn_by tools r = elim r [
  | Ok j ↦ applied_in_turn tools j
  | Err fault ↦ Err fault
]

result_by_first : (tool : Tool) (tools : List Tool) (i j : Image) (r : Result Image ToolFault) → IsLawfulTool tool → IsResult i → applied tool i ≡ r
    → in_turn_by tools r ≡ Ok j → ((k : Image) → IsResult k → applied_in_turn tools k ≡ Ok j → IsResult j) → IsResult j
result_by_first tool tools i j (Ok k) lawful is made others then = then k
    (result_is_image tool i k lawful is.0 made, result_has_rows tool i k lawful is.0 is.1 made) others
result_by_first tool tools i j (Err fault) lawful is made others then = absurd cc

result_in_turn : (tools : List Tool) (i j : Image) → AreLawfulTools tools → IsResult i → applied_in_turn tools i ≡ Ok j → IsResult j
result_in_turn [] i j lawful is made = let same : i ≡ j = cc in subst IsResult same is
result_in_turn (tool ∷ tools) i j lawful is made = result_by_first tool tools i j (applied tool i) lawful.0 is refl made
    (λ k are more. result_in_turn tools k j lawful.1 are more)

abbrev due_by_first : List Tool → List Image → Result Image ToolFault → List Message
due_by_first tools is r = elim r [
  | Ok j ↦ messages_of_image j ++ due_in_turn tools is
  | Err fault ↦ []
]

due_of_first : (tools : List Tool) (i : Image) (is : List Image) (r : Result Image ToolFault) → AreLawfulTools tools → IsResult i → applied_in_turn tools i ≡ r
    → HasSoundImages (due_in_turn tools is) → HasSoundImages (due_by_first tools is r)
due_of_first tools i is (Err fault) lawful image made others = ([], tt, tt, (StreamEnd ∷ [], refl))
due_of_first tools i is (Ok j) lawful image made others =
    let result = result_in_turn tools i j lawful image made in
    (j ∷ others.0, (result.0, others.1), (result.1, others.2), prefix_after (messages_of_image j) (due_in_turn tools is) (messages_of_stream others.0) others.3)

due_in_turn_is_sound : (tools : List Tool) (is : List Image) → AreLawfulTools tools → AreImages is → AllByRecursion HasRows is
    → HasSoundImages (due_in_turn tools is)
unfolding due_in_turn
due_in_turn_is_sound tools [] lawful are have = ([], tt, tt, ([], refl))
due_in_turn_is_sound tools (i ∷ is) lawful are have = due_of_first tools i is (applied_in_turn tools i) lawful (are.0, have.0) refl
    (due_in_turn_is_sound tools is lawful are.1 have.1)

-- so is a prefix of it, whatever images complete sound messages
pub prefix_of_due_is_sound : (tools : List Tool) (received given : List Message) → AreLawfulTools tools → AreSound received
    → ((is : List Image) → Completes is received → IsPrefixOf given (due_in_turn tools is)) → AreSound given
prefix_of_due_is_sound tools received given lawful sound due =
    let found = completion received sound.messages sound.lawful in
    let prefix = received_prefix received found.0 sound (record { images = found.1; prefix = found.2 }) in
    let images = sound_images found.0 received prefix.0 found.1 prefix.1 sound.sound in
    let whole = due_in_turn_is_sound tools images.0 lawful images.1 images.2 in
    prefix_sound given (
      whole.0,
      whole.1,
      whole.2,
      prefix_of_prefix given (due_in_turn tools images.0) (messages_of_stream whole.0)
          (due images.0 (completed received images.0 sound images.1 images.3)) whole.3,
    )
