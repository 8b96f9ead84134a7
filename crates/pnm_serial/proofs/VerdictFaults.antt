-- A verdict is never a fault from outside, nor that a message came out of order.
use Rattle.pnm_serial.proofs.Words.{◌≡◌, ◌≢◌, ℕ, ◌<◌, ◌+◌, List, [], ◌∷◌, ◌++◌, map, Option, None, Some, Result, Ok, Err, refl, ap, subst, ◌∙◌, arith}
use Rattle.pnm_serial.proofs.Words.{AllByRecursion, Message, Row, ImageEnd, HeadValue, Image, AreImages, IsImage, rows_of, messages_of_stream, no_text_fault}
use Rattle.pnm_serial.proofs.Words.{ToolFault, CutOutside, ChannelOutside, TooLarge, OutOfOrder, Memory, Tool, AreSound, IsSound, AreLawfulTools, Refusal}
use Rattle.pnm_serial.proofs.Words.{refusal_from, results_of, image_by, IsFaultOfHead, IsLawfulTool, applied, result_head, result_sample, applied_by}
use Rattle.pnm_serial.proofs.Words.{head_is_refused_by_name, refusal_by, result_is_image, result_has_rows, NoStart, Input, OfTool, Output, PeerGone, RefusalIs}
use Rattle.pnm_serial.proofs.Words.{VerdictsAreOfTexts, IsFormFault}
use Rattle.pnm_serial.proofs.FeedingSteps.{said_are_sound}
use Rattle.pnm_serial.proofs.ResultSteps.{reason_is_of_form}
use Rattle.pnm_serial.proofs.RunSteps.{no_write_fault}

-- ---- one tool

-- neither want of memory nor a message out of order
abbrev IsNamed : ToolFault → Type 0
IsNamed fault = (fault ≢ Memory) × (fault ≢ OutOfOrder)

abbrev HasRows : Image → Type 0
HasRows i = 0 < i.head.shape.height

named : (tool : Tool) (head : HeadValue) (fault : ToolFault) → 0 < head.shape.height → IsFaultOfHead tool head fault → IsNamed fault
named tool head CutOutside rows is = (λ e. absurd cc, λ e. absurd cc)
named tool head ChannelOutside rows is = (λ e. absurd cc, λ e. absurd cc)
named tool head TooLarge rows is = (λ e. absurd cc, λ e. absurd cc)
named tool head OutOfOrder rows is = absurd (omega (arith, is.1))
named tool head Memory rows is = absurd is

by_head : (tool : Tool) (i : Image) (r : Result HeadValue ToolFault) {fault : ToolFault} → result_head tool i.head ≡ r → HasRows i
    → applied_by (λ h. image_by h (result_sample tool i)) r ≡ Err fault → IsNamed fault
by_head tool i (Ok head) e rows refused = absurd cc
by_head tool i (Err other) {fault} e rows refused =
    let same : other ≡ fault = cc in
    named tool i.head fault rows (head_is_refused_by_name tool i.head fault (e ∙ ap Err same))

-- what a tool makes of an image is one, with rows, or its refusal is named
abbrev IsOutcome : Result Image ToolFault → Type 0
IsOutcome (Ok j) = IsImage j × HasRows j
IsOutcome (Err fault) = IsNamed fault

outcome : (tool : Tool) {i : Image} (r : Result Image ToolFault) → IsLawfulTool tool → IsImage i → HasRows i → applied tool i ≡ r → IsOutcome r
outcome tool {i} (Ok j) lawful image rows is = (result_is_image tool i j lawful image is, result_has_rows tool i j lawful image rows is)
outcome tool {i} (Err fault) lawful image rows is = by_head tool i (result_head tool i.head) refl rows is

abbrev AreOutcome : Result (List Image) ToolFault → Type 0
AreOutcome (Ok js) = AreImages js × AllByRecursion HasRows js
AreOutcome (Err fault) = IsNamed fault

first_outcome : (r : Result Image ToolFault) (others : Result (List Image) ToolFault) → IsOutcome r → AreOutcome others
    → AreOutcome (elim r [ Ok j ↦ elim others [ Ok js ↦ Ok (j ∷ js) | Err fault ↦ Err fault ] | Err fault ↦ Err fault ])
first_outcome (Ok j) (Ok js) first more = ((first.0, more.0), (first.1, more.1))
first_outcome (Ok j) (Err fault) first more = more
first_outcome (Err fault) others first more = first

outcomes : (tool : Tool) (is : List Image) → IsLawfulTool tool → AreImages is → AllByRecursion HasRows is → AreOutcome (results_of tool is)
outcomes tool [] lawful images rows = (tt, tt)
outcomes tool (i ∷ is) lawful images rows =
    first_outcome (applied tool i) (results_of tool is) (outcome tool (applied tool i) lawful images.0 rows.0 refl) (outcomes tool is lawful images.1 rows.1)

-- ---- a chain

abbrev fault_or : ToolFault → Option Refusal → ToolFault
fault_or other None = other
fault_or other (Some refusal) = refusal.fault

by_outcome : (number : ℕ) (tools : List Tool) (r : Result (List Image) ToolFault) {refusal : Refusal} → AreOutcome r
    → ((js : List Image) → AreImages js → AllByRecursion HasRows js → refusal_from (number + 1) tools js ≡ Some refusal → IsNamed refusal.fault)
    → refusal_by number tools r ≡ Some refusal → IsNamed refusal.fault
by_outcome number tools (Ok js) are later is = later js are.0 are.1 is
by_outcome number tools (Err fault) are later is = subst IsNamed (ap (fault_or fault) is) are

chain_refusal : (number : ℕ) (tools : List Tool) (is : List Image) {refusal : Refusal} → AreLawfulTools tools → AreImages is → AllByRecursion HasRows is
    → refusal_from number tools is ≡ Some refusal → IsNamed refusal.fault
chain_refusal number [] is lawful images rows refused = absurd cc
chain_refusal number (tool ∷ tools) is lawful images rows refused =
    by_outcome number tools (results_of tool is) (outcomes tool is lawful.0 images rows)
    (λ js images_too rows_too refused_too. chain_refusal (number + 1) tools js lawful.1 images_too rows_too refused_too) refused

-- ---- a text

all_of_rest : (P : Message → Type 0) (a b : List Message) → AllByRecursion P (a ++ b) → AllByRecursion P b
all_of_rest P [] b all = all
all_of_rest P (m ∷ a) b all = all_of_rest P a b all.1

rows_of_stream : (is : List Image) → AllByRecursion IsSound (messages_of_stream is) → AllByRecursion HasRows is
rows_of_stream [] sound = tt
rows_of_stream (i ∷ is) sound = (sound.0, rows_of_stream is (all_of_rest IsSound (map Row (rows_of i) ++ ImageEnd ∷ []) (messages_of_stream is) sound.1))

text_refusal : (text : List ℕ) (tools : List Tool) (number : ℕ) {fault : ToolFault} → AreLawfulTools tools
    → RefusalIs text tools (Some (record { number = number; fault = fault })) → IsNamed fault
text_refusal text tools number lawful is =
    let sound : AreSound (messages_of_stream is.0) = subst AreSound is.1.messages (said_are_sound text) in
    chain_refusal 1 tools is.0 lawful is.1.images_are (rows_of_stream is.0 sound.sound) is.2

pub verdict_is_of_text : VerdictsAreOfTexts
verdict_is_of_text text job NoStart lawful is = absurd is
verdict_is_of_text text job (Input fault) lawful is = (no_text_fault text fault is, λ number e. absurd cc, λ out e. absurd cc)
verdict_is_of_text text job (OfTool number fault) lawful is =
    let is_named = text_refusal text job.tools number lawful is in
    (is_named.0, λ other e. let same : fault ≡ OutOfOrder = cc in is_named.1 same, λ out e. absurd cc)
verdict_is_of_text text job (Output fault) lawful is =
    let of_form = reason_is_of_form job.form is.results is.fit in (
      λ failed. no_write_fault job.form (subst (IsFormFault job.form) failed of_form),
      λ number e. absurd cc,
      λ out e. let same : fault ≡ out = cc in
          subst (IsFormFault job.form) same of_form,
    )
verdict_is_of_text text job (PeerGone number) lawful is = absurd is
