-- The results of images that no tool refuses, and what a form says of them.
use Rattle.pnm_serial.proofs.Words.{◌≡◌, ℕ, ◌+◌, List, [], ◌∷◌, ◌++◌, Some, None, Result, Ok, Err, refl, ap, subst, ◌∙◌, Form, Raw, Plain, Kind, Bit, Gray}
use Rattle.pnm_serial.proofs.Words.{Color, Pam, Message, Image, messages_of_image, messages_of_stream, ToolFault, Tool, AreResults, AreResultsInTurn}
use Rattle.pnm_serial.proofs.Words.{results_of, refusal_from, applied, refusal_by, results_in_turn, same_in_turn, SinkFault, SecondPlain, PlainPam}
use Rattle.pnm_serial.proofs.Words.{plain_kind_fault, images_fault, IsFormFault}
use Rattle.pnm_tools.specs.Chains.{due_in_turn}

-- ---- one tool

-- the results, by what becomes of the first image
abbrev pub with_first : Result Image ToolFault → Result (List Image) ToolFault → Result (List Image) ToolFault
with_first r others = elim r [
  | Ok j ↦ elim others [ Ok js ↦ Ok (j ∷ js) | Err fault ↦ Err fault ]
  | Err fault ↦ Err fault
]

results_by : (tool : Tool) (i : Image) (is js : List Image) (r : Result Image ToolFault) (others : Result (List Image) ToolFault) → applied tool i ≡ r
    → ((ks : List Image) → others ≡ Ok ks → AreResults tool is ks) → with_first r others ≡ Ok js → AreResults tool (i ∷ is) js
results_by tool i is js (Err fault) others made later all = absurd cc
results_by tool i is js (Ok j) (Err fault) made later all = absurd cc
results_by tool i is [] (Ok j) (Ok ks) made later all = absurd cc
results_by tool i is (x ∷ xs) (Ok j) (Ok ks) made later all =
    let first : j ≡ x = cc in
    let rest : ks ≡ xs = cc in
    (made ∙ ap Ok first, later xs (ap Ok rest))

pub are_results : (tool : Tool) (is js : List Image) → results_of tool is ≡ Ok js → AreResults tool is js
are_results tool [] [] all = tt
are_results tool [] (j ∷ js) all = absurd cc
are_results tool (i ∷ is) js all = results_by tool i is js (applied tool i) (results_of tool is) refl (λ ks. are_results tool is ks) all

-- ---- a chain

abbrev HaveResults : List Tool → List Image → Type 0
HaveResults tools is = (js : List Image) × AreResultsInTurn tools is js

chain_results_by : (number : ℕ) (tool : Tool) (tools : List Tool) (is : List Image) (r : Result (List Image) ToolFault) → results_of tool is ≡ r
    → ((js : List Image) → refusal_from (number + 1) tools js ≡ None → HaveResults tools js) → refusal_by number tools r ≡ None → HaveResults (tool ∷ tools) is
chain_results_by number tool tools is (Ok js) made later none =
    let others = later js none in
    (others.0, results_in_turn tool tools is js others.0 (are_results tool is js made) others.1)
chain_results_by number tool tools is (Err fault) made later none = absurd cc

-- a chain that refuses none of the images has results of all
pub chain_results : (number : ℕ) (tools : List Tool) (is : List Image) → refusal_from number tools is ≡ None → HaveResults tools is
chain_results number [] is none = (is, same_in_turn is)
chain_results number (tool ∷ tools) is none =
    chain_results_by number tool tools is (results_of tool is) refl (λ js. chain_results (number + 1) tools js) none

-- what is due of the first image and the others, by what becomes of the first
abbrev pub due_with : List Message → Result Image ToolFault → List Message
due_with others r = elim r [
  | Ok j ↦ messages_of_image j ++ others
  | Err fault ↦ []
]

-- what is due for images none of which is refused are the messages of their results
pub due_of_results : (tools : List Tool) (is js : List Image) → AreResultsInTurn tools is js → due_in_turn tools is ≡ messages_of_stream js
unfolding due_in_turn
due_of_results tools [] [] are = refl
due_of_results tools [] (j ∷ js) are = absurd are
due_of_results tools (i ∷ is) [] are = absurd are
due_of_results tools (i ∷ is) (j ∷ js) are = ap (due_with (due_in_turn tools is)) are.0
    ∙ ap (λ (l : List Message). messages_of_image j ++ l) (due_of_results tools is js are.1)

-- ---- the form

-- its reason is one that a form has
plain_reason : (kind : Kind) (more : List Image) {fault : SinkFault}
    → (elim (plain_kind_fault kind) [ Some found ↦ Some found | None ↦ elim more [ [] ↦ None | next ∷ others ↦ Some SecondPlain ] ]) ≡ Some fault
    → IsFormFault Plain fault
plain_reason Bit [] is = absurd cc
plain_reason Bit (next ∷ more) {fault} is = let same : SecondPlain ≡ fault = cc in subst (IsFormFault Plain) same tt
plain_reason Gray [] is = absurd cc
plain_reason Gray (next ∷ more) {fault} is = let same : SecondPlain ≡ fault = cc in subst (IsFormFault Plain) same tt
plain_reason Color [] is = absurd cc
plain_reason Color (next ∷ more) {fault} is = let same : SecondPlain ≡ fault = cc in subst (IsFormFault Plain) same tt
plain_reason Pam more {fault} is = let same : PlainPam ≡ fault = cc in subst (IsFormFault Plain) same tt

pub reason_is_of_form : (form : Form) (is : List Image) {fault : SinkFault} → images_fault form is ≡ Some fault → IsFormFault form fault
reason_is_of_form Raw is reason = absurd cc
reason_is_of_form Plain [] reason = absurd cc
reason_is_of_form Plain (i ∷ is) reason = plain_reason i.head.shape.kind is reason
