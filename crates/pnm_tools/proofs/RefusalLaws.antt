-- The results of images in a chain, and the refusal of the first image that is refused.
use Rattle.pnm_tools.proofs.Words.{◌≡◌, ◌⊎◌, inl, inr, ℕ, ◌+◌, true, List, [], ◌∷◌, ◌++◌, map, Option, Some, Result, Ok, Err, refl, sym, ap, subst, ◌∙◌}
use Rattle.pnm_tools.proofs.Words.{Message, Begin, Row, ImageEnd, StreamEnd, Stop, Between, HeadValue, Accepts, IsLawfulFrom, place_of, Image, AreImages}
use Rattle.pnm_tools.proofs.Words.{rows_of, messages_of_stream, stream_is_lawful, next_may_come, ToolFault, CutOutside, ChannelOutside, TooLarge, OutOfOrder}
use Rattle.pnm_tools.proofs.Words.{Memory, Tool, image_by, IsLawfulTool, AreTaken, result_head, result_sample, applied, MayCome, RefusesHead, Judges}
use Rattle.pnm_tools.proofs.Words.{AreResults, AreResultsInTurn, results_of, Refusal, refusal_from, IsRefusedNext}
use Rattle.pnm_tools.proofs.AnsweringLaws.{taken_rest, applied_by}
use Rattle.pnm_tools.proofs.PrefixLaws.{rest_in_turn}
use Rattle.pnm_tools.proofs.ResultLaws.{result_is_image}

-- ---- results

pub results_are_images : (tool : Tool) (is js : List Image) → IsLawfulTool tool → AreImages is → AreResults tool is js → AreImages js
results_are_images tool [] [] lawful are results = tt
results_are_images tool [] (j ∷ js) lawful are results = absurd results
results_are_images tool (i ∷ is) [] lawful are results = absurd results
results_are_images tool (i ∷ is) (j ∷ js) lawful are results =
    (result_is_image tool i j lawful are.0 results.0, results_are_images tool is js lawful are.1 results.1)

-- the results, by what becomes of the first image
abbrev with_first : Result Image ToolFault → Result (List Image) ToolFault → Result (List Image) ToolFault
with_first r others = elim r [
  | Ok j ↦ elim others [ Ok js ↦ Ok (j ∷ js) | Err fault ↦ Err fault ]
  | Err fault ↦ Err fault
]

pub results_are : (tool : Tool) (is js : List Image) → AreResults tool is js → results_of tool is ≡ Ok js
results_are tool [] [] results = refl
results_are tool [] (j ∷ js) results = absurd results
results_are tool (i ∷ is) [] results = absurd results
results_are tool (i ∷ is) (j ∷ js) results = ap (λ (r : Result Image ToolFault). with_first r (results_of tool is)) results.0
    ∙ ap (with_first (Ok j)) (results_are tool is js results.1)

-- with no tool the images are the results
pub same_in_turn : (is : List Image) → AreResultsInTurn [] is is
same_in_turn [] = tt
same_in_turn (i ∷ is) = (refl, same_in_turn is)

-- one tool, and then others
pub results_in_turn : (tool : Tool) (tools : List Tool) (is js ks : List Image) → AreResults tool is js → AreResultsInTurn tools js ks
    → AreResultsInTurn (tool ∷ tools) is ks
results_in_turn tool tools [] [] [] first others = tt
results_in_turn tool tools [] [] (k ∷ ks) first others = absurd others
results_in_turn tool tools [] (j ∷ js) ks first others = absurd first
results_in_turn tool tools (i ∷ is) [] ks first others = absurd first
results_in_turn tool tools (i ∷ is) (j ∷ js) [] first others = absurd others
results_in_turn tool tools (i ∷ is) (j ∷ js) (k ∷ ks) first others =
    (ap (rest_in_turn tools) first.0 ∙ others.0, results_in_turn tool tools is js ks first.1 others.1)

-- the refusal of a chain, by the results of its first tool
abbrev pub refusal_by : ℕ → List Tool → Result (List Image) ToolFault → Option Refusal
refusal_by number tools r = elim r [
  | Ok js ↦ refusal_from (number + 1) tools js
  | Err fault ↦ Some (record { number = number; fault = fault })
]

-- ---- a refusal

-- messages that go on to a head have passed the rows and the end of an image
abbrev Passed : List (List ℕ) → List Message → List Message → HeadValue → List Message → Type 0
Passed rows tail accepted head rest = (more : List Message) × (accepted ≡ (map Row rows ++ ImageEnd ∷ []) ++ more) × (tail ≡ more ++ Begin head ∷ rest)

passed : (rows : List (List ℕ)) (tail accepted : List Message) (head : HeadValue) (rest : List Message)
    → (map Row rows ++ ImageEnd ∷ []) ++ tail ≡ accepted ++ Begin head ∷ rest → Passed rows tail accepted head rest
passed [] tail [] head rest e = absurd cc
passed [] tail (m ∷ accepted) head rest e =
    let first : ImageEnd ≡ m = cc in
    let left : tail ≡ accepted ++ Begin head ∷ rest = cc in
    (accepted, ap (λ (k : Message). k ∷ accepted) (sym first), left)
passed (row ∷ rows) tail [] head rest e = absurd cc
passed (row ∷ rows) tail (m ∷ accepted) head rest e =
    let first : Row row ≡ m = cc in
    let left : (map Row rows ++ ImageEnd ∷ []) ++ tail ≡ accepted ++ Begin head ∷ rest = cc in
    let others = passed rows tail accepted head rest left in
    (others.0, ap (λ (k : Message). k ∷ accepted) (sym first) ∙ ap (λ (l : List Message). Row row ∷ l) others.1, others.2)

-- where the images before it are taken, an image that is refused is the first
head_is_refused : (tool : Tool) (is : List Image) (accepted : List Message) (head : HeadValue) (rest : List Message) (fault : ToolFault)
    → messages_of_stream is ≡ accepted ++ Begin head ∷ rest → AreTaken tool accepted → result_head tool head ≡ Err fault
    → results_of tool is ≡ Err fault
head_is_refused tool [] [] head rest fault e taken refused = absurd cc
head_is_refused tool [] (m ∷ []) head rest fault e taken refused = absurd cc
head_is_refused tool [] (m ∷ n ∷ accepted) head rest fault e taken refused = absurd cc
head_is_refused tool (i ∷ is) [] head rest fault e taken refused =
    let same : i.head ≡ head = cc in
    ap (λ (r : Result Image ToolFault). with_first r (results_of tool is))
    (ap (applied_by (λ h. image_by h (result_sample tool i))) (ap (result_head tool) same ∙ refused))
head_is_refused tool (i ∷ is) (Begin begun ∷ accepted) head rest fault e taken refused =
    let same : i.head ≡ begun = cc in
    let left : (map Row (rows_of i) ++ ImageEnd ∷ []) ++ messages_of_stream is ≡ accepted ++ Begin head ∷ rest = cc in
    let p = passed (rows_of i) (messages_of_stream is) accepted head rest left in
    let made : applied tool i ≡ Ok (image_by taken.0.0 (result_sample tool i)) =
    ap (applied_by (λ h. image_by h (result_sample tool i))) (ap (result_head tool) same ∙ taken.0.1) in
    let others =
    head_is_refused tool is p.0 head rest fault p.2 (taken_rest tool (map Row (rows_of i) ++ ImageEnd ∷ []) p.0 (subst (AreTaken tool) p.1 taken.1))
    refused in
    ap (λ (r : Result Image ToolFault). with_first r (results_of tool is)) made ∙ ap (with_first (Ok (image_by taken.0.0 (result_sample tool i)))) others
head_is_refused tool (i ∷ is) (Row row ∷ accepted) head rest fault e taken refused = absurd cc
head_is_refused tool (i ∷ is) (ImageEnd ∷ accepted) head rest fault e taken refused = absurd cc
head_is_refused tool (i ∷ is) (StreamEnd ∷ accepted) head rest fault e taken refused = absurd cc
head_is_refused tool (i ∷ is) (Stop ∷ accepted) head rest fault e taken refused = absurd cc

is_refused : (tool : Tool) (is : List Image) (accepted : List Message) (m : Message) (rest : List Message) (fault : ToolFault)
    → messages_of_stream is ≡ accepted ++ m ∷ rest → AreTaken tool accepted → RefusesHead tool m fault → results_of tool is ≡ Err fault
is_refused tool is accepted (Begin head) rest fault e taken refuses = head_is_refused tool is accepted head rest fault e taken refuses
is_refused tool is accepted (Row row) rest fault e taken refuses = absurd refuses
is_refused tool is accepted ImageEnd rest fault e taken refuses = absurd refuses
is_refused tool is accepted StreamEnd rest fault e taken refuses = absurd refuses
is_refused tool is accepted Stop rest fault e taken refuses = absurd refuses

-- a message that may come is out of order only as the head of an image
pub in_order : (tool : Tool) (m : Message) (accepted : List Message) → Accepts (place_of Between accepted) m → (MayCome true accepted m → ⊥)
    ⊎ RefusesHead tool m OutOfOrder → RefusesHead tool m OutOfOrder
in_order tool m accepted may (inl not) = absurd (not (refl, may))
in_order tool m accepted may (inr refuses) = refuses

-- a message of a stream is refused only as the head of an image
judged : (tool : Tool) (m : Message) (accepted : List Message) (fault : ToolFault) → Accepts (place_of Between accepted) m
    → Judges true tool accepted m (Err fault) → (fault ≡ Memory) ⊎ RefusesHead tool m fault
judged tool m accepted CutOutside may judges = inr judges.1
judged tool m accepted ChannelOutside may judges = inr judges.1
judged tool m accepted TooLarge may judges = inr judges.1
judged tool m accepted OutOfOrder may judges = inr (in_order tool m accepted may judges)
judged tool m accepted Memory may judges = inl refl

pub refused_next : (tool : Tool) (fault : ToolFault) (is : List Image) (accepted rest : List Message) → AreImages is → messages_of_stream is ≡ accepted ++ rest
    → AreTaken tool accepted → IsRefusedNext tool fault accepted rest → (fault ≡ Memory) ⊎ (results_of tool is ≡ Err fault)
refused_next tool fault is accepted [] are e taken refused = absurd refused
refused_next tool fault is accepted (m ∷ rest) are e taken refused =
    elim (judged tool m accepted fault (next_may_come Between accepted m rest (subst (IsLawfulFrom Between) e (stream_is_lawful is are))) refused) [
      | inl memory ↦ inl memory
      | inr refuses ↦ inr (is_refused tool is accepted m rest fault e taken refuses)
    ]
