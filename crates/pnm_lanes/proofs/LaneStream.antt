-- A whole stream over lanes, and one that was broken off: what all lanes answer is what one tool answers.
use Rattle.pnm_lanes.proofs.Words.{◌≡◌, ◌⊎◌, inl, inr, ℕ, zero, suc, Bool, true, false, List, [], ◌∷◌, ◌++◌, map, Result, Ok, Err, refl, sym, ap, subst, ◌∙◌}
use Rattle.pnm_lanes.proofs.Words.{append_assoc, append-nil, Message, Begin, Row, ImageEnd, Between, HeadValue, Image, AreImages, rows_of, messages_of_image}
use Rattle.pnm_lanes.proofs.Words.{messages_of_stream, IsPrefixOf, stream_is_lawful, ToolFault, Tool, answers_from, AnswersInFull, AreResults, image_by}
use Rattle.pnm_lanes.proofs.Words.{IsLawfulTool, result_head, result_sample, AreTaken, applied, AnswersImages, answered_after_image, answering_in_full}
use Rattle.pnm_lanes.proofs.Words.{prefix_after, tool_answers_images, BeginsOrEnds, results_before}
use Rattle.pnm_tools.specs.Answers.{due_so_far}

-- ---- a whole stream

-- where no image is refused, the results are those of all images
pub all_results : (tool : Tool) (is js : List Image) → AreResults tool is js → results_before tool is ≡ js
all_results tool [] [] are = refl
all_results tool [] (j ∷ js) are = absurd are
all_results tool (i ∷ is) [] are = absurd are
all_results tool (i ∷ is) (j ∷ js) are =
    ap (λ (r : Result Image ToolFault). elim r [ Ok k ↦ k ∷ results_before tool is | Err fault ↦ [] ]) are.0
    ∙ ap (λ (l : List Image). j ∷ l) (all_results tool is js are.1)

stream_answered : (tool : Tool) (is js : List Image) → AnswersImages tool → AreImages is → AreResults tool is js
    → answers_from tool Between [] (messages_of_stream is) ≡ messages_of_stream js
stream_answered tool [] [] answers images are = refl
stream_answered tool [] (j ∷ js) answers images are = absurd are
stream_answered tool (i ∷ is) [] answers images are = absurd are
stream_answered tool (i ∷ is) (j ∷ js) answers images are =
    answered_after_image tool i (messages_of_stream is)
    ∙ ap (λ (x : List Message). x ++ answers_from tool Between [] (messages_of_stream is)) (answers i j images.0 are.0)
    ∙ ap (λ (x : List Message). messages_of_image j ++ x) (stream_answered tool is js answers images.1 are.1)

abbrev made_by : (HeadValue → Image) → Result HeadValue ToolFault → Result Image ToolFault
made_by make r = elim r [ Ok head ↦ Ok (make head) | Err fault ↦ Err fault ]

head_taken : (make : HeadValue → Image) (r : Result HeadValue ToolFault) {j : Image} → made_by make r ≡ Ok j → (result : HeadValue) × (r ≡ Ok result)
head_taken make (Ok head) made = (head, refl)
head_taken make (Err fault) made = absurd cc

rows_taken : (tool : Tool) (rows : List (List ℕ)) (more : List Message) → AreTaken tool more → AreTaken tool ((map Row rows ++ ImageEnd ∷ []) ++ more)
rows_taken tool [] more taken = taken
rows_taken tool (row ∷ rows) more taken = rows_taken tool rows more taken

stream_taken : (tool : Tool) (is js : List Image) → AreResults tool is js → AreTaken tool (messages_of_stream is)
stream_taken tool [] js are = tt
stream_taken tool (i ∷ is) [] are = absurd are
stream_taken tool (i ∷ is) (j ∷ js) are = (
  head_taken (λ h. image_by h (result_sample tool i)) (result_head tool i.head) are.0,
  rows_taken tool (rows_of i) (messages_of_stream is) (stream_taken tool is js are.1),
)

-- the stream of the results is a full answer
stream_in_full : {tool : Tool} (is js : List Image) → IsLawfulTool tool → AreImages is → AreResults tool is js → AnswersInFull tool (messages_of_stream is)
    (messages_of_stream js)
stream_in_full {tool} is js lawful images are =
    answering_in_full tool (messages_of_stream is) (messages_of_stream js) (tool_answers_images tool lawful) (record {
      lawful = stream_is_lawful is images;
      taken = stream_taken tool is js are;
      given = stream_answered tool is js (tool_answers_images tool lawful) images are ∙ sym (append-nil (messages_of_stream js));
    })

-- by what they are
pub answered_in_full : (tool : Tool) (is js : List Image) (l g : List Message) → IsLawfulTool tool → AreImages is → AreResults tool is js
    → l ≡ messages_of_stream is → g ≡ messages_of_stream js → AnswersInFull tool l g
answered_in_full tool is js l g lawful images are stream answer =
    subst (λ (x : List Message). AnswersInFull tool x g) (sym stream)
    (subst (AnswersInFull tool (messages_of_stream is)) (sym answer) (stream_in_full is js lawful images are))

-- ---- what is due so far

-- nothing, or it ends with the beginning or the end of an image
abbrev pub EndsAtImage : List Message → Type 0
EndsAtImage l = (l ≡ []) ⊎ ((prefix : List Message) × (m : Message) × BeginsOrEnds m × (l ≡ prefix ++ m ∷ []))

-- and it is a prefix of the stream of the results
abbrev pub IsSoFarOf : List Message → List Image → Type 0
IsSoFarOf l js = IsPrefixOf l (messages_of_stream js) × EndsAtImage l

nothing_due : (js : List Image) → IsSoFarOf [] js
nothing_due js = ((messages_of_stream js, refl), inl refl)

image_ends : (j : Image) (more : List Message) → EndsAtImage more → EndsAtImage (messages_of_image j ++ more)
image_ends j more (inl none) =
    inr (Begin j.head ∷ map Row (rows_of j), ImageEnd, tt, ap (λ (x : List Message). messages_of_image j ++ x) none ∙ append-nil (messages_of_image j))
image_ends j more (inr last) =
    inr (
      messages_of_image j ++ last.0,
      last.1,
      last.2,
      ap (λ (x : List Message). messages_of_image j ++ x) last.3
          ∙ sym (append_assoc (messages_of_image j) last.0 (last.1 ∷ [])),
    )

after_image : (j : Image) (js : List Image) (more : List Message) → IsSoFarOf more js → IsSoFarOf (messages_of_image j ++ more) (j ∷ js)
after_image j js more others = (prefix_after (messages_of_image j) more (messages_of_stream js) others.0, image_ends j more others.1)

abbrev head_by : Result HeadValue ToolFault → List Message
head_by r = elim r [ Ok head ↦ Begin head ∷ [] | Err fault ↦ [] ]

abbrev images_by : List Image → Result Image ToolFault → List Image
images_by others r = elim r [ Ok j ↦ j ∷ others | Err fault ↦ [] ]

head_so_far_by : (make : HeadValue → Image) (others : List Image) (r : Result HeadValue ToolFault) → ((head : HeadValue) → (make head).head ≡ head)
    → IsSoFarOf (head_by r) (images_by others (made_by make r))
head_so_far_by make others (Ok head) same = (
  (
    (map Row (rows_of (make head)) ++ ImageEnd ∷ []) ++ messages_of_stream others,
    ap (λ (h : HeadValue). Begin h ∷ ((map Row (rows_of (make head)) ++ ImageEnd ∷ []) ++ messages_of_stream others)) (same head),
  ),
  inr ([], Begin head, tt, refl),
)
head_so_far_by make others (Err fault) same = nothing_due []

image_so_far_by : (tool : Tool) (n : ℕ) (b : Bool) (is : List Image) (r : Result Image ToolFault) → IsSoFarOf (due_so_far tool n b is) (results_before tool is)
    → IsSoFarOf (elim r [ Ok j ↦ messages_of_image j ++ due_so_far tool n b is | Err fault ↦ [] ]) (images_by (results_before tool is) r)
image_so_far_by tool n b is (Ok j) others = after_image j (results_before tool is) (due_so_far tool n b is) others
image_so_far_by tool n b is (Err fault) others = nothing_due []

pub due_of_results : (tool : Tool) (n : ℕ) (b : Bool) (is : List Image) → IsSoFarOf (due_so_far tool n b is) (results_before tool is)
unfolding due_so_far
due_of_results tool zero true [] = nothing_due []
due_of_results tool zero false [] = nothing_due []
due_of_results tool (suc n) true [] = nothing_due []
due_of_results tool (suc n) false [] = nothing_due []
due_of_results tool zero false (i ∷ is) = nothing_due (results_before tool (i ∷ is))
due_of_results tool zero true (i ∷ is) = head_so_far_by (λ h. image_by h (result_sample tool i)) (results_before tool is) (result_head tool i.head)
    (λ head. refl)
due_of_results tool (suc n) b (i ∷ is) = image_so_far_by tool n b is (applied tool i) (due_of_results tool n b is)
