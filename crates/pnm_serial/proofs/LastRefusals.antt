-- The first image that a tool refuses; and what a chain has given where its last tool refused an image: all that is due.
use Rattle.pnm_serial.proofs.Words.{◌≡◌, ◌≢◌, inl, inr, ℕ, zero, suc, ◌+◌, Bool, true, false, List, [], ◌∷◌, ◌++◌, map, length, Option, None, Some, Result, Ok}
use Rattle.pnm_serial.proofs.Words.{Err, refl, sym, ap, subst, ◌∙◌, append_assoc, arith, Message, Begin, Row, ImageEnd, StreamEnd, Stop, More, Whole, Place}
use Rattle.pnm_serial.proofs.Words.{Between, HeadValue, Image, AreImages, rows_of, messages_of_image, messages_of_stream, without_stop, EndsBy, Accepts}
use Rattle.pnm_serial.proofs.Words.{IsLawful, place_of, IsPrefixOf, Completes, next_may_come, place_of-append, stream_is_lawful, ToolFault, CutOutside}
use Rattle.pnm_serial.proofs.Words.{ChannelOutside, TooLarge, OutOfOrder, Memory, Tool, answers_from, image_by, TakesHead, AreTaken, applied, result_head}
use Rattle.pnm_serial.proofs.Words.{result_sample, AnswersInFull, AreResults, Judges, RefusesHead, begun_of, images_ended, AreLawfulTools, applied_in_turn}
use Rattle.pnm_serial.proofs.Words.{results_of, AreSound, HasRefused, HaveAnswered, IsFirstFault, IsRefusedNext, AnswersImages, answered_after_image}
use Rattle.pnm_serial.proofs.Words.{applied_by, due_by, due_is, ends_between, taken_rest, given_are_sound, sound_prefix, full_answer_is_the_stream}
use Rattle.pnm_serial.proofs.Words.{rest_in_turn, in_order, results_are_images, sound_keeps_all, unbroken_keeps_all, prefix_goes_on, stream_ends_whole}
use Rattle.pnm_tools.specs.Tools.{output_due}
use Rattle.pnm_tools.specs.Answers.{due_so_far}
use Rattle.pnm_tools.specs.Chains.{due_in_turn}
use Rattle.pnm_tools.proofs.RefusalLaws.{refused_next}
use Rattle.pnm_serial.proofs.ResultSteps.{with_first, due_with}

-- ---- the first image that a tool refuses

-- the messages before its head were taken, the answers to them are all that is due, and all that is due so far
pub record FirstRefused (tool : Tool) (fault : ToolFault) (is : List Image) : Type 0 where
  pub accepted : List Message
  pub head : HeadValue
  pub rest : List Message
  pub parts : messages_of_stream is ≡ accepted ++ Begin head ∷ rest
  pub taken : AreTaken tool accepted
  pub refused : result_head tool head ≡ Err fault
  pub answered : AnswersImages tool → AreImages is → answers_from tool Between [] accepted ≡ output_due tool is
  pub so_far : due_so_far tool (images_ended accepted) (begun_of (place_of Between accepted)) is ≡ output_due tool is

rows_taken : (tool : Tool) (rows : List (List ℕ)) (more : List Message) → AreTaken tool more → AreTaken tool ((map Row rows ++ ImageEnd ∷ []) ++ more)
rows_taken tool [] more taken = taken
rows_taken tool (row ∷ rows) more taken = rows_taken tool rows more taken

rows_ended : (rows : List (List ℕ)) (more : List Message) → images_ended ((map Row rows ++ ImageEnd ∷ []) ++ more) ≡ suc (images_ended more)
rows_ended [] more = refl
rows_ended (row ∷ rows) more = rows_ended rows more

nothing_so_far : (tool : Tool) (i : Image) (is : List Image) → due_so_far tool zero false (i ∷ is) ≡ []
unfolding due_so_far
nothing_so_far tool i is = refl

abbrev so_far_by : Tool → ℕ → Bool → List Image → Result Image ToolFault → List Message
so_far_by tool n b is r = elim r [ Ok j ↦ messages_of_image j ++ due_so_far tool n b is | Err fault ↦ [] ]

so_far_is : (tool : Tool) (n : ℕ) (b : Bool) (i : Image) (is : List Image) → due_so_far tool (suc n) b (i ∷ is) ≡ so_far_by tool n b is (applied tool i)
unfolding due_so_far
so_far_is tool n b i is = refl

abbrev make : Tool → Image → HeadValue → Image
make tool i head = image_by head (result_sample tool i)

-- it is the first of these images
refused_here : {tool : Tool} {i : Image} {is : List Image} {fault : ToolFault} → result_head tool i.head ≡ Err fault → FirstRefused tool fault (i ∷ is)
refused_here {tool} {i} {is} refused =
    let none : output_due tool (i ∷ is) ≡ [] = due_is tool i is
    ∙ ap (λ (r : Result HeadValue ToolFault). due_by tool is (applied_by (make tool i) r)) refused in
    record {
      accepted = [];
      head = i.head;
      rest = (map Row (rows_of i) ++ ImageEnd ∷ []) ++ messages_of_stream is;
      parts = refl;
      taken = tt;
      refused = refused;
      answered = λ answers images. sym none;
      so_far = nothing_so_far tool i is ∙ sym none;
    }

-- it comes after this one
refused_after : {tool : Tool} {i : Image} {is : List Image} {fault : ToolFault} {head : HeadValue} → result_head tool i.head ≡ Ok head
    → FirstRefused tool fault is → FirstRefused tool fault (i ∷ is)
refused_after {tool} {i} {is} {head} taken others =
    let j : Image = make tool i head in
    let made : applied tool i ≡ Ok j = ap (applied_by (make tool i)) taken in
    let due : output_due tool (i ∷ is) ≡ messages_of_image j ++ output_due tool is = due_is tool i is ∙ ap (due_by tool is) made in
    let l : List Message = messages_of_image i ++ others.accepted in
    let count : images_ended l ≡ suc (images_ended others.accepted) = rows_ended (rows_of i) others.accepted in
    let place : place_of Between l ≡ place_of Between others.accepted = place_of-append Between (messages_of_image i) others.accepted
    ∙ ap (λ (p : Place). place_of p others.accepted) (ends_between i) in
    let begun : Bool = begun_of (place_of Between others.accepted) in
    record {
      accepted = l;
      head = others.head;
      rest = others.rest;
      parts = ap (λ (x : List Message). messages_of_image i ++ x) others.parts
          ∙ sym (append_assoc (messages_of_image i) others.accepted (Begin others.head ∷ others.rest));
      taken = ((head, taken), rows_taken tool (rows_of i) others.accepted others.taken);
      refused = others.refused;
      answered = λ answers images. answered_after_image tool i others.accepted
          ∙ ap (λ (x : List Message). x ++ answers_from tool Between [] others.accepted) (answers i j images.0 made)
          ∙ ap (λ (x : List Message). messages_of_image j ++ x) (others.answered answers images.1) ∙ sym due;
      so_far = ap (λ (p : Place). due_so_far tool (images_ended l) (begun_of p) (i ∷ is)) place
          ∙ ap (λ (n : ℕ). due_so_far tool n begun (i ∷ is)) count ∙ so_far_is tool (images_ended others.accepted) begun i is
          ∙ ap (so_far_by tool (images_ended others.accepted) begun is) made ∙ ap (λ (x : List Message). messages_of_image j ++ x) others.so_far
          ∙ sym due;
    }

refused_of_others : (j : Image) (r : Result (List Image) ToolFault) {fault : ToolFault} → with_first (Ok j) r ≡ Err fault → r ≡ Err fault
refused_of_others j (Ok js) e = absurd cc
refused_of_others j (Err other) e = e

refused_by : {tool : Tool} {i : Image} {is : List Image} {fault : ToolFault} (r : Result HeadValue ToolFault) → result_head tool i.head ≡ r
    → (results_of tool is ≡ Err fault → FirstRefused tool fault is) → with_first (applied_by (make tool i) r) (results_of tool is) ≡ Err fault
    → FirstRefused tool fault (i ∷ is)
refused_by {tool} {i} {is} (Ok head) taken others e = refused_after taken (others (refused_of_others (make tool i head) (results_of tool is) e))
refused_by {fault} (Err other) refused others e = refused_here (refused ∙ (let same : other ≡ fault = cc in ap Err same))

pub first_refused : (tool : Tool) (is : List Image) (fault : ToolFault) → results_of tool is ≡ Err fault → FirstRefused tool fault is
first_refused tool [] fault e = absurd cc
first_refused tool (i ∷ is) fault e = refused_by (result_head tool i.head) refl (first_refused tool is fault) e

-- ---- there is one

taken_or_refused : (tool : Tool) (head : HeadValue) {fault : ToolFault} → TakesHead tool head → result_head tool head ≡ Err fault → ⊥
taken_or_refused tool head {fault} takes refused = let two : Ok takes.0 ≡ Err fault = sym takes.1 ∙ refused in absurd cc

-- two heads that are refused, before which none is, stand at one place
same_place : (tool : Tool) {one other : ToolFault} (a b c d : List Message) (h k : HeadValue) → AreTaken tool a → AreTaken tool c
    → result_head tool h ≡ Err one → result_head tool k ≡ Err other → a ++ Begin h ∷ b ≡ c ++ Begin k ∷ d → a ≡ c
same_place tool [] b [] d h k ta tc rh rk e = refl
same_place tool [] b (m ∷ c) d h k ta tc rh rk e =
    let is : Begin h ≡ m = cc in
    absurd (taken_or_refused tool h (subst (λ (x : Message). AreTaken tool (x ∷ c)) (sym is) tc).0 rh)
same_place tool (m ∷ a) b [] d h k ta tc rh rk e =
    let is : Begin k ≡ m = cc in
    absurd (taken_or_refused tool k (subst (λ (x : Message). AreTaken tool (x ∷ a)) (sym is) ta).0 rk)
same_place tool (m ∷ a) b (n ∷ c) d h k ta tc rh rk e =
    let first : m ≡ n = cc in
    let later : a ++ Begin h ∷ b ≡ c ++ Begin k ∷ d = cc in
    ap (λ (x : Message). x ∷ a) first
    ∙ ap (λ (x : List Message). n ∷ x) (same_place tool a b c d h k (taken_rest tool (m ∷ []) a ta) (taken_rest tool (n ∷ []) c tc) rh rk later)

-- a list and its prefix, if it is a prefix of that, too
both_prefixes : (a b : List Message) → IsPrefixOf a b → IsPrefixOf b a → a ≡ b
both_prefixes [] [] f g = refl
both_prefixes [] (m ∷ b) f g = let e = g.1 in absurd cc
both_prefixes (m ∷ a) [] f g = let e = f.1 in absurd cc
both_prefixes (m ∷ a) (n ∷ b) f g =
    let whole = f.1 in
    let back = g.1 in
    let first : m ≡ n = cc in
    let later : b ≡ a ++ f.0 = cc in
    let earlier : a ≡ b ++ g.0 = cc in
    ap (λ (x : Message). x ∷ a) first ∙ ap (λ (x : List Message). n ∷ x) (both_prefixes a b (f.0, later) (g.0, earlier))

-- ---- what a tool has given that refused an image

-- the refused message is a head
abbrev IsHeadRefused : Tool → ToolFault → List Message → Type 0
IsHeadRefused tool fault rest = (head : HeadValue) × (more : List Message) × (rest ≡ Begin head ∷ more) × (result_head tool head ≡ Err fault)

head_refused : (tool : Tool) (fault : ToolFault) (m : Message) (more : List Message) → RefusesHead tool m fault → IsHeadRefused tool fault (m ∷ more)
head_refused tool fault (Begin head) more refuses = (head, more, refl, refuses)
head_refused tool fault (Row row) more refuses = absurd refuses
head_refused tool fault ImageEnd more refuses = absurd refuses
head_refused tool fault StreamEnd more refuses = absurd refuses
head_refused tool fault Stop more refuses = absurd refuses

refuses_head : (tool : Tool) (m : Message) (accepted : List Message) (fault : ToolFault) → Accepts (place_of Between accepted) m
    → Judges true tool accepted m (Err fault) → fault ≢ Memory → RefusesHead tool m fault
refuses_head tool m accepted CutOutside may judges named = judges.1
refuses_head tool m accepted ChannelOutside may judges named = judges.1
refuses_head tool m accepted TooLarge may judges named = judges.1
refuses_head tool m accepted OutOfOrder may judges named = in_order tool m accepted may judges
refuses_head tool m accepted Memory may judges named = absurd (named refl)

next_head : (tool : Tool) (fault : ToolFault) (accepted rest : List Message) → IsLawful (accepted ++ rest) → IsRefusedNext tool fault accepted rest
    → fault ≢ Memory → IsHeadRefused tool fault rest
next_head tool fault accepted [] lawful refused named = absurd refused
next_head tool fault accepted (m ∷ more) lawful refused named =
    head_refused tool fault m more (refuses_head tool m accepted fault (next_may_come Between accepted m more lawful) refused named)

in_full : {tool : Tool} {fault : ToolFault} (is : List Image) {accepted : List Message} (rest : List Message) {given : List Message} → AreImages is
    → AreSound (messages_of_stream is) → messages_of_stream is ≡ accepted ++ rest → AreTaken tool accepted → fault ≢ Memory
    → AnswersInFull tool accepted given → IsRefusedNext tool fault accepted rest → results_of tool is ≡ Err fault → given ≡ output_due tool is
in_full {tool} {fault} is {accepted} rest {given} images sound parts taken named full refused results =
    let found = first_refused tool is fault results in
    let next = next_head tool fault accepted rest (subst IsLawful parts (stream_is_lawful is images)) refused named in
    let split : messages_of_stream is ≡ accepted ++ Begin next.0 ∷ next.1 = parts ∙ ap (λ (x : List Message). accepted ++ x) next.2 in
    let same = same_place tool accepted next.1 found.accepted found.rest next.0 found.head taken found.taken next.3 found.refused (sym split ∙ found.parts) in
    let keeps : without_stop accepted ≡ accepted = sound_keeps_all accepted (sound_prefix accepted rest (subst AreSound parts sound)).sound in
    let completes : Completes is accepted = record {
      images = images;
      prefix = subst (λ (x : List Message). IsPrefixOf x (messages_of_stream is)) (sym keeps) (rest, parts);
    } in
    let ends : EndsBy More given = full.ends More (prefix_goes_on Whole accepted (Begin next.0) next.1 (subst (EndsBy Whole) split (stream_ends_whole is))) in
    let begins = subst (λ (x : List Message). IsPrefixOf x (output_due tool is)) (unbroken_keeps_all More given tt ends) (full.answers.prefix is completes) in
    let so_far : due_so_far tool (images_ended accepted) (begun_of (place_of Between (without_stop accepted))) is ≡ output_due tool is =
    ap (λ (x : List Message). due_so_far tool (images_ended accepted) (begun_of (place_of Between x)) is) keeps
    ∙ ap (λ (x : List Message). due_so_far tool (images_ended x) (begun_of (place_of Between x)) is) same ∙ found.so_far in
    both_prefixes given (output_due tool is) begins (subst (λ (x : List Message). IsPrefixOf x given) so_far (full.all is completes))

-- unless memory ran out, all that is due
all_given : {tool : Tool} {fault : ToolFault} (is : List Image) {given : List Message} → AreImages is → AreSound (messages_of_stream is) → fault ≢ Memory
    → HasRefused tool fault (messages_of_stream is) given → given ≡ output_due tool is
all_given {tool} {fault} is images sound named has =
    elim has.refused [
      | inl memory ↦ absurd (named memory.0)
      | inr refused ↦
          elim (refused_next tool fault is has.accepted has.rest images has.parts has.taken refused.1) [
            | inl memory ↦ absurd (named memory)
            | inr results ↦ in_full is has.rest images sound has.parts has.taken named refused.0 refused.1 results
          ]
    ]

-- ---- a chain

-- what is due from one tool and others is due from the others for its results
pub due_of_others : (tool : Tool) (tools : List Tool) (is js : List Image) → AreResults tool is js → due_in_turn (tool ∷ tools) is ≡ due_in_turn tools js
unfolding due_in_turn
due_of_others tool tools [] [] are = refl
due_of_others tool tools [] (j ∷ js) are = absurd are
due_of_others tool tools (i ∷ is) [] are = absurd are
due_of_others tool tools (i ∷ is) (j ∷ js) are =
    ap (λ (r : Result Image ToolFault). due_with (due_in_turn (tool ∷ tools) is) (rest_in_turn tools r)) are.0
    ∙ ap (λ (l : List Message). due_with l (applied_in_turn tools j)) (due_of_others tool tools is js are.1)

one_due_by : (others : List Message) (r : Result Image ToolFault) → due_with others (rest_in_turn [] r) ≡ due_with others r
one_due_by others (Ok j) = refl
one_due_by others (Err fault) = refl

-- what is due from a chain of one tool
pub due_of_one : (tool : Tool) (is : List Image) → due_in_turn (tool ∷ []) is ≡ output_due tool is
unfolding due_in_turn output_due
due_of_one tool [] = refl
due_of_one tool (i ∷ is) = one_due_by (due_in_turn (tool ∷ []) is) (applied tool i)
    ∙ ap (λ (l : List Message). due_with l (applied tool i)) (due_of_one tool is)

last_refused : (from : ℕ) (tools : List Tool) (faults : List (Option ToolFault)) (is : List Image) (given : List Message) (number : ℕ) (fault : ToolFault)
    → AreLawfulTools tools → AreImages is → AreSound (messages_of_stream is) → HaveAnswered tools faults (messages_of_stream is) given
    → IsFirstFault from faults number fault → number + 1 ≡ from + length tools → fault ≢ Memory → given ≡ due_in_turn tools is
last_refused from [] [] is given number fault lawful images sound have first last named = absurd first
last_refused from [] (other ∷ faults) is given number fault lawful images sound have first last named = absurd have
last_refused from (tool ∷ tools) [] is given number fault lawful images sound have first last named = absurd have
last_refused from (tool ∷ tools) (None ∷ faults) is given number fault lawful images sound have first last named =
    let r = full_answer_is_the_stream tool is have.0 images have.1 in
    let middle : AreSound have.0 = given_are_sound (tool ∷ []) (None ∷ []) (messages_of_stream is) have.0 (lawful.0, tt) sound (have.0, have.1, refl) in
    last_refused (from + 1) tools faults r.0 given number fault lawful.1 (results_are_images tool is r.0 lawful.0 images r.1) (subst AreSound r.2 middle)
    (subst (λ (l : List Message). HaveAnswered tools faults l given) r.2 have.2) first (omega (arith, last)) named
    ∙ sym (due_of_others tool tools is r.0 r.1)
last_refused from (tool ∷ t2 ∷ tools) (Some other ∷ faults) is given number fault lawful images sound have first last named =
    absurd (omega (arith, last, first.0))
last_refused from (tool ∷ []) (Some other ∷ next ∷ faults) is given number fault lawful images sound have first last named = absurd have.2
last_refused from (tool ∷ []) (Some other ∷ []) is given number fault lawful images sound have first last named =
    have.2 ∙ all_given is images sound (λ memory. named (first.1 ∙ memory)) have.1 ∙ sym (due_of_one tool is)

-- if the last tool is the first that refused an image, the chain has given all that is due, unless memory ran out
pub last_refusal_is_due : (tools : List Tool) (faults : List (Option ToolFault)) (is : List Image) (given : List Message) {number : ℕ} (fault : ToolFault)
    → AreLawfulTools tools → AreImages is → AreSound (messages_of_stream is) → HaveAnswered tools faults (messages_of_stream is) given
    → IsFirstFault 1 faults number fault → number ≡ length tools → fault ≢ Memory → given ≡ due_in_turn tools is
last_refusal_is_due tools faults is given {number} fault lawful images sound have first last named =
    last_refused 1 tools faults is given number fault lawful images sound have first (omega (arith, last)) named
