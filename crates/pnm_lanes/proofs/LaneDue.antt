-- What lanes of a row-wise tool give is dealt from what is due, and what is gathered from it is what is due.
use Rattle.pnm_lanes.proofs.Words.{◌≡◌, ◌⊎◌, inl, inr, ℕ, ◌<◌, true, List, [], ◌∷◌, ◌++◌, Result, Ok, Err, refl, sym, ap, subst, ◌∙◌, append_assoc, append-nil}
use Rattle.pnm_lanes.proofs.Words.{Message, Begin, Row, ImageEnd, StreamEnd, Stop, Place, Between, Inside, After, Image, IsImage, AreImages, rows_of}
use Rattle.pnm_lanes.proofs.Words.{messages_of_image, messages_of_stream, without_stop, ending_of, EndsBy, place_after, IsPrefixOf, Completes, ToolFault, Tool}
use Rattle.pnm_lanes.proofs.Words.{Ending, More, Whole, dealt_message, dealt_from, dealt, IsLawfulTool, is_row_wise, applied, due_by, due_is, prefix_of_prefix}
use Rattle.pnm_lanes.proofs.Words.{ends_after, end_ends_nothing, result_is_image, IsPrefixOfDue, one_ending, prefix_goes_on, prefix_without_stop, ends_as}
use Rattle.pnm_lanes.proofs.Words.{dealt_images, results_before}
use Rattle.pnm_tools.specs.Tools.{output_due}
use Rattle.pnm_lanes.proofs.DealtLaws.{dealt_prefix, part_ends_nothing}
use Rattle.pnm_lanes.proofs.LaneLaws.{dealt_are_images, stream_is_dealt, due_is_dealt}

-- ---- what a lane gives

-- of what it gets of a stream
pub lane_gives_due : (tool : Tool) (lane lanes : ℕ) (is : List Image) {l g : List Message} → IsLawfulTool tool → is_row_wise tool ≡ true → lane < lanes
    → AreImages is → IsPrefixOf (without_stop l) (dealt lane lanes (messages_of_stream is)) → IsPrefixOfDue (output_due tool) l g
    → IsPrefixOf (without_stop g) (dealt lane lanes (output_due tool is))
lane_gives_due tool lane lanes is {l} {g} lawful row_wise below are gets of_due =
    let seen : IsPrefixOf (without_stop l) (messages_of_stream (dealt_images lane lanes is)) =
    subst (IsPrefixOf (without_stop l)) (stream_is_dealt lane lanes is are) gets in
    let first : IsPrefixOf (without_stop of_due.accepted) (without_stop l) =
    subst (λ (x : List Message). IsPrefixOf (without_stop of_due.accepted) (without_stop x)) (sym of_due.parts)
    (prefix_without_stop of_due.accepted of_due.rest) in
    let completes : Completes (dealt_images lane lanes is) of_due.accepted = record {
      images = dealt_are_images lane lanes is are;
      prefix = prefix_of_prefix (without_stop of_due.accepted) (without_stop l) (messages_of_stream (dealt_images lane lanes is)) first seen;
    } in
    subst (IsPrefixOf (without_stop g)) (due_is_dealt tool lane lanes is lawful row_wise below are) (of_due.prefix (dealt_images lane lanes is) completes)

-- ---- the results before the first image that is refused

-- what is due goes on with the end of the stream, or it is the stream of the results
abbrev pub IsDueOf : List Message → List Image → Type 0
IsDueOf due js = (messages_of_stream js ≡ due) ⊎ ((messages_of_stream js ≡ due ++ StreamEnd ∷ []) × EndsBy More due)

after_image : (j : Image) (js : List Image) (due : List Message) → IsDueOf due js → IsDueOf (messages_of_image j ++ due) (j ∷ js)
after_image j js due (inl all) = inl (ap (λ (x : List Message). messages_of_image j ++ x) all)
after_image j js due (inr cut) = inr (
  ap (λ (x : List Message). messages_of_image j ++ x) cut.0 ∙ sym (append_assoc (messages_of_image j) due (StreamEnd ∷ [])),
  ends_after More (messages_of_image j) due (refl, end_ends_nothing (rows_of j)) cut.1,
)

abbrev results_by : Tool → List Image → Result Image ToolFault → List Image
results_by tool is r = elim r [ Ok j ↦ j ∷ results_before tool is | Err fault ↦ [] ]

due_of_result : (tool : Tool) (is : List Image) (r : Result Image ToolFault) → IsDueOf (output_due tool is) (results_before tool is)
    → IsDueOf (due_by tool is r) (results_by tool is r)
due_of_result tool is (Ok j) others = after_image j (results_before tool is) (output_due tool is) others
due_of_result tool is (Err fault) others = inr (refl, refl)

stream_of_nothing : (tool : Tool) → messages_of_stream [] ≡ output_due tool []
unfolding output_due
stream_of_nothing tool = refl

pub due_of_results : (tool : Tool) (is : List Image) → IsDueOf (output_due tool is) (results_before tool is)
due_of_results tool [] = inl (stream_of_nothing tool)
due_of_results tool (i ∷ is) =
    subst (λ (x : List Message). IsDueOf x (results_before tool (i ∷ is))) (sym (due_is tool i is))
    (due_of_result tool is (applied tool i) (due_of_results tool is))

results_by_are_images : (tool : Tool) {i : Image} (is : List Image) (r : Result Image ToolFault) → IsLawfulTool tool → IsImage i → applied tool i ≡ r
    → AreImages (results_before tool is) → AreImages (results_by tool is r)
results_by_are_images tool {i} is (Ok j) lawful image made others = (result_is_image tool i j lawful image made, others)
results_by_are_images tool is (Err fault) lawful image made others = tt

pub results_before_are_images : (tool : Tool) (is : List Image) → IsLawfulTool tool → AreImages is → AreImages (results_before tool is)
results_before_are_images tool [] lawful are = tt
results_before_are_images tool (i ∷ is) lawful are = results_by_are_images tool is (applied tool i) lawful are.0 refl
    (results_before_are_images tool is lawful are.1)

-- what is due is a prefix of the stream of the results
due_is_prefix : (due : List Message) (js : List Image) → IsDueOf due js → IsPrefixOf due (messages_of_stream js)
due_is_prefix due js (inl all) = ([], all ∙ sym (append-nil due))
due_is_prefix due js (inr cut) = (StreamEnd ∷ [], cut.0)

-- so what a lane gives is dealt from the stream of the results
pub lane_gives_results : (tool : Tool) (lane lanes : ℕ) (is : List Image) (g : List Message) → IsPrefixOf g (dealt lane lanes (output_due tool is))
    → IsPrefixOf g (dealt lane lanes (messages_of_stream (results_before tool is)))
lane_gives_results tool lane lanes is g prefix =
    prefix_of_prefix g (dealt lane lanes (output_due tool is)) (dealt lane lanes (messages_of_stream (results_before tool is))) prefix
    (dealt_prefix lane lanes (output_due tool is) (messages_of_stream (results_before tool is))
    (due_is_prefix (output_due tool is) (results_before tool is) (due_of_results tool is)))

-- ---- what is gathered

-- a prefix of a list and one message more is one of the list, or all
pub prefix_or_all : (a b : List Message) (m : Message) → IsPrefixOf a (b ++ m ∷ []) → IsPrefixOf a b ⊎ (a ≡ b ++ m ∷ [])
prefix_or_all [] b m prefix = inl (b, refl)
prefix_or_all (x ∷ []) [] m prefix = inr (let e = prefix.1 in let same : m ≡ x = cc in ap (λ (y : Message). y ∷ []) (sym same))
prefix_or_all (x ∷ y ∷ a) [] m prefix = let e = prefix.1 in absurd cc
prefix_or_all (x ∷ a) (y ∷ b) m prefix =
    let e = prefix.1 in
    let same : y ≡ x = cc in
    let rest : b ++ m ∷ [] ≡ a ++ prefix.0 = cc in
    elim (prefix_or_all a b m (prefix.0, rest)) [
      | inl h ↦ inl (h.0, ap (λ (z : Message). z ∷ b) same ∙ ap (λ (l : List Message). x ∷ l) h.1)
      | inr h ↦ inr (ap (λ (l : List Message). x ∷ l) h ∙ ap (λ (z : Message). z ∷ (b ++ m ∷ [])) (sym same))
    ]

-- ---- how dealt messages end

last_ends : (lane lanes : ℕ) (place : Place) (m : Message) {e : Ending} → ending_of m ≡ e → EndsBy e (dealt_message lane lanes place m ++ [])
last_ends lane lanes place (Begin head) same = same
last_ends lane lanes Between (Row row) same = sym same
last_ends lane lanes (Inside s y) (Row row) {e} same =
    ends_after e (dealt_message lane lanes (Inside s y) (Row row)) [] (part_ends_nothing lane lanes (Inside s y) (Row row) refl) (sym same)
last_ends lane lanes After (Row row) same = sym same
last_ends lane lanes place ImageEnd same = same
last_ends lane lanes place StreamEnd same = same
last_ends lane lanes place Stop same = same

-- as the messages do
dealt_ends_from : (e : Ending) (lane lanes : ℕ) (place : Place) (l : List Message) → EndsBy e l → EndsBy e (dealt_from lane lanes place l)
dealt_ends_from e lane lanes place [] ends = ends
dealt_ends_from e lane lanes place (m ∷ []) ends = last_ends lane lanes place m ends
dealt_ends_from e lane lanes place (m ∷ n ∷ l) ends =
    ends_after e (dealt_message lane lanes place m) (dealt_from lane lanes (place_after place m) (n ∷ l)) (part_ends_nothing lane lanes place m ends.0)
    (dealt_ends_from e lane lanes (place_after place m) (n ∷ l) ends.1)

pub dealt_ends : (e : Ending) (lane lanes : ℕ) (l : List Message) → EndsBy e l → EndsBy e (dealt lane lanes l)
dealt_ends e lane lanes l ends = dealt_ends_from e lane lanes Between l ends

-- a prefix of a list that goes on goes on
pub prefix_of_more : (e : Ending) (a b : List Message) → IsPrefixOf a b → EndsBy More b → EndsBy More a
prefix_of_more e a b ([], whole) more = subst (EndsBy More) (whole ∙ append-nil a) more
prefix_of_more e a b (m ∷ rest, whole) more = prefix_goes_on More a m rest (subst (EndsBy More) whole more)

gathered_by : (due : List Message) (js : List Image) (lane lanes : ℕ) (first g : List Message) → IsDueOf due js → IsPrefixOf first (dealt lane lanes due)
    → IsPrefixOf g (messages_of_stream js) → (EndsBy Whole g → EndsBy Whole first) → IsPrefixOf g due
gathered_by due js lane lanes first g (inl all) gave gathered ends = subst (IsPrefixOf g) all gathered
gathered_by due js lane lanes first g (inr cut) gave gathered ends =
    elim (prefix_or_all g due StreamEnd (subst (IsPrefixOf g) cut.0 gathered)) [
      | inl prefix ↦ prefix
      | inr all ↦
          let whole : EndsBy Whole first = ends (subst (EndsBy Whole) (sym all) (ends_as Whole due StreamEnd cut.1 refl)) in
          let more : EndsBy More first = prefix_of_more More first (dealt lane lanes due) gave (dealt_ends More lane lanes due cut.1) in
          let same = one_ending More Whole first more whole in
          absurd cc
    ]

-- what is gathered is a prefix of what is due
pub gathered_is_due : (tool : Tool) (lane lanes : ℕ) (is : List Image) (first g : List Message) → IsPrefixOf first (dealt lane lanes (output_due tool is))
    → IsPrefixOf g (messages_of_stream (results_before tool is)) → (EndsBy Whole g → EndsBy Whole first) → IsPrefixOf g (output_due tool is)
gathered_is_due tool lane lanes is first g gave gathered ends = gathered_by (output_due tool is) (results_before tool is) lane lanes first g
    (due_of_results tool is) gave gathered ends
