-- What was written where the second of two images is refused.
use Rattle.pnm_serial.proofs.Words.{◌≡◌, ℕ, List, [], ◌∷◌, ◌++◌, Option, None, Some, Result, Ok, Err, refl, sym, ap, subst, ◌∙◌, inl, inr, arith, zero, suc}
use Rattle.pnm_serial.proofs.Words.{false, ◌<◌, ◌≤◌, get_or, Raw, Message, Begin, Row, ImageEnd, StreamEnd, Gray, HeadValue, Image, IsImage, messages_of_image}
use Rattle.pnm_serial.proofs.Words.{messages_of_stream, Completes, IsPrefixOf, ToolFault, CutOutside, Memory, Tool, Cut, AreTaken, AnswersInFull, RefusesHead}
use Rattle.pnm_serial.proofs.Words.{HasRefused, HaveAnswered, IsFirstFault, IsRefusedNext, bytes_of, image_of_samples, from_second, wide_then_narrow}
use Rattle.pnm_serial.proofs.Words.{ResultBeforeRefusalIsWritten}
use Rattle.std.specs.Prelude.{codes}
use Rattle.std.specs.Fmt.{digits}
use Rattle.pnm_tools.specs.Tools.{result_head, result_sample}
use Rattle.pnm_tools.specs.Answers.{due_so_far}
use Rattle.pnm_serial.proofs.MessageSteps.{bytes_of-append}

abbrev wide : Image
wide = image_of_samples Gray 2 1 1 9 (1 ∷ 2 ∷ [])

abbrev narrow : Image
narrow = image_of_samples Gray 1 1 1 9 (3 ∷ [])

abbrev result : Image
result = image_of_samples Gray 1 1 1 9 (2 ∷ [])

abbrev tool : Tool
tool = Cut from_second

-- the head of the first is taken, and that of the second is refused
first_is : result_head tool wide.head ≡ Ok result.head
unfolding result_head
first_is = refl

second_is : result_head tool narrow.head ≡ Err CutOutside
unfolding result_head
second_is = refl

no_fault : {head : HeadValue} {fault : ToolFault} → Ok head ≡ Err fault → ⊥
no_fault e = absurd cc

taken_or_refused : (answer : Result HeadValue ToolFault) (head : HeadValue) {fault : ToolFault} → answer ≡ Ok head → answer ≡ Err fault → ⊥
taken_or_refused answer head taken refused = absurd (no_fault (sym taken ∙ refused))

-- what is due for the first
due_first : due_so_far tool 1 false (wide ∷ []) ≡ messages_of_image result
unfolding due_so_far result_head result_sample
due_first = refl

small : (k d : ℕ) → k < 2 → get_or (1 ∷ 2 ∷ []) k d ≤ 9
small zero d within = omega arith
small (suc zero) d within = omega arith
small (suc (suc k)) d within = absurd (omega arith)

wide_is_image : IsImage wide
wide_is_image = record {
  head = record {
    limits = record {
      width_low = omega arith;
      width_high = omega arith;
      height_high = omega arith;
      depth_low = omega arith;
      depth_high = omega arith;
      row_high = omega arith;
      maxval_low = omega arith;
      maxval_high = omega arith;
    };
    suits = (refl, refl);
  };
  count = refl;
  range = small;
}

-- ---- what was accepted

abbrev Refuses : Message → Type 0
Refuses m = RefusesHead tool m CutOutside

-- only the messages of the first image were accepted
accepted_is : (accepted rest : List Message) → messages_of_stream wide_then_narrow ≡ accepted ++ rest → AreTaken tool accepted
    → IsRefusedNext tool CutOutside accepted rest → accepted ≡ messages_of_image wide
accepted_is accepted [] e taken refused = absurd refused
accepted_is [] (m ∷ rest) e taken refused =
    let is : m ≡ Begin wide.head = cc in
    absurd (taken_or_refused (result_head tool wide.head) result.head first_is (subst Refuses is refused.1))
accepted_is (a ∷ []) (m ∷ rest) e taken refused =
    let is : m ≡ Row (1 ∷ 2 ∷ []) = cc in
    absurd (subst Refuses is refused.1)
accepted_is (a ∷ b ∷ []) (m ∷ rest) e taken refused =
    let is : m ≡ ImageEnd = cc in
    absurd (subst Refuses is refused.1)
accepted_is (a ∷ b ∷ c ∷ []) (m ∷ rest) e taken refused = cc
accepted_is (a ∷ b ∷ c ∷ d ∷ more) (m ∷ rest) e taken refused =
    let is : a ∷ b ∷ c ∷ d ∷ more ≡ Begin wide.head ∷ Row (1 ∷ 2 ∷ []) ∷ ImageEnd ∷ Begin narrow.head ∷ more = cc in
    let all = subst (AreTaken tool) is taken in
    absurd (taken_or_refused (result_head tool narrow.head) all.1.0.0 all.1.0.1 second_is)

-- ---- what was given

-- the result of the first was given
given_first : {given : List Message} → AnswersInFull tool (messages_of_image wide) given → IsPrefixOf (messages_of_image result) given
given_first {given} full =
    let completes : Completes (wide ∷ []) (messages_of_image wide) = record { images = (wide_is_image, tt); prefix = (StreamEnd ∷ [], refl) } in
    subst (λ (l : List Message). IsPrefixOf l given) due_first (full.all (wide ∷ []) completes)

no_memory : CutOutside ≡ Memory → ⊥
no_memory e = absurd cc

refused_given : {given : List Message} → HasRefused tool CutOutside (messages_of_stream wide_then_narrow) given → IsPrefixOf (messages_of_image result) given
refused_given {given} has =
    elim has.refused [
      | inl memory ↦ absurd (no_memory memory.0)
      | inr full ↦
          given_first (subst (λ (l : List Message). AnswersInFull tool l given) (accepted_is has.accepted has.rest has.parts has.taken full.1) full.0)
    ]

chain_given : (faults : List (Option ToolFault)) (given : List Message) → IsFirstFault 1 faults 1 CutOutside
    → HaveAnswered (tool ∷ []) faults (messages_of_stream wide_then_narrow) given → IsPrefixOf (messages_of_image result) given
chain_given [] given first answered = absurd first
chain_given (None ∷ []) given first answered = absurd first
chain_given (None ∷ fault ∷ faults) given first answered = absurd answered.2
chain_given (Some other ∷ fault ∷ faults) given first answered = absurd answered.2
chain_given (Some other ∷ []) given first answered =
    let has = subst (λ (f : ToolFault). HasRefused tool f (messages_of_stream wide_then_narrow) answered.0) (sym first.1) answered.1 in
    subst (λ (l : List Message). IsPrefixOf (messages_of_image result) l) (sym answered.2) (refused_given has)

with_more : (more : List ℕ) → bytes_of Raw (messages_of_image result) ++ more ≡ codes "P5\n1 1\n9\n" ++ 2 ∷ more
unfolding digits
with_more more = refl

pub result_is_written : ResultBeforeRefusalIsWritten
result_is_written text old new said all =
    let prefix = chain_given all.faults all.given all.fit (subst (λ (l : List Message). HaveAnswered (tool ∷ []) all.faults l all.given) said all.answered) in
    let more = bytes_of-append Raw (messages_of_image result) prefix.0 in
    (more.0, all.written ∙ ap (λ (bytes : List ℕ). old ++ bytes) (ap (bytes_of Raw) prefix.1 ∙ more.1 ∙ with_more more.0))
