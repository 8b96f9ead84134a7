-- What one tool has sent for the messages of images: all its results, or those before a fault.
use Rattle.pnm_flow.proofs.Words.{◌≡◌, ◌≢◌, ◌⊎◌, inl, inr, ℕ, zero, suc, ◌<◌, ◌≤◌, Bool, true, false, List, [], ◌∷◌, ◌++◌, Option, Some, None, Result, Ok, Err}
use Rattle.pnm_flow.proofs.Words.{refl, sym, ap, subst, ◌∙◌, append-nil, arith, Form, Raw, Plain, Message, Begin, Row, ImageEnd, StreamEnd, Stop, More, Whole}
use Rattle.pnm_flow.proofs.Words.{BrokenOff, Between, Image, AreImages, messages_of_stream, ending_of, without_stop, EndsBy, IsLawful, IsPrefixOf, IsStreamOf}
use Rattle.pnm_flow.proofs.Words.{lawful_prefix, next_may_come, is_stream_of, stream_is_messages, stream_is_lawful, stream_ends, ToolFault, CutOutside}
use Rattle.pnm_flow.proofs.Words.{ChannelOutside, TooLarge, OutOfOrder, Memory, Tool, Answers, AnswersInFull, AreResults, results_of, IsRefusedNext}
use Rattle.pnm_flow.proofs.Words.{IsFaultOfHead, IsLawfulTool, is_row_wise, output_due, answering_in_full, prefix_of_prefix, head_is_refused_by_name}
use Rattle.pnm_flow.proofs.Words.{nothing_changes, EndsUnbroken, tool_answers_images, SinkFault, bytes_of, written_of, form_fault_from, form_fault_of}
use Rattle.pnm_flow.proofs.Words.{has_begun_by, form_fault-more, refused_before, taken_by-all, bytes_of_more, FirstRefused, first_refused, due_of_one}
use Rattle.pnm_flow.proofs.Words.{due_of_others, are_results, Well, Fault, HasEndedWell, HasFailed, one_ending, prefix_goes_on, stream_ends_whole}
use Rattle.pnm_flow.proofs.Words.{prefix_without_stop, stop_is_cut, ends_with, IsFaultOf, HasFailedInLanes, answered_in_full, RunsInLanes, HasEndedOver}

-- ---- over several lanes or over one

several_or_one : (lanes : ℕ) → (1 < lanes) ⊎ (lanes ≤ 1)
several_or_one zero = inr (omega arith)
several_or_one (suc zero) = inr (omega arith)
several_or_one (suc (suc n)) = inl (omega arith)

-- there is one lane, or the tool isn't row-wise
abbrev pub IsAlone : ℕ → Tool → Type 0
IsAlone lanes tool = (lanes ≤ 1) ⊎ (is_row_wise tool ≡ false)

by_lanes : (lanes : ℕ) (tool : Tool) (b : Bool) → is_row_wise tool ≡ b → (1 < lanes) ⊎ (lanes ≤ 1) → RunsInLanes lanes tool ⊎ IsAlone lanes tool
by_lanes lanes tool b is (inr one) = inr (inl one)
by_lanes lanes tool false is (inl several) = inr (inr is)
by_lanes lanes tool true is (inl several) = inl (several, is)

pub in_lanes_or_alone : (lanes : ℕ) (tool : Tool) → RunsInLanes lanes tool ⊎ IsAlone lanes tool
in_lanes_or_alone lanes tool = by_lanes lanes tool (is_row_wise tool) refl (several_or_one lanes)

pub alone_is_one : (lanes : ℕ) (tool : Tool) → IsAlone lanes tool → RunsInLanes lanes tool → ⊥
alone_is_one lanes tool (inl one) several = absurd (omega (arith, one, several.0))
alone_is_one lanes tool (inr whole) several = let two : false ≡ true = sym whole ∙ several.1 in absurd cc

-- ---- all images were taken

stream_of : (is : List Image) → AreImages is → IsStreamOf (messages_of_stream is) is
stream_of is images =
    let found = is_stream_of (messages_of_stream is) (stream_is_messages is images) (stream_is_lawful is images) (stream_ends is) in
    subst (IsStreamOf (messages_of_stream is)) (sym (found.1.only is images refl)) found.1

well_so : (tool : Tool) (is js : List Image) → IsLawfulTool tool → AreImages is → AreResults tool is js
    → HasEndedWell tool (messages_of_stream is) (messages_of_stream js)
well_so tool is js lawful images are = record {
  images = is;
  results = js;
  stream = stream_of is images;
  made = are;
  answer = refl;
  full = answered_in_full tool is js (messages_of_stream is) (messages_of_stream js) lawful images are refl refl;
}

pub ended_well_over : (lanes : ℕ) (tool : Tool) (is js : List Image) → IsLawfulTool tool → AreImages is → AreResults tool is js
    → HasEndedOver lanes tool Well (messages_of_stream is) (messages_of_stream js)
ended_well_over lanes tool is js lawful images are =
    elim (in_lanes_or_alone lanes tool) [
      | inl several ↦ inl (several, well_so tool is js lawful images are)
      | inr one ↦ inr (alone_is_one lanes tool one, well_so tool is js lawful images are)
    ]

-- ---- what it took before a fault

-- it took these of the messages, and answered them by all that is due
record Taken (tool : Tool) (is : List Image) : Type 0 where
  accepted : List Message
  rest : List Message
  parts : messages_of_stream is ≡ accepted ++ rest
  full : AnswersInFull tool accepted (output_due tool is)

before_first : (tool : Tool) (fault : ToolFault) (is : List Image) → IsLawfulTool tool → AreImages is → (found : FirstRefused tool fault is)
    → AnswersInFull tool found.accepted (output_due tool is)
before_first tool fault is lawful images found =
    let answers = tool_answers_images tool lawful in
    answering_in_full tool found.accepted (output_due tool is) answers (record {
      lawful = lawful_prefix Between found.accepted (Begin found.head ∷ found.rest) (subst IsLawful found.parts (stream_is_lawful is images));
      taken = found.taken;
      given = found.answered answers images ∙ sym (append-nil (output_due tool is));
    })

taken_by_results : (tool : Tool) (is : List Image) (r : Result (List Image) ToolFault) → IsLawfulTool tool → AreImages is → results_of tool is ≡ r
    → Taken tool is
taken_by_results tool is (Ok js) lawful images made =
    let are = are_results tool is js made in
    let due : output_due tool is ≡ messages_of_stream js = sym (due_of_one tool is) ∙ due_of_others tool [] is js are ∙ nothing_changes js in
    record {
      accepted = messages_of_stream is;
      rest = [];
      parts = sym (append-nil (messages_of_stream is));
      full = answered_in_full tool is js (messages_of_stream is) (output_due tool is) lawful images are refl due;
    }
taken_by_results tool is (Err fault) lawful images made =
    let found = first_refused tool is fault made in
    record {
      accepted = found.accepted;
      rest = Begin found.head ∷ found.rest;
      parts = found.parts;
      full = before_first tool fault is lawful images found;
    }

-- a part of the answers answers as much
part_answers : (tool : Tool) (accepted due part : List Message) → Answers tool accepted due → IsPrefixOf part due → EndsBy More part
    → Answers tool accepted part
part_answers tool accepted due part answers prefix more = record {
  lawful = answers.lawful;
  prefix = λ js completes. prefix_of_prefix (without_stop part) (without_stop due) (output_due tool js)
      (subst (λ (x : List Message). IsPrefixOf (without_stop part) (without_stop x)) (sym prefix.1) (prefix_without_stop part prefix.0))
      (answers.prefix js completes);
  stop = λ before is.
      let goes_on = prefix_goes_on More before Stop [] (subst (EndsBy More) is more) in
      let two = one_ending More BrokenOff part more (subst (EndsBy BrokenOff) (sym is) (ends_with before Stop goes_on)) in
      absurd cc;
}

-- ---- a fault

-- memory ran out, or the tool refuses one of the images
abbrev pub Fails : Tool → ToolFault → List Image → Type 0
Fails tool fault is = (fault ≡ Memory) ⊎ ((fault ≢ Memory) × (results_of tool is ≡ Err fault))

-- over several lanes
refused_in_lanes : (tool : Tool) (fault : ToolFault) (is : List Image) → AreImages is → is_row_wise tool ≡ true → (found : FirstRefused tool fault is)
    → IsFaultOfHead tool found.head fault → IsFaultOf tool fault (messages_of_stream is)
refused_in_lanes tool CutOutside is images row_wise found named =
    let two : false ≡ true = ap is_row_wise (sym named.1) ∙ row_wise in
    absurd cc
refused_in_lanes tool ChannelOutside is images row_wise found named = (
  stream_is_lawful is images,
  record { prefix = found.accepted; head = found.head; rest = found.rest; parts = found.parts; taken = found.taken; refused = found.refused },
)
refused_in_lanes tool TooLarge is images row_wise found named = (
  stream_is_lawful is images,
  record { prefix = found.accepted; head = found.head; rest = found.rest; parts = found.parts; taken = found.taken; refused = found.refused },
)
refused_in_lanes tool OutOfOrder is images row_wise found named = let two : false ≡ true = sym named.0 ∙ row_wise in absurd cc
refused_in_lanes tool Memory is images row_wise found named = absurd named

fault_in_lanes : (tool : Tool) (fault : ToolFault) (is : List Image) → AreImages is → is_row_wise tool ≡ true → Fails tool fault is
    → IsFaultOf tool fault (messages_of_stream is)
fault_in_lanes tool fault is images row_wise (inl memory) = subst (λ (f : ToolFault). IsFaultOf tool f (messages_of_stream is)) (sym memory) tt
fault_in_lanes tool fault is images row_wise (inr refused) =
    let found = first_refused tool is fault refused.1 in
    refused_in_lanes tool fault is images row_wise found (head_is_refused_by_name tool found.head fault found.refused)

failed_in_lanes : (tool : Tool) (fault : ToolFault) (is : List Image) (part : List Message) → AreImages is → is_row_wise tool ≡ true → Fails tool fault is
    → EndsBy More part → HasFailedInLanes tool fault (messages_of_stream is) (part ++ Stop ∷ [])
failed_in_lanes tool fault is part images row_wise fails more =
    record { of_input = fault_in_lanes tool fault is images row_wise fails; answer = (part, refl, more); ends = inl (stream_ends_whole is) }

-- over one stage, for want of memory
failed_for_memory : (tool : Tool) (is : List Image) (part : List Message) → IsLawfulTool tool → AreImages is → IsPrefixOf part (output_due tool is)
    → EndsBy More part → HasFailed tool Memory (messages_of_stream is) (part ++ Stop ∷ [])
failed_for_memory tool is part lawful images prefix more =
    let took = taken_by_results tool is (results_of tool is) lawful images refl in
    record {
      given = part;
      refused =
          record {
            accepted = took.accepted;
            rest = took.rest;
            parts = took.parts;
            taken = took.full.taken;
            answers = part_answers tool took.accepted (output_due tool is) part took.full.answers prefix more;
            refused = inl (refl, more);
          };
      unbroken = more;
      answer = refl;
      ends = inl (stream_ends_whole is);
    }

-- and since it refused an image
refused_next : (tool : Tool) (fault : ToolFault) (is : List Image) → AreImages is → (found : FirstRefused tool fault is)
    → IsFaultOfHead tool found.head fault → IsRefusedNext tool fault found.accepted (Begin found.head ∷ found.rest)
refused_next tool CutOutside is images found named =
    ((refl, next_may_come Between found.accepted (Begin found.head) found.rest (subst IsLawful found.parts (stream_is_lawful is images))), found.refused)
refused_next tool ChannelOutside is images found named =
    ((refl, next_may_come Between found.accepted (Begin found.head) found.rest (subst IsLawful found.parts (stream_is_lawful is images))), found.refused)
refused_next tool TooLarge is images found named =
    ((refl, next_may_come Between found.accepted (Begin found.head) found.rest (subst IsLawful found.parts (stream_is_lawful is images))), found.refused)
refused_next tool OutOfOrder is images found named = inr found.refused
refused_next tool Memory is images found named = absurd named

failed_by_itself : (tool : Tool) (fault : ToolFault) (is : List Image) → IsLawfulTool tool → AreImages is → results_of tool is ≡ Err fault
    → HasFailed tool fault (messages_of_stream is) (output_due tool is ++ Stop ∷ [])
failed_by_itself tool fault is lawful images results =
    let found = first_refused tool is fault results in
    let full = before_first tool fault is lawful images found in
    let whole = subst (EndsBy Whole) found.parts (stream_ends_whole is) in
    record {
      given = output_due tool is;
      refused =
          record {
            accepted = found.accepted;
            rest = Begin found.head ∷ found.rest;
            parts = found.parts;
            taken = found.taken;
            answers = full.answers;
            refused = inr (full, refused_next tool fault is images found (head_is_refused_by_name tool found.head fault found.refused));
          };
      unbroken = full.ends More (prefix_goes_on Whole found.accepted (Begin found.head) found.rest whole);
      answer = refl;
      ends = inl (stream_ends_whole is);
    }

-- it has ended so whatever comes of it
pub failed_somehow : (lanes : ℕ) (tool : Tool) (fault : ToolFault) (is : List Image) → IsLawfulTool tool → AreImages is → Fails tool fault is
    → (given : List Message) × HasEndedOver lanes tool (Fault fault) (messages_of_stream is) given
failed_somehow lanes tool fault is lawful images fails =
    elim (in_lanes_or_alone lanes tool) [
      | inl several ↦ ([] ++ Stop ∷ [], inl (several, failed_in_lanes tool fault is [] images several.1 fails refl))
      | inr one ↦
          elim fails [
            | inl memory ↦ (
              [] ++ Stop ∷ [],
              inr (
                alone_is_one lanes tool one,
                subst (λ (f : ToolFault). HasFailed tool f (messages_of_stream is) ([] ++ Stop ∷ [])) (sym memory)
                    (failed_for_memory tool is [] lawful images (output_due tool is, refl) refl),
              ),
            )
            | inr refused ↦
                (output_due tool is ++ Stop ∷ [], inr (alone_is_one lanes tool one, failed_by_itself tool fault is lawful images refused.1))
          ]
    ]

-- ---- what was written of it

-- the end of the stream adds no byte
end_is_taken : (form : Form) (begun : Bool) → form_fault_from form begun (StreamEnd ∷ []) ≡ None
end_is_taken Raw begun = refl
end_is_taken Plain begun = refl

end_by_fault : (form : Form) (l : List Message) (found : Option SinkFault) → form_fault_of form l ≡ found
    → written_of form (l ++ StreamEnd ∷ []) ≡ written_of form l
end_by_fault form l (Some fault) is = ap (bytes_of form) (refused_before form l (StreamEnd ∷ []) fault is).1
end_by_fault form l None is =
    let none = form_fault-more form l (StreamEnd ∷ []) is (end_is_taken form (has_begun_by false l)) in
    ap (bytes_of form) (taken_by-all form (l ++ StreamEnd ∷ []) none) ∙ bytes_of_more form Between l StreamEnd ∙ append-nil (bytes_of form l)
    ∙ ap (bytes_of form) (sym (taken_by-all form l is))

end_adds_nothing : (form : Form) (l : List Message) → written_of form (l ++ StreamEnd ∷ []) ≡ written_of form l
end_adds_nothing form l = end_by_fault form l (form_fault_of form l) refl

-- the messages of a list before the end of the stream
record BeforeEnd (l : List Message) : Type 0 where
  before : List Message
  more : EndsBy More before
  parts : l ≡ before ++ StreamEnd ∷ []

last_end : (m : Message) → ending_of m ≡ Whole → m ≡ StreamEnd
last_end (Begin head) whole = absurd cc
last_end (Row row) whole = absurd cc
last_end ImageEnd whole = absurd cc
last_end StreamEnd whole = refl
last_end Stop whole = absurd cc

before_end : (l : List Message) → EndsBy Whole l → BeforeEnd l
before_end [] whole = absurd cc
before_end (m ∷ []) whole = record { before = []; more = refl; parts = ap (λ (x : Message). x ∷ []) (last_end m whole) }
before_end (m ∷ n ∷ l) whole =
    let others = before_end (n ∷ l) whole.1 in
    let parts : m ∷ n ∷ l ≡ (m ∷ others.before) ++ StreamEnd ∷ [] = ap (λ (x : List Message). m ∷ x) others.parts in
    record {
      before = m ∷ others.before;
      more = prefix_goes_on Whole (m ∷ others.before) StreamEnd [] (subst (EndsBy Whole) parts whole);
      parts = parts;
    }

-- a part of a list that goes on, of which as much is written
record GoesOn (form : Form) (l : List Message) : Type 0 where
  part : List Message
  more : EndsBy More part
  prefix : IsPrefixOf part l
  written : written_of form part ≡ written_of form l

goes_on : (form : Form) (l : List Message) → EndsUnbroken l → GoesOn form l
goes_on form l (More, unbroken, ends) = record { part = l; more = ends; prefix = ([], sym (append-nil l)); written = refl }
goes_on form l (Whole, unbroken, ends) =
    let found = before_end l ends in
    record {
      part = found.before;
      more = found.more;
      prefix = (StreamEnd ∷ [], found.parts);
      written = sym (end_adds_nothing form found.before) ∙ ap (written_of form) (sym found.parts);
    }
goes_on form l (BrokenOff, unbroken, ends) = absurd unbroken

-- the last tool has ended by a fault, and of what it sent as much was written as of this list
pub record LastSent (lanes : ℕ) (form : Form) (tool : Tool) (fault : ToolFault) (is : List Image) (out : List Message) : Type 0 where
  pub given : List Message
  pub ended : HasEndedOver lanes tool (Fault fault) (messages_of_stream is) given
  pub written : written_of form (without_stop given) ≡ written_of form out

pub last_sent : (lanes : ℕ) (form : Form) (tool : Tool) (fault : ToolFault) (is : List Image) (out : List Message) → IsLawfulTool tool → AreImages is
    → Fails tool fault is → IsPrefixOf out (output_due tool is) → EndsUnbroken out → (fault ≢ Memory → IsAlone lanes tool → out ≡ output_due tool is)
    → LastSent lanes form tool fault is out
last_sent lanes form tool fault is out lawful images fails prefix ends all =
    let on = goes_on form out ends in
    let cut : written_of form (without_stop (on.part ++ Stop ∷ [])) ≡ written_of form out = ap (written_of form) (stop_is_cut on.part) ∙ on.written in
    elim (in_lanes_or_alone lanes tool) [
      | inl several ↦ record {
        given = on.part ++ Stop ∷ [];
        ended = inl (several, failed_in_lanes tool fault is on.part images several.1 fails on.more);
        written = cut;
      }
      | inr one ↦
          elim fails [
            | inl memory ↦ record {
              given = on.part ++ Stop ∷ [];
              ended =
                  inr (
                    alone_is_one lanes tool one,
                    subst (λ (f : ToolFault). HasFailed tool f (messages_of_stream is) (on.part ++ Stop ∷ [])) (sym memory)
                        (failed_for_memory tool is on.part lawful images (prefix_of_prefix on.part out (output_due tool is) on.prefix prefix) on.more),
                  );
              written = cut;
            }
            | inr refused ↦ record {
              given = output_due tool is ++ Stop ∷ [];
              ended = inr (alone_is_one lanes tool one, failed_by_itself tool fault is lawful images refused.1);
              written = ap (written_of form) (stop_is_cut (output_due tool is) ∙ sym (all refused.0 one));
            }
          ]
    ]
