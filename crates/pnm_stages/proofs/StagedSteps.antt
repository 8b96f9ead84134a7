-- A stage, message by message, and how it ends.
use Rattle.pnm_stages.proofs.Words.{IsTrue, IsFalse, ◌≡◌, ◌⊎◌, inl, inr, Bool, true, false, List, [], ◌∷◌, ◌++◌, Option, Some, None, refl, sym, ap, subst, ◌∙◌}
use Rattle.pnm_stages.proofs.Words.{append_assoc, append-nil, AllByRecursion, Message, Stop, IsMessage, EndsBy, is_stream_of, ToolFault, Memory, Tool, Ending}
use Rattle.pnm_stages.proofs.Words.{More, Whole, BrokenOff, AnswersInFull, HasRefused, IsRefusedNext, full_answer_is_the_stream, FusedFilter, AtWork, Refused}
use Rattle.pnm_stages.proofs.Words.{StageEnd, Well, Broken, PeerGone, IsEnded, EndsAtMostOnce, HasDrainedAfter, FilterAt, refusal_in, IsPrefixOfDue, HasEndedSo}
use Rattle.pnm_stages.proofs.Words.{HasRunStage, HasAnsweredPart, HasPassed, HasBrokenOffAfter, output_due, ends_after, both_all, Packet, messages_in}
use Rattle.pnm_stages.proofs.Words.{ending_of_packet}
use Rattle.pnm_stages.proofs.PacketLaws.{ends_with_packet}
use Rattle.pnm_stages.proofs.RingSteps.{ends_nothing}
use Rattle.pnm_stages.proofs.EndingLaws.{prefix_goes_on, ends_stream}
use Rattle.pnm_stages.proofs.PrefixLaws.{due_with_stop, due_goes_on}

-- ---- what is due

pub due_by_part : (tool : Tool) {l g : List Message} → HasAnsweredPart tool l g → IsPrefixOfDue (output_due tool) l g
due_by_part tool part =
    record { accepted = part.accepted; rest = part.rest; parts = part.parts; lawful = part.answers.lawful; prefix = part.answers.prefix }

-- ---- message by message

-- what a stage has passed so far, from the first of its states to the last; the last message that it received ends the
-- stream so
pub record IsPassing {F : Type 0} (at : F → Tool → List Message → List Message → Type 0) (all_given : F → Bool) (stopped : F → Option ToolFault) (e : Ending)
    (first now : FusedFilter F) (r r' s s' : List Message) : Type 0 where
  pub took : List Message
  pub gave : List Message
  pub received : r' ≡ r ++ took
  pub sent : s' ≡ s ++ gave
  pub messages : AllByRecursion IsMessage took
  pub ends : EndsBy e took
  pub stage : (tool : Tool) → FilterAt at all_given stopped first tool [] [] → FilterAt at all_given stopped now tool took gave

longer_by : (a : List Message) {b : List Message} (c : List Message) {d : List Message} (more : List Message) → b ≡ a ++ c → d ≡ b ++ more
    → d ≡ a ++ (c ++ more)
longer_by a c more before added = added ∙ ap (λ (x : List Message). x ++ more) before ∙ append_assoc a c more

-- a packet was received, and all its answers were sent
pub passes_packet : {F : Type 0} (at : F → Tool → List Message → List Message → Type 0) (all_given : F → Bool) (stopped : F → Option ToolFault)
    (first old new : FusedFilter F) (packet : Packet) (r r1 r2 s s1 s2 : List Message)
    → IsPassing at all_given stopped More first old r r1 s s1 → r2 ≡ r1 ++ messages_in packet → AllByRecursion IsMessage (messages_in packet)
    → EndsBy (ending_of_packet packet) (messages_in packet) → HasPassed at all_given stopped true old new (messages_in packet) s1 s2
    → IsPassing at all_given stopped (ending_of_packet packet) first new r r2 s s2
passes_packet at all_given stopped first old new packet r r1 r2 s s1 s2 passing added are ends passed = record {
  took = passing.took ++ messages_in packet;
  gave = passing.gave ++ passed.more;
  received = longer_by r passing.took (messages_in packet) passing.received added;
  sent = longer_by s passing.gave passed.more passing.sent passed.added;
  messages = both_all IsMessage passing.took (messages_in packet) passing.messages are;
  ends = ends_with_packet passing.took packet ends passing.ends;
  stage = λ tool fresh. passed.full refl tool passing.took passing.gave passing.ends (passing.stage tool fresh);
}

-- what was drained after a message with this ending
record IsDrainedBy (a : Ending) (drained : Bool) (took r1 r2 left : List Message) : Type 0 where
  rest : List Message
  added : r2 ≡ r1 ++ rest
  messages : AllByRecursion IsMessage rest
  once : EndsAtMostOnce (took ++ rest)
  ended : drained ≡ true → IsEnded (took ++ rest)
  all : IsEnded (took ++ rest) ⊎ (left ≡ [])

ended_after : (took rest : List Message) → EndsBy More took → IsEnded rest → IsEnded (took ++ rest)
ended_after took rest more (inl whole) = inl (ends_after Whole took rest (ends_nothing took more) whole)
ended_after took rest more (inr broken) = inr (ends_after BrokenOff took rest (ends_nothing took more) broken)

at_most_once : (l : List Message) → IsEnded l → EndsAtMostOnce l
at_most_once l (inl whole) = (Whole, whole)
at_most_once l (inr broken) = (BrokenOff, broken)

nothing_more : {a : Ending} {drained : Bool} {took r1 r2 left : List Message} → IsEnded took → r2 ≡ r1 → IsDrainedBy a drained took r1 r2 left
nothing_more {took} {r1} ended same =
    let still : IsEnded (took ++ []) = subst IsEnded (sym (append-nil took)) ended in
    record { rest = []; added = same ∙ sym (append-nil r1); messages = tt; once = at_most_once (took ++ []) still; ended = λ is. still; all = inl still }

drained_by : (a : Ending) (drained : Bool) {took r1 r2 left : List Message} → EndsBy a took → HasDrainedAfter a drained r1 r2 left
    → IsDrainedBy a drained took r1 r2 left
drained_by More true {took} ends has =
    let ended = ended_after took has.more ends has.holds in
    record { rest = has.more; added = has.added; messages = has.messages; once = at_most_once (took ++ has.more) ended; ended = λ is. ended; all = inl ended }
drained_by More false {took} ends has =
    record {
      rest = has.0.more;
      added = has.0.added;
      messages = has.0.messages;
      once = (More, ends_after More took has.0.more (ends_nothing took ends) has.0.holds);
      ended = λ is. absurd cc;
      all = inr has.1;
    }
drained_by Whole drained ends has = nothing_more (inl ends) has.1
drained_by BrokenOff drained ends has = nothing_more (inr ends) has.1

-- what a tool that refused has given goes on
refusal_by : (tool : Tool) (fault : ToolFault) (e : Ending) (accepted rest g : List Message) → EndsBy e (accepted ++ rest) → ((fault ≡ Memory) × EndsBy More g)
    ⊎ (AnswersInFull tool accepted g × IsRefusedNext tool fault accepted rest) → EndsBy More g
refusal_by tool fault e accepted rest g ends (inl memory) = memory.1
refusal_by tool fault e accepted [] g ends (inr refused) = absurd refused.1
refusal_by tool fault e accepted (m ∷ rest) g ends (inr refused) = refused.0.ends More (prefix_goes_on e accepted m rest ends)

refusal_goes_on : {tool : Tool} {fault : ToolFault} (e : Ending) {l g : List Message} → EndsBy e l → HasRefused tool fault l g → EndsBy More g
refusal_goes_on {tool} {fault} e {g} ends has = refusal_by tool fault e has.accepted has.rest g (subst (EndsBy e) has.parts ends) has.refused

next_stays : (tool : Tool) (fault : ToolFault) (accepted rest more : List Message) → IsRefusedNext tool fault accepted rest
    → IsRefusedNext tool fault accepted (rest ++ more)
next_stays tool fault accepted [] more refused = absurd refused
next_stays tool fault accepted (m ∷ rest) more refused = refused

-- more was dropped
pub drops_more : (tool : Tool) (fault : ToolFault) (l g more : List Message) → HasRefused tool fault l g → HasRefused tool fault (l ++ more) g
drops_more tool fault l g more has = record {
  accepted = has.accepted;
  rest = has.rest ++ more;
  parts = ap (λ (x : List Message). x ++ more) has.parts ∙ append_assoc has.accepted has.rest more;
  taken = has.taken;
  answers = has.answers;
  refused = elim has.refused [
    | inl memory ↦ inl memory
    | inr refused ↦ inr (refused.0, next_stays tool fault has.accepted has.rest more refused.1)
  ];
}

-- a stage that was broken off by a refusal
record IsBroken (tool : Tool) (fault : ToolFault) (took gave : List Message) : Type 0 where
  messages : AllByRecursion IsMessage took
  refused : HasRefused tool fault took gave
  unbroken : EndsBy More gave

broken_due : {tool : Tool} {fault : ToolFault} {took gave : List Message} (rest : List Message) → HasRefused tool fault took gave
    → IsPrefixOfDue (output_due tool) (took ++ rest) gave
broken_due {tool} {took} {gave} rest has =
    due_goes_on (output_due tool) took gave rest
    (due_by_part tool (record { accepted = has.accepted; rest = has.rest; parts = has.parts; answers = has.answers }))

broken_off : {tool : Tool} (fault : ToolFault) (a : Ending) {end : StageEnd} (took gave : List Message) {r r1 r2 left s s1 s2 : List Message}
    → IsBroken tool fault took gave → EndsBy a took → r1 ≡ r ++ took → s1 ≡ s ++ gave → HasBrokenOffAfter fault a end r1 r2 left s1 s2
    → HasRunStage tool end r r2 left s s2
broken_off {tool} fault a took gave {r} {s} is ends received sent (inl faulted) =
    let by = drained_by a true ends faulted.2 in
    record {
      took = took ++ by.rest;
      gave = gave ++ Stop ∷ [];
      input = longer_by r took by.rest received by.added;
      output = longer_by s gave (Stop ∷ []) sent faulted.1;
      seen_taken = by.all;
      stage = record {
        ended = subst (λ (e : StageEnd). HasEndedSo tool e (took ++ by.rest) (gave ++ Stop ∷ [])) (sym faulted.0) (record {
          given = gave;
          refused = drops_more tool fault took gave by.rest is.refused;
          unbroken = is.unbroken;
          answer = refl;
          ends = by.ended refl;
        });
        messages = both_all IsMessage took by.rest is.messages by.messages;
        once = by.once;
        due = due_with_stop (output_due tool) (took ++ by.rest) gave is.unbroken (broken_due by.rest is.refused);
      };
    }
broken_off {tool} fault a took gave {r} {s} is ends received sent (inr (inl gone)) =
    let by = drained_by a false ends gone.2 in
    record {
      took = took ++ by.rest;
      gave = gave ++ Stop ∷ [];
      input = longer_by r took by.rest received by.added;
      output = longer_by s gave (Stop ∷ []) sent gone.1;
      seen_taken = by.all;
      stage = record {
        ended = subst (λ (e : StageEnd). HasEndedSo tool e (took ++ by.rest) (gave ++ Stop ∷ [])) (sym gone.0) tt;
        messages = both_all IsMessage took by.rest is.messages by.messages;
        once = by.once;
        due = due_with_stop (output_due tool) (took ++ by.rest) gave is.unbroken (broken_due by.rest is.refused);
      };
    }
broken_off {tool} fault a took gave {r} is ends received sent (inr (inr gone)) =
    let by = drained_by a gone.2.0 ends gone.2.1 in
    record {
      took = took ++ by.rest;
      gave = gave;
      input = longer_by r took by.rest received by.added;
      output = gone.1 ∙ sent;
      seen_taken = by.all;
      stage = record {
        ended = subst (λ (e : StageEnd). HasEndedSo tool e (took ++ by.rest) gave) (sym gone.0) tt;
        messages = both_all IsMessage took by.rest is.messages by.messages;
        once = by.once;
        due = broken_due by.rest is.refused;
      };
    }

-- ---- the other end was seen dropped

module _ {F : Type 0} (at : F → Tool → List Message → List Message → Type 0) (all_given : F → Bool) (stopped : F → Option ToolFault) {tool : Tool}
    {l g : List Message} where
  pub part_at : (stage : FusedFilter F) → FilterAt at all_given stopped stage tool l g → HasAnsweredPart tool l g
  part_at (AtWork filter) idle = record { accepted = l; rest = []; parts = sym (append-nil l); answers = idle.full.answers }
  part_at (Refused fault) has = record { accepted = has.accepted; rest = has.rest; parts = has.parts; answers = has.answers }

  -- ---- the tool refused

  refused_at : (stage : FusedFilter F) {fault : ToolFault} → refusal_in stage ≡ Some fault → FilterAt at all_given stopped stage tool l g
      → HasRefused tool fault l g
  refused_at (AtWork filter) is stage = absurd cc
  refused_at (Refused other) {fault} is stage =
      let same : other ≡ fault = cc in
      subst (λ (f : ToolFault). HasRefused tool f l g) same stage

  -- ---- the stream has ended

  idle_at : (stage : FusedFilter F) → refusal_in stage ≡ None → FilterAt at all_given stopped stage tool l g → AnswersInFull tool l g
  idle_at (AtWork filter) none idle = idle.full
  idle_at (Refused fault) none has = absurd cc

ended_by : (tool : Tool) (end : StageEnd) (e : Ending) (l g r r1 left s s1 : List Message) → IsEnded l → HasEndedSo tool end l g → AnswersInFull tool l g
    → AllByRecursion IsMessage l → r1 ≡ r ++ l → s1 ≡ s ++ g → HasRunStage tool end r r1 left s s1
ended_by tool end e l g r r1 left s s1 is ended full messages received sent = record {
  took = l;
  gave = g;
  input = received;
  output = sent;
  seen_taken = inl is;
  stage = record {
    ended = ended;
    messages = messages;
    once = at_most_once l is;
    due = due_by_part tool (record { accepted = l; rest = []; parts = sym (append-nil l); answers = full.answers });
  };
}

module _ {F : Type 0} {at : F → Tool → List Message → List Message → Type 0} {all_given : F → Bool} {stopped : F → Option ToolFault}
    {r s : List Message} where
  pub passes_nothing : {stage : FusedFilter F} → IsPassing at all_given stopped More stage stage r r s s
  passes_nothing {stage} =
      record { took = []; gave = []; received = sym (append-nil r); sent = sym (append-nil s); messages = tt; ends = refl; stage = λ tool is. is }

  -- the stream goes on after it
  pub still_going : {e : Ending} {first now : FusedFilter F} {r' s' : List Message} → IsPassing at all_given stopped e first now r r' s s' → e ≡ More
      → IsPassing at all_given stopped More first now r r' s s'
  still_going {first} {now} {r'} {s'} passing more = subst (λ (x : Ending). IsPassing at all_given stopped x first now r r' s s') more passing

  -- nothing was sent since
  pub still_sent : {e : Ending} {first now : FusedFilter F} {r' s' s2 : List Message} → IsPassing at all_given stopped e first now r r' s s' → s2 ≡ s'
      → IsPassing at all_given stopped e first now r r' s s2
  still_sent {e = e} {first = first} {now = now} {r' = r'} passing same =
      subst (λ (x : List Message). IsPassing at all_given stopped e first now r r' s x) (sym same) passing

  module _ {r1 r2 left s1 s2 : List Message} {tool : Tool} where
    -- the input is gone, and Stop was sent if the output wasn't
    pub input_gone : {first : FusedFilter F} (now : FusedFilter F) (is_sent : Bool) → IsPassing at all_given stopped More first now r r1 s s1
        → (r2 ≡ r1) × (left ≡ []) → (IsTrue is_sent → s2 ≡ s1 ++ Stop ∷ []) → (IsFalse is_sent → s2 ≡ s1) → refusal_in now ≡ None
        → FilterAt at all_given stopped first tool [] [] → HasRunStage tool PeerGone r r2 left s s2
    input_gone (Refused fault) is_sent passing same given gone none fresh = absurd cc
    input_gone (AtWork filter) true passing same given gone none fresh =
        let idle = passing.stage tool fresh in
        let due = due_by_part tool (part_at at all_given stopped (AtWork filter) idle) in
        record {
          took = passing.took;
          gave = passing.gave ++ Stop ∷ [];
          input = same.0 ∙ passing.received;
          output = longer_by s passing.gave (Stop ∷ []) passing.sent (given refl);
          seen_taken = inr same.1;
          stage = record {
            ended = tt;
            messages = passing.messages;
            once = (More, passing.ends);
            due = due_with_stop (output_due tool) passing.took passing.gave (idle.full.ends More passing.ends) due;
          };
        }
    input_gone (AtWork filter) false passing same given gone none fresh =
        let idle = passing.stage tool fresh in record {
          took = passing.took;
          gave = passing.gave;
          input = same.0 ∙ passing.received;
          output = gone refl ∙ passing.sent;
          seen_taken = inr same.1;
          stage = record {
            ended = tt;
            messages = passing.messages;
            once = (More, passing.ends);
            due = due_by_part tool (part_at at all_given stopped (AtWork filter) idle);
          };
        }

    -- the output is gone, and the input was drained
    pub output_gone : {first old new : FusedFilter F} (packet : Packet) {a : Ending} (drained : Bool) {r3 : List Message}
        → IsPassing at all_given stopped More first old r r1 s s1 → r2 ≡ r1 ++ messages_in packet → AllByRecursion IsMessage (messages_in packet)
        → EndsBy (ending_of_packet packet) (messages_in packet) → HasPassed at all_given stopped false old new (messages_in packet) s1 s2
        → a ≡ ending_of_packet packet → HasDrainedAfter a drained r2 r3 left → FilterAt at all_given stopped first tool [] []
        → HasRunStage tool PeerGone r r3 left s s2
    output_gone packet {a} drained passing added are so passed says rest fresh =
        let took = passing.took ++ messages_in packet in
        let ends : EndsBy a took = subst (λ (e : Ending). EndsBy e took) (sym says) (ends_with_packet passing.took packet so passing.ends) in
        let by = drained_by a drained ends rest in
        let part = passed.part tool passing.took passing.gave passing.ends (passing.stage tool fresh) in
        record {
          took = took ++ by.rest;
          gave = passing.gave ++ passed.more;
          input = longer_by r took by.rest (longer_by r passing.took (messages_in packet) passing.received added) by.added;
          output = longer_by s passing.gave passed.more passing.sent passed.added;
          seen_taken = by.all;
          stage = record {
            ended = tt;
            messages = both_all IsMessage took by.rest (both_all IsMessage passing.took (messages_in packet) passing.messages are) by.messages;
            once = by.once;
            due = due_goes_on (output_due tool) took (passing.gave ++ passed.more) by.rest (due_by_part tool part);
          };
        }

    -- the tool refused at the last message, or at its start
    pub breaks_off : {e : Ending} {first now : FusedFilter F} {fault : ToolFault} {a : Ending} {end : StageEnd}
        → IsPassing at all_given stopped e first now r r1 s s1 → a ≡ e → refusal_in now ≡ Some fault → HasBrokenOffAfter fault a end r1 r2 left s1 s2
        → FilterAt at all_given stopped first tool [] [] → HasRunStage tool end r r2 left s s2
    breaks_off {e} {now} {fault} {a} passing says is broken fresh =
        let refused = refused_at at all_given stopped now is (passing.stage tool fresh) in
        let unbroken = refusal_goes_on e passing.ends refused in
        broken_off fault a passing.took passing.gave (record { messages = passing.messages; refused = refused; unbroken = unbroken })
        (subst (λ (x : Ending). EndsBy x passing.took) (sym says) passing.ends) passing.received passing.sent broken

  pub ends_well : {e : Ending} {first now : FusedFilter F} {r1 : List Message} (left : List Message) {s1 : List Message} {tool : Tool}
      → IsPassing at all_given stopped e first now r r1 s s1 → Whole ≡ e → refusal_in now ≡ None → FilterAt at all_given stopped first tool [] []
      → HasRunStage tool Well r r1 left s s1
  ends_well {now} {r1} left {s1} {tool} passing says none fresh =
      let full = idle_at at all_given stopped now none (passing.stage tool fresh) in
      let whole : EndsBy Whole passing.took = subst (λ (x : Ending). EndsBy x passing.took) (sym says) passing.ends in
      let stream = is_stream_of passing.took passing.messages full.answers.lawful (ends_stream passing.took whole) in
      let answered = full_answer_is_the_stream tool stream.0 passing.gave stream.1.images
      (subst (λ (x : List Message). AnswersInFull tool x passing.gave) stream.1.messages full) in
      ended_by tool Well Whole passing.took passing.gave r r1 left s s1 (inl whole)
      (record { images = stream.0; results = answered.0; stream = stream.1; made = answered.1; answer = answered.2; full = full }) full passing.messages
      passing.received passing.sent

  pub ends_broken : {e : Ending} {first now : FusedFilter F} {r1 : List Message} (left : List Message) {s1 : List Message} {tool : Tool}
      → IsPassing at all_given stopped e first now r r1 s s1 → BrokenOff ≡ e → refusal_in now ≡ None → FilterAt at all_given stopped first tool [] []
      → HasRunStage tool Broken r r1 left s s1
  ends_broken {now} {r1} left {s1} {tool} passing says none fresh =
      let full = idle_at at all_given stopped now none (passing.stage tool fresh) in
      let broken : EndsBy BrokenOff passing.took = subst (λ (x : Ending). EndsBy x passing.took) (sym says) passing.ends in
      ended_by tool Broken BrokenOff passing.took passing.gave r r1 left s s1 (inr broken) (record { lawful = full.answers.lawful; ends = broken; full = full })
      full passing.messages passing.received passing.sent
