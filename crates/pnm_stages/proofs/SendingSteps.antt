-- What a tool at work sends, answer by answer.
use Rattle.pnm_stages.proofs.Words.{◌≡◌, Bool, true, false, List, [], ◌++◌, Option, sym, ap, subst, ◌∙◌, append_assoc, append-nil, Message, ToolFault, Tool}
use Rattle.pnm_stages.proofs.Words.{Answers, FusedFilter, AtWork, Refused, FilterAt, FilterBusy, HasAnsweredPart, HasSentAnswers}

-- what a tool has sent so far of its answers
pub record IsSending {F : Type 0} (at : F → Tool → List Message → List Message → Type 0) (stopped : F → Option ToolFault) (old now : FusedFilter F)
    (sent_old sent_now : List Message) : Type 0 where
  pub more : List Message
  pub added : sent_now ≡ sent_old ++ more
  pub busy : (tool : Tool) (l g : List Message) → FilterBusy at stopped old tool l g → FilterBusy at stopped now tool l (g ++ more)

-- the laws that a filter keeps: what it has given answers what it accepted
abbrev pub GivesAnswers : {F : Type 0} → (F → Tool → List Message → List Message → Type 0) → Type 0
GivesAnswers at = (s : _) (tool : Tool) (l g : List Message) → at s tool l g → Answers tool l g

part_of : {F : Type 0} (at : F → Tool → List Message → List Message → Type 0) (stopped : F → Option ToolFault) → GivesAnswers at → (stage : FusedFilter F)
    {tool : Tool} {l g : List Message} → FilterBusy at stopped stage tool l g → HasAnsweredPart tool l g
part_of at stopped law (AtWork filter) {tool} {l} {g} busy = record
    { accepted = l; rest = []; parts = sym (append-nil l); answers = law filter tool l g busy.state }
part_of at stopped law (Refused fault) busy = record { accepted = busy.accepted; rest = busy.rest; parts = busy.parts; answers = busy.answers }

pub sends_nothing_yet : {F : Type 0} {at : F → Tool → List Message → List Message → Type 0} {stopped : F → Option ToolFault} {stage : FusedFilter F}
    {s : List Message} → IsSending at stopped stage stage s s
sends_nothing_yet {at} {stopped} {stage} {s} =
    record { more = []; added = sym (append-nil s); busy = λ tool l g busy. subst (FilterBusy at stopped stage tool l) (sym (append-nil g)) busy }

-- an answer more was sent
pub sends_on : {F : Type 0} (at : F → Tool → List Message → List Message → Type 0) (stopped : F → Option ToolFault) (old now next : FusedFilter F)
    (m s s_now s_new : List Message) → IsSending at stopped old now s s_now
    → ((tool : Tool) (l g : List Message) → FilterBusy at stopped now tool l g → FilterBusy at stopped next tool l (g ++ m)) → s_new ≡ s_now ++ m
    → IsSending at stopped old next s s_new
sends_on at stopped old now next m s s_now s_new sending gives added = record {
  more = sending.more ++ m;
  added = added ∙ ap (λ (x : List Message). x ++ m) sending.added ∙ append_assoc s sending.more m;
  busy = λ tool l g busy. subst (FilterBusy at stopped next tool l) (append_assoc g sending.more m)
      (gives tool l (g ++ sending.more) (sending.busy tool l g busy));
}

-- an answer was lost, since the other end is gone
pub loses_answer : {F : Type 0} (at : F → Tool → List Message → List Message → Type 0) (all_given : F → Bool) (stopped : F → Option ToolFault) → GivesAnswers at
    → (old now next : FusedFilter F) (s s_now s_new : List Message) → IsSending at stopped old now s s_now → s_new ≡ s_now
    → HasSentAnswers at all_given stopped false old next s s_new
loses_answer at all_given stopped law old now next s s_now s_new sending same = record {
  more = sending.more;
  added = same ∙ sending.added;
  full = λ all. absurd cc;
  part = λ tool l g busy. part_of at stopped law now (sending.busy tool l g busy);
}

-- all was sent
pub sends_all : {F : Type 0} (at : F → Tool → List Message → List Message → Type 0) (all_given : F → Bool) (stopped : F → Option ToolFault) → GivesAnswers at
    → (old now next : FusedFilter F) (s s_now : List Message) → IsSending at stopped old now s s_now
    → ((tool : Tool) (l g : List Message) → FilterBusy at stopped now tool l g → FilterAt at all_given stopped next tool l g)
    → HasSentAnswers at all_given stopped true old next s s_now
sends_all at all_given stopped law old now next s s_now sending full = record {
  more = sending.more;
  added = sending.added;
  full = λ all tool l g busy. full tool l (g ++ sending.more) (sending.busy tool l g busy);
  part = λ tool l g busy. part_of at stopped law now (sending.busy tool l g busy);
}
