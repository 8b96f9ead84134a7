-- What a stage has fed its tool of a packet, and sent, part by part.
use Rattle.pnm_stages.proofs.Words.{◌≡◌, ◌≤◌, Bool, true, false, List, [], ◌∷◌, ◌++◌, length, Option, refl, sym, ap, subst, ◌∙◌, append_assoc, append-nil}
use Rattle.pnm_stages.proofs.Words.{arith, Message, Ending, More, EndsBy, ToolFault, Tool, FusedFilter, FilterAt, FilterBusy, HasFedNext, ends_after}
use Rattle.pnm_stages.proofs.Words.{HasAnsweredPart, HasSentAnswers, HasPassed}
use Rattle.pnm_stages.proofs.EndingLaws.{prefix_goes_on}
use Rattle.pnm_stages.proofs.RingSteps.{ends_nothing}
use Rattle.pnm_stages.proofs.StagedSteps.{part_at}

-- what a tool was fed of messages so far, and its answers, which were sent
pub record IsFeeding {F : Type 0} (at : F → Tool → List Message → List Message → Type 0) (all_given : F → Bool) (stopped : F → Option ToolFault)
    (old now : FusedFilter F) (passed left sent_old sent_now : List Message) : Type 0 where
  pub fed : List Message
  pub more : List Message
  pub parts : passed ≡ fed ++ left
  pub added : sent_now ≡ sent_old ++ more
  pub full : (tool : Tool) (l g : List Message) → FilterAt at all_given stopped old tool l g
      → FilterAt at all_given stopped now tool (l ++ fed) (g ++ more)

pub feeds_nothing_yet : {F : Type 0} (at : F → Tool → List Message → List Message → Type 0) (all_given : F → Bool) (stopped : F → Option ToolFault)
    (stage : FusedFilter F) (passed left s : List Message) → left ≡ passed → IsFeeding at all_given stopped stage stage passed left s s
feeds_nothing_yet at all_given stopped stage passed left s same = record {
  fed = [];
  more = [];
  parts = sym same;
  added = sym (append-nil s);
  full = λ tool l g idle. subst (λ (x : List Message). FilterAt at all_given stopped stage tool x (g ++ [])) (sym (append-nil l))
      (subst (FilterAt at all_given stopped stage tool l) (sym (append-nil g)) idle);
}

-- the next part was fed, after what was fed before
busy_then : {F : Type 0} {at : F → Tool → List Message → List Message → Type 0} {all_given : F → Bool} {stopped : F → Option ToolFault}
    {old now busy : FusedFilter F} {passed left rest s s_now : List Message} (feeding : IsFeeding at all_given stopped old now passed left s s_now)
    (fed : HasFedNext at all_given stopped now busy left rest) (tool : Tool) (l g : List Message) → FilterAt at all_given stopped old tool l g
    → FilterBusy at stopped busy tool (l ++ (feeding.fed ++ fed.fed)) (g ++ feeding.more)
busy_then {at} {stopped} {busy} feeding fed tool l g idle =
    subst (λ (x : List Message). FilterBusy at stopped busy tool x (g ++ feeding.more)) (append_assoc l feeding.fed fed.fed)
    (fed.busy tool (l ++ feeding.fed) (g ++ feeding.more) (feeding.full tool l g idle))

sent_then : (s : List Message) {s_now s_new : List Message} (first second : List Message) → s_now ≡ s ++ first → s_new ≡ s_now ++ second
    → s_new ≡ s ++ (first ++ second)
sent_then s first second before after = after ∙ ap (λ (x : List Message). x ++ second) before ∙ append_assoc s first second

-- and its answers were sent
pub feeds_more : {F : Type 0} (at : F → Tool → List Message → List Message → Type 0) (all_given : F → Bool) (stopped : F → Option ToolFault)
    (old now busy next : FusedFilter F) (passed left rest s s_now s_new : List Message)
    → IsFeeding at all_given stopped old now passed left s s_now → HasFedNext at all_given stopped now busy left rest
    → HasSentAnswers at all_given stopped true busy next s_now s_new → IsFeeding at all_given stopped old next passed rest s s_new
feeds_more at all_given stopped old now busy next passed left rest s s_now s_new feeding fed answers = record {
  fed = feeding.fed ++ fed.fed;
  more = feeding.more ++ answers.more;
  parts = feeding.parts ∙ ap (λ (x : List Message). feeding.fed ++ x) fed.parts ∙ sym (append_assoc feeding.fed fed.fed rest);
  added = sent_then s feeding.more answers.more feeding.added answers.added;
  full = λ tool l g idle. subst (FilterAt at all_given stopped next tool (l ++ (feeding.fed ++ fed.fed))) (append_assoc g feeding.more answers.more)
      (answers.full refl tool (l ++ (feeding.fed ++ fed.fed)) (g ++ feeding.more)
      (busy_then feeding fed tool l g idle));
}

-- a part that was answered, where more was passed
part_of_more : (tool : Tool) (l g more : List Message) → HasAnsweredPart tool l g → HasAnsweredPart tool (l ++ more) g
part_of_more tool l g more part = record {
  accepted = part.accepted;
  rest = part.rest ++ more;
  parts = ap (λ (x : List Message). x ++ more) part.parts ∙ append_assoc part.accepted part.rest more;
  answers = part.answers;
}

goes_before : (e : Ending) (l fed left : List Message) → EndsBy e (fed ++ left) → EndsBy More l → 1 ≤ length left → EndsBy More (l ++ fed)
goes_before e l fed [] ends goes some = absurd (omega (arith, some))
goes_before e l fed (m ∷ left) ends goes some = ends_after More l fed (ends_nothing l goes) (prefix_goes_on e fed m left ends)

module _ {F : Type 0} {at : F → Tool → List Message → List Message → Type 0} {all_given : F → Bool} {stopped : F → Option ToolFault}
    {old now : FusedFilter F} {passed left s s_now : List Message} where
  -- its answers weren't all sent, since the other end is gone, and what was left wasn't fed
  pub loses_rest : {busy next : FusedFilter F} {rest s_new : List Message} → IsFeeding at all_given stopped old now passed left s s_now
      → HasFedNext at all_given stopped now busy left rest → HasSentAnswers at all_given stopped false busy next s_now s_new
      → HasPassed at all_given stopped false old next passed s s_new
  loses_rest {rest} feeding fed answers =
      let parts : passed ≡ (feeding.fed ++ fed.fed) ++ rest =
      feeding.parts ∙ ap (λ (x : List Message). feeding.fed ++ x) fed.parts ∙ sym (append_assoc feeding.fed fed.fed rest) in
      record {
        more = feeding.more ++ answers.more;
        added = sent_then s feeding.more answers.more feeding.added answers.added;
        full = λ is. absurd cc;
        part = λ tool l g goes idle. subst (λ (x : List Message). HasAnsweredPart tool x (g ++ (feeding.more ++ answers.more)))
            (append_assoc l (feeding.fed ++ fed.fed) rest ∙ ap (λ (x : List Message). l ++ x) (sym parts))
            (part_of_more tool (l ++ (feeding.fed ++ fed.fed)) (g ++ (feeding.more ++ answers.more)) rest
            (subst (HasAnsweredPart tool (l ++ (feeding.fed ++ fed.fed))) (append_assoc g feeding.more answers.more)
            (answers.part tool (l ++ (feeding.fed ++ fed.fed)) (g ++ feeding.more) (busy_then feeding fed tool l g idle))));
      }

  -- all was fed, or the tool refused and the rest was dropped
  pub drops_rest : {last : FusedFilter F} (e : Ending) → EndsBy e passed → IsFeeding at all_given stopped old now passed left s s_now
      → ((tool : Tool) (l g : List Message) → FilterAt at all_given stopped now tool l g → (1 ≤ length left → EndsBy More l) → FilterAt at all_given stopped
      last tool (l ++ left) g) → HasPassed at all_given stopped true old last passed s s_now
  drops_rest {last} e ends feeding drops =
      let full : (tool : Tool) (l g : List Message) → EndsBy More l → FilterAt at all_given stopped old tool l g
      → FilterAt at all_given stopped last tool (l ++ passed) (g ++ feeding.more) = λ tool l g goes idle.
      subst (λ (x : List Message). FilterAt at all_given stopped last tool x (g ++ feeding.more))
      (append_assoc l feeding.fed left ∙ ap (λ (x : List Message). l ++ x) (sym feeding.parts))
      (drops tool (l ++ feeding.fed) (g ++ feeding.more) (feeding.full tool l g idle)
      (goes_before e l feeding.fed left (subst (EndsBy e) feeding.parts ends) goes)) in
      record {
        more = feeding.more;
        added = feeding.added;
        full = λ is. full;
        part = λ tool l g goes idle. part_at at all_given stopped last (full tool l g goes idle);
      }
