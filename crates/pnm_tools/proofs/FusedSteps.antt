-- A stage that is fed: it takes the messages, refuses them, or drops them.
use Rattle.pnm_tools.proofs.Words.{◌≡◌, inl, inr, Bool, List, [], ◌∷◌, ◌++◌, Option, None, Ok, Err, refl, ap, subst, ◌∙◌, append_assoc, Message}
use Rattle.pnm_tools.proofs.Words.{Begin, Row, ImageEnd, StreamEnd, Stop, ToolFault, Tool, JudgesAll, RefusesFirst, AreTaken, IsRefusedNext, HasRefused, IsIdle}
use Rattle.pnm_tools.proofs.Words.{IsBusy}

-- no image of two lists is refused
pub taken_append : (tool : Tool) (a b : List Message) → AreTaken tool a → AreTaken tool b → AreTaken tool (a ++ b)
taken_append tool [] b first then = then
taken_append tool (Begin head ∷ a) b first then = (first.0, taken_append tool a b first.1 then)
taken_append tool (Row row ∷ a) b first then = taken_append tool a b first then
taken_append tool (ImageEnd ∷ a) b first then = taken_append tool a b first then
taken_append tool (StreamEnd ∷ a) b first then = taken_append tool a b first then
taken_append tool (Stop ∷ a) b first then = taken_append tool a b first then

-- the tool took the messages
pub feeds : {F : Type 0} (at : F → Tool → List Message → List Message → Type 0) (all_given : F → Bool) (stopped : F → Option ToolFault) (old new : F)
    (ms : List Message) (tool : Tool) (l g : List Message) → IsIdle at all_given stopped old tool l g
    → at new tool (l ++ ms) g → JudgesAll (all_given old) tool l ms (Ok tt) → stopped new ≡ None → IsBusy at stopped new tool (l ++ ms) g
feeds at all_given stopped old new ms tool l g idle state judged going =
    record { state = state; going = going; taken = taken_append tool l ms idle.full.taken judged.1 }

-- the tool refused the first of them
pub refuses : {F : Type 0} (at : F → Tool → List Message → List Message → Type 0) (all_given : F → Bool) (stopped : F → Option ToolFault) (old : F)
    (ms : List Message) (fault : ToolFault) (tool : Tool) (l g : List Message) → IsIdle at all_given stopped old tool l g
    → JudgesAll (all_given old) tool l ms (Err fault) → HasRefused tool fault (l ++ ms) g
refuses at all_given stopped old ms fault tool l g idle judged = record {
  accepted = l;
  rest = ms;
  parts = refl;
  taken = idle.full.taken;
  answers = idle.full.answers;
  refused = inr (idle.full, subst (λ (b : Bool). RefusesFirst b tool l ms fault) idle.none_due judged.0);
}

-- ---- a stage that refused

-- it drops what comes
drops_next : (tool : Tool) (fault : ToolFault) (accepted rest more : List Message) → IsRefusedNext tool fault accepted rest
    → IsRefusedNext tool fault accepted (rest ++ more)
drops_next tool fault accepted [] more r = absurd r
drops_next tool fault accepted (n ∷ rest) more r = r

pub drops : (tool : Tool) (fault : ToolFault) (more l g : List Message) → HasRefused tool fault l g → HasRefused tool fault (l ++ more) g
drops tool fault more l g has = record {
  accepted = has.accepted;
  rest = has.rest ++ more;
  parts = ap (λ (x : List Message). x ++ more) has.parts ∙ append_assoc has.accepted has.rest more;
  taken = has.taken;
  answers = has.answers;
  refused = elim has.refused [
    | inl memory ↦ inl memory
    | inr refused ↦ inr (refused.0, drops_next tool fault has.accepted has.rest more refused.1)
  ];
}
