-- What a ring has passed, message by message.
use Rattle.pnm_stages.proofs.Words.{◌≡◌, List, [], ◌∷◌, ◌++◌, ap, refl, sym, subst, ◌∙◌, Message, ending_of, EndsBy, Ending, More, Sender, Receiver, EndNothing}
use Rattle.pnm_stages.proofs.Words.{ends_after, IsPair, SameSender, SameReceiver}

-- no message of a list that goes on ends it
pub ends_nothing : (l : List Message) → EndsBy More l → EndNothing l
ends_nothing [] more = tt
ends_nothing (m ∷ []) more = (more, tt)
ends_nothing (m ∷ n ∷ l) more = (more.0, ends_nothing (n ∷ l) more.1)

-- the next message ends a list as it does
pub ends_with : (l : List Message) (m : Message) → EndsBy More l → EndsBy (ending_of m) (l ++ m ∷ [])
ends_with l m more = ends_after (ending_of m) l (m ∷ []) (ends_nothing l more) refl

pub ends_as : (e : Ending) (l : List Message) (m : Message) → EndsBy More l → ending_of m ≡ e → EndsBy e (l ++ m ∷ [])
ends_as e l m more same = subst (λ (x : Ending). EndsBy x (l ++ m ∷ [])) same (ends_with l m more)

-- what was received after a look that received nothing
pub arrived : (m : List Message) {r r1 r2 : List Message} → r1 ≡ r → r2 ≡ r1 ++ m → r2 ≡ r ++ m
arrived m same added = added ∙ ap (λ (l : List Message). l ++ m) same

-- both ends of one ring, still
pub same_input : (a b c : Receiver) → SameReceiver a b → SameReceiver b c → SameReceiver a c
same_input a b c first second = ((second.0.0 ∙ first.0.0, second.0.1 ∙ first.0.1, second.0.2 ∙ first.0.2, second.0.3 ∙ first.0.3), second.1 ∙ first.1)

pub same_output : (a b c : Sender) → SameSender a b → SameSender b c → SameSender a c
same_output a b c first second = ((second.0.0 ∙ first.0.0, second.0.1 ∙ first.0.1, second.0.2 ∙ first.0.2, second.0.3 ∙ first.0.3), second.1 ∙ first.1)

pub itself_input : (a : Receiver) → SameReceiver a a
itself_input a = ((refl, refl, refl, refl), refl)

pub itself_output : (a : Sender) → SameSender a a
itself_output a = ((refl, refl, refl, refl), refl)

pub still_pair : (p p' : Sender) (c c' : Receiver) → IsPair p c → SameSender p p' → SameReceiver c c' → IsPair p' c'
still_pair p p' c c' pair first second = (
  second.0.0 ∙ pair.0 ∙ sym first.0.0,
  second.0.1 ∙ pair.1 ∙ sym first.0.1,
  second.0.2 ∙ pair.2 ∙ sym first.0.2,
  second.0.3 ∙ pair.3 ∙ sym first.0.3,
)
