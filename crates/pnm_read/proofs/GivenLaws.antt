-- What is said after messages that were given.
use Rattle.pnm_read.proofs.Words.{◌≡◌, List, [], ◌∷◌, ◌++◌, refl, ap, Message, Said, then_said, after_messages}

pub messages_after : (given : List Message) (s : Said) → (after_messages given s).messages ≡ given ++ s.messages
messages_after [] s = refl
messages_after (m ∷ given) s = ap (λ (l : List Message). m ∷ l) (messages_after given s)

pub fault_after : (given : List Message) (s : Said) → (after_messages given s).fault ≡ s.fault
fault_after [] s = refl
fault_after (m ∷ given) s = fault_after given s

-- messages after messages
pub after-append : (given more : List Message) (s : Said) → after_messages (given ++ more) s ≡ after_messages given (after_messages more s)
after-append [] more s = refl
after-append (m ∷ given) more s = ap (then_said m) (after-append given more s)
