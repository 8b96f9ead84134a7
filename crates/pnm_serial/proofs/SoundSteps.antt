-- What a stage has given so far for sound messages is sound; and sound messages don't end the stream before the last.
use Rattle.pnm_serial.proofs.Words.{◌≡◌, ◌≤◌, List, [], ◌∷◌, ◌++◌, Option, length, refl, sym, ap, subst, arith, AllByRecursion, Message, Begin, Row, ImageEnd}
use Rattle.pnm_serial.proofs.Words.{StreamEnd, Stop, More, BrokenOff, Place, Between, ending_of, EndsBy, without_stop, IsLawfulFrom, place_after, IsPrefixOf}
use Rattle.pnm_serial.proofs.Words.{ToolFault, Tool, FusedFilter, AtWork, Refused, Answers, IsSound, AreSound, HasRefused, FilterBusy, IsLawfulTool, output_due}
use Rattle.pnm_serial.proofs.Words.{sound_prefix, prefix_of_due_is_sound, nothing_changes, prefix_by_results, GivesAnswers}

-- ---- what was given

-- nothing is cut off where there is no last Stop
unstopped : (g : List Message) → ((prefix : List Message) → g ≡ prefix ++ Stop ∷ [] → ⊥) → without_stop g ≡ g
unstopped [] unbroken = refl
unstopped (Begin head ∷ g) unbroken = ap (λ (l : List Message). Begin head ∷ l)
    (unstopped g (λ prefix is. unbroken (Begin head ∷ prefix) (ap (λ (l : List Message). Begin head ∷ l) is)))
unstopped (Row row ∷ g) unbroken = ap (λ (l : List Message). Row row ∷ l)
    (unstopped g (λ prefix is. unbroken (Row row ∷ prefix) (ap (λ (l : List Message). Row row ∷ l) is)))
unstopped (ImageEnd ∷ g) unbroken = ap (λ (l : List Message). ImageEnd ∷ l)
    (unstopped g (λ prefix is. unbroken (ImageEnd ∷ prefix) (ap (λ (l : List Message). ImageEnd ∷ l) is)))
unstopped (StreamEnd ∷ g) unbroken = ap (λ (l : List Message). StreamEnd ∷ l)
    (unstopped g (λ prefix is. unbroken (StreamEnd ∷ prefix) (ap (λ (l : List Message). StreamEnd ∷ l) is)))
unstopped (Stop ∷ []) unbroken = absurd (unbroken [] refl)
unstopped (Stop ∷ n ∷ g) unbroken = ap (λ (l : List Message). Stop ∷ l)
    (unstopped (n ∷ g) (λ prefix is. unbroken (Stop ∷ prefix) (ap (λ (l : List Message). Stop ∷ l) is)))

-- sound messages aren't broken off
sound_unbroken : (l : List Message) → AllByRecursion IsSound l → EndsBy BrokenOff l → ⊥
sound_unbroken [] sound ends = absurd cc
sound_unbroken (m ∷ n ∷ l) sound ends = sound_unbroken (n ∷ l) sound.1 ends.1
sound_unbroken (Begin head ∷ []) sound ends = absurd cc
sound_unbroken (Row row ∷ []) sound ends = absurd cc
sound_unbroken (ImageEnd ∷ []) sound ends = absurd cc
sound_unbroken (StreamEnd ∷ []) sound ends = absurd cc
sound_unbroken (Stop ∷ []) sound ends = sound.0

-- what answers a part of sound messages
answers_are_sound : {tool : Tool} {l g : List Message} → IsLawfulTool tool → AreSound l → Answers tool l g → AreSound g
answers_are_sound {tool} {l} {g} lawful sound answers =
    let whole : without_stop g ≡ g = unstopped g (λ prefix is. sound_unbroken l sound.sound (answers.stop prefix is)) in
    prefix_of_due_is_sound (tool ∷ []) l g (lawful, tt) sound (λ is completes. prefix_by_results tool [] is g g lawful completes.images
    (subst (λ (x : List Message). IsPrefixOf x (output_due tool is)) whole (answers.prefix is completes))
    (λ js are prefix. subst (IsPrefixOf g) (sym (nothing_changes js)) prefix))

refused_is_sound : {tool : Tool} {fault : ToolFault} {l g : List Message} → IsLawfulTool tool → AreSound l → HasRefused tool fault l g → AreSound g
refused_is_sound lawful sound has = answers_are_sound lawful (sound_prefix has.accepted has.rest (subst AreSound has.parts sound)) has.answers

-- a stage that may still give more
pub busy_is_sound : {F : Type 0} (at : F → Tool → List Message → List Message → Type 0) (stopped : F → Option ToolFault) → GivesAnswers at
    → (stage : FusedFilter F) (tool : Tool) {l g : List Message} → IsLawfulTool tool → AreSound l → FilterBusy at stopped stage tool l g → AreSound g
busy_is_sound at stopped law (AtWork filter) tool {l} {g} lawful sound busy = answers_are_sound lawful sound (law filter tool l g busy.state)
busy_is_sound at stopped law (Refused fault) tool lawful sound busy = refused_is_sound lawful sound busy

-- ---- what more may come after

-- a message before another one
before_another : (place : Place) (n m : Message) (rest : List Message) → IsLawfulFrom place (n ∷ m ∷ rest) → ending_of n ≡ More
before_another place (Begin head) m rest lawful = refl
before_another place (Row row) m rest lawful = refl
before_another place ImageEnd m rest lawful = refl
before_another place StreamEnd m rest lawful = absurd lawful.1.0
before_another place Stop m rest lawful = absurd lawful.1.0

goes_on : (place : Place) (l : List Message) (m : Message) (rest : List Message) → IsLawfulFrom place (l ++ m ∷ rest) → EndsBy More l
goes_on place [] m rest lawful = refl
goes_on place (n ∷ []) m rest lawful = before_another place n m rest lawful
goes_on place (n ∷ o ∷ l) m rest lawful =
    (before_another place n o (l ++ m ∷ rest) lawful, goes_on (place_after place n) (o ∷ l) m rest lawful.1)

-- more comes next
pub goes_on_before : (l rest : List Message) → AreSound (l ++ rest) → 1 ≤ length rest → EndsBy More l
goes_on_before l [] sound some = absurd (omega (arith, some))
goes_on_before l (m ∷ rest) sound some = goes_on Between l m rest sound.lawful
