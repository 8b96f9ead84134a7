-- What a tool that answers each message at once has given, where some of it still waits.
use Rattle.pnm_tools.proofs.Words.{◌≡◌, ◌⊎◌, inl, inr, ℕ, ◌+◌, List, [], ◌∷◌, ◌++◌, map, Result, Ok, Err, refl, sym, ap, subst, ◌∙◌, append_assoc, Message}
use Rattle.pnm_tools.proofs.Words.{Begin, Row, ImageEnd, StreamEnd, Stop, Place, Between, Inside, After, HeadValue, without_stop, ending_of, EndsBy}
use Rattle.pnm_tools.proofs.Words.{IsLawfulFrom, IsLawful, place_after, Image, IsPrefixOf, Completes, ToolFault, Tool, AreTaken, result_head, row_answer}
use Rattle.pnm_tools.proofs.Words.{end_answer, output_due, More, BrokenOff, Answers, answers_at, answers_from, IsAnswering}
use Rattle.pnm_tools.proofs.AnsweringLaws.{AnswersImages, answers_from-append, answers_are_due}

-- no message is Stop
abbrev pub GoOn : List Message → Type 0
GoOn [] = Unit {0}
GoOn (Begin head ∷ ms) = GoOn ms
GoOn (Row row ∷ ms) = GoOn ms
GoOn (ImageEnd ∷ ms) = GoOn ms
GoOn (StreamEnd ∷ ms) = GoOn ms
GoOn (Stop ∷ ms) = ⊥

both_go_on : (a b : List Message) → GoOn a → GoOn b → GoOn (a ++ b)
both_go_on [] b p q = q
both_go_on (Begin head ∷ a) b p q = both_go_on a b p q
both_go_on (Row row ∷ a) b p q = both_go_on a b p q
both_go_on (ImageEnd ∷ a) b p q = both_go_on a b p q
both_go_on (StreamEnd ∷ a) b p q = both_go_on a b p q
both_go_on (Stop ∷ a) b p q = p

first_goes_on : (a b : List Message) → GoOn (a ++ b) → GoOn a
first_goes_on [] b p = tt
first_goes_on (Begin head ∷ a) b p = first_goes_on a b p
first_goes_on (Row row ∷ a) b p = first_goes_on a b p
first_goes_on (ImageEnd ∷ a) b p = first_goes_on a b p
first_goes_on (StreamEnd ∷ a) b p = first_goes_on a b p
first_goes_on (Stop ∷ a) b p = p

rows_go_on : (rows : List (List ℕ)) → GoOn (map Row rows)
rows_go_on [] = tt
rows_go_on (row ∷ rows) = rows_go_on rows

-- without Stop nothing is cut off
pub keeps_all : (a : List Message) → GoOn a → without_stop a ≡ a
keeps_all [] p = refl
keeps_all (Begin head ∷ a) p = ap (λ (l : List Message). Begin head ∷ l) (keeps_all a p)
keeps_all (Row row ∷ a) p = ap (λ (l : List Message). Row row ∷ l) (keeps_all a p)
keeps_all (ImageEnd ∷ a) p = ap (λ (l : List Message). ImageEnd ∷ l) (keeps_all a p)
keeps_all (StreamEnd ∷ a) p = ap (λ (l : List Message). StreamEnd ∷ l) (keeps_all a p)
keeps_all (Stop ∷ a) p = absurd p

-- a last Stop is cut off
pub cuts_stop : (a : List Message) → GoOn a → without_stop (a ++ Stop ∷ []) ≡ a
cuts_stop [] p = refl
cuts_stop (Begin head ∷ a) p = ap (λ (l : List Message). Begin head ∷ l) (cuts_stop a p)
cuts_stop (Row row ∷ a) p = ap (λ (l : List Message). Row row ∷ l) (cuts_stop a p)
cuts_stop (ImageEnd ∷ a) p = ap (λ (l : List Message). ImageEnd ∷ l) (cuts_stop a p)
cuts_stop (StreamEnd ∷ a) p = ap (λ (l : List Message). StreamEnd ∷ l) (cuts_stop a p)
cuts_stop (Stop ∷ a) p = absurd p

-- a lawful list goes on, or does but for a last Stop
abbrev pub StopsLast : List Message → Type 0
StopsLast l = GoOn l ⊎ ((prefix : List Message) × (l ≡ prefix ++ Stop ∷ []) × GoOn prefix)

more_stops : (m : Message) (l : List Message) → ((a : List Message) → GoOn a → GoOn (m ∷ a)) → StopsLast l → StopsLast (m ∷ l)
more_stops m l on (inl p) = inl (on l p)
more_stops m l on (inr h) = inr (m ∷ h.0, ap (λ (x : List Message). m ∷ x) h.1, on h.0 h.2)

pub lawful_stops : (place : Place) (l : List Message) → IsLawfulFrom place l → StopsLast l
lawful_stops place [] h = inl tt
lawful_stops place (Begin head ∷ l) h = more_stops (Begin head) l (λ a p. p) (lawful_stops (place_after place (Begin head)) l h.1)
lawful_stops place (Row row ∷ l) h = more_stops (Row row) l (λ a p. p) (lawful_stops (place_after place (Row row)) l h.1)
lawful_stops place (ImageEnd ∷ l) h = more_stops ImageEnd l (λ a p. p) (lawful_stops (place_after place ImageEnd) l h.1)
lawful_stops place (StreamEnd ∷ l) h = more_stops StreamEnd l (λ a p. p) (lawful_stops (place_after place StreamEnd) l h.1)
lawful_stops place (Stop ∷ []) h = inr ([], refl, tt)
lawful_stops place (Stop ∷ m ∷ l) h = absurd h.1.0

-- answers to messages that go on do so
head_goes_on : (r : Result HeadValue ToolFault) → GoOn (elim r [ Ok result ↦ Begin result ∷ [] | Err fault ↦ [] ])
head_goes_on (Ok result) = tt
head_goes_on (Err fault) = tt

pub answers_go_on : (tool : Tool) (place : Place) (rows : List (List ℕ)) (l : List Message) → GoOn l → GoOn (answers_from tool place rows l)
answers_go_on tool place rows [] p = tt
answers_go_on tool place rows (Begin head ∷ l) p =
    both_go_on (answers_at tool place rows (Begin head)) (answers_from tool (place_after place (Begin head)) [] l) (head_goes_on (result_head tool head))
    (answers_go_on tool (place_after place (Begin head)) [] l p)
answers_go_on tool Between rows (Row row ∷ l) p = answers_go_on tool Between (rows ++ row ∷ []) l p
answers_go_on tool (Inside s y) rows (Row row ∷ l) p =
    both_go_on (map Row (row_answer tool s y row)) (answers_from tool (Inside s (y + 1)) (rows ++ row ∷ []) l) (rows_go_on (row_answer tool s y row))
    (answers_go_on tool (Inside s (y + 1)) (rows ++ row ∷ []) l p)
answers_go_on tool After rows (Row row ∷ l) p = answers_go_on tool After (rows ++ row ∷ []) l p
answers_go_on tool Between rows (ImageEnd ∷ l) p = answers_go_on tool Between [] l p
answers_go_on tool (Inside s y) rows (ImageEnd ∷ l) p = both_go_on (map Row (end_answer tool s rows) ++ ImageEnd ∷ []) (answers_from tool Between [] l)
    (both_go_on (map Row (end_answer tool s rows)) (ImageEnd ∷ []) (rows_go_on (end_answer tool s rows)) tt) (answers_go_on tool Between [] l p)
answers_go_on tool After rows (ImageEnd ∷ l) p = answers_go_on tool Between [] l p
answers_go_on tool place rows (StreamEnd ∷ l) p = answers_go_on tool After [] l p
answers_go_on tool place rows (Stop ∷ l) p = absurd p

-- ---- the relation of a state with what it accepted and gave

taken_prefix : (tool : Tool) (a b : List Message) → AreTaken tool (a ++ b) → AreTaken tool a
taken_prefix tool [] b t = tt
taken_prefix tool (Begin head ∷ a) b t = (t.0, taken_prefix tool a b t.1)
taken_prefix tool (Row row ∷ a) b t = taken_prefix tool a b t
taken_prefix tool (ImageEnd ∷ a) b t = taken_prefix tool a b t
taken_prefix tool (StreamEnd ∷ a) b t = taken_prefix tool a b t
taken_prefix tool (Stop ∷ a) b t = taken_prefix tool a b t

-- a prefix of a list with one message more is all of it, or a prefix of the list
abbrev IsWithin : List Message → Message → List Message → Type 0
IsWithin a x g = (g ≡ a ++ x ∷ []) ⊎ ((more : List Message) × (a ≡ g ++ more))

within : (a : List Message) (x : Message) (g waiting : List Message) → a ++ x ∷ [] ≡ g ++ waiting → IsWithin a x g
within a x [] waiting e = inr (a, refl)
within [] x (m ∷ []) waiting e = inl (sym (let same : x ≡ m = cc in ap (λ (k : Message). k ∷ []) same))
within [] x (m ∷ n ∷ g) waiting e = absurd cc
within (k ∷ a) x (m ∷ g) waiting e =
    let first : k ≡ m = cc in
    let others : a ++ x ∷ [] ≡ g ++ waiting = cc in
    elim (within a x g waiting others) [
      | inl h ↦ inl (ap (λ (l : List Message). m ∷ l) h ∙ ap (λ (j : Message). j ∷ (a ++ x ∷ [])) (sym first))
      | inr h ↦ inr (h.0, ap (λ (l : List Message). k ∷ l) h.1 ∙ ap (λ (j : Message). j ∷ (g ++ h.0)) first)
    ]

-- what was given goes on, and is a prefix of what is due
prefix_on : (due a g waiting r : List Message) → GoOn a → a ≡ g ++ waiting → due ≡ a ++ r → IsPrefixOf (without_stop g) due
prefix_on due a g waiting r on e d =
    let goes : GoOn g = first_goes_on g waiting (subst GoOn e on) in
    (waiting ++ r, d ∙ ap (λ (l : List Message). l ++ r) e ∙ append_assoc g waiting r ∙ ap (λ (l : List Message). l ++ (waiting ++ r)) (sym (keeps_all g goes)))

prefix_stop : (due a g r : List Message) → GoOn a → due ≡ a ++ r → IsWithin a Stop g → IsPrefixOf (without_stop g) due
prefix_stop due a g r on d (inl all) = (r, d ∙ ap (λ (l : List Message). l ++ r) (sym (cuts_stop a on) ∙ ap without_stop (sym all)))
prefix_stop due a g r on d (inr h) = prefix_on due a g h.0 r on h.1 d

prefix_of_due : (tool : Tool) (l g waiting : List Message) (is : List Image) → AnswersImages tool → IsAnswering tool l g waiting → StopsLast l → Completes is l
    → IsPrefixOf (without_stop g) (output_due tool is)
prefix_of_due tool l g waiting is answers at (inl on) c =
    let due = answers_are_due tool is l c.prefix.0 answers c.images (c.prefix.1 ∙ ap (λ (x : List Message). x ++ c.prefix.0) (keeps_all l on)) at.taken in
    prefix_on (output_due tool is) (answers_from tool Between [] l) g waiting due.0 (answers_go_on tool Between [] l on) at.given due.1
prefix_of_due tool l g waiting is answers at (inr h) c =
    let prefix : List Message = h.0 in
    let taken : AreTaken tool prefix = taken_prefix tool prefix (Stop ∷ []) (subst (AreTaken tool) h.1 at.taken) in
    let cut : without_stop l ≡ prefix = ap without_stop h.1 ∙ cuts_stop prefix h.2 in
    let due = answers_are_due tool is prefix c.prefix.0 answers c.images (c.prefix.1 ∙ ap (λ (x : List Message). x ++ c.prefix.0) cut) taken in
    let parts : answers_from tool Between [] prefix ++ Stop ∷ [] ≡ g ++ waiting =
    sym (ap (answers_from tool Between []) h.1 ∙ answers_from-append tool Between [] prefix (Stop ∷ [])) ∙ at.given in
    prefix_stop (output_due tool is) (answers_from tool Between [] prefix) g due.0 (answers_go_on tool Between [] prefix h.2) due.1
    (within (answers_from tool Between [] prefix) Stop g waiting parts)

-- what goes on isn't broken off
pub not_broken : (g : List Message) → GoOn g → EndsBy BrokenOff g → ⊥
not_broken [] on e = cc
not_broken (Begin head ∷ []) on e = cc
not_broken (Row row ∷ []) on e = cc
not_broken (ImageEnd ∷ []) on e = cc
not_broken (StreamEnd ∷ []) on e = cc
not_broken (Stop ∷ g) on e = on
not_broken (Begin head ∷ n ∷ g) on e = not_broken (n ∷ g) on e.1
not_broken (Row row ∷ n ∷ g) on e = not_broken (n ∷ g) on e.1
not_broken (ImageEnd ∷ n ∷ g) on e = not_broken (n ∷ g) on e.1
not_broken (StreamEnd ∷ n ∷ g) on e = not_broken (n ∷ g) on e.1

-- a lawful list with a last Stop is broken off
more_broken : (m : Message) (prefix : List Message) → ending_of m ≡ More → EndsBy BrokenOff (prefix ++ Stop ∷ []) → EndsBy BrokenOff (m ∷ (prefix ++ Stop ∷ []))
more_broken m [] e b = (e, b)
more_broken m (n ∷ prefix) e b = (e, b)

after_nothing : (prefix : List Message) → IsLawfulFrom After (prefix ++ Stop ∷ []) → ⊥
after_nothing [] h = h.0
after_nothing (m ∷ prefix) h = h.0

is_broken : (place : Place) (prefix : List Message) → IsLawfulFrom place (prefix ++ Stop ∷ []) → EndsBy BrokenOff (prefix ++ Stop ∷ [])
is_broken place [] h = refl
is_broken place (Begin head ∷ prefix) h = more_broken (Begin head) prefix refl (is_broken (place_after place (Begin head)) prefix h.1)
is_broken place (Row row ∷ prefix) h = more_broken (Row row) prefix refl (is_broken (place_after place (Row row)) prefix h.1)
is_broken place (ImageEnd ∷ prefix) h = more_broken ImageEnd prefix refl (is_broken (place_after place ImageEnd) prefix h.1)
is_broken place (StreamEnd ∷ prefix) h = absurd (after_nothing prefix h.1)
is_broken place (Stop ∷ prefix) h = absurd (after_nothing prefix h.1)

no_last_stop : (prefix : List Message) → GoOn (prefix ++ Stop ∷ []) → ⊥
no_last_stop [] on = on
no_last_stop (Begin head ∷ prefix) on = no_last_stop prefix on
no_last_stop (Row row ∷ prefix) on = no_last_stop prefix on
no_last_stop (ImageEnd ∷ prefix) on = no_last_stop prefix on
no_last_stop (StreamEnd ∷ prefix) on = no_last_stop prefix on
no_last_stop (Stop ∷ prefix) on = on

stops_so : (tool : Tool) (l g waiting prefix : List Message) → IsAnswering tool l g waiting → StopsLast l → g ≡ prefix ++ Stop ∷ [] → EndsBy BrokenOff l
stops_so tool l g waiting prefix at (inl on) e =
    absurd (no_last_stop prefix (subst GoOn e (first_goes_on g waiting (subst GoOn at.given (answers_go_on tool Between [] l on)))))
stops_so tool l g waiting prefix at (inr h) e = subst (EndsBy BrokenOff) (sym h.1) (is_broken Between h.0 (subst IsLawful h.1 at.lawful))

-- the relation implies that what was given are answers
pub answering_answers : (tool : Tool) (l g waiting : List Message) → AnswersImages tool → IsAnswering tool l g waiting → Answers tool l g
answering_answers tool l g waiting answers at =
    let last = lawful_stops Between l at.lawful in
    record {
      lawful = at.lawful;
      prefix = λ is c. prefix_of_due tool l g waiting is answers at last c;
      stop = λ before e. stops_so tool l g waiting before at last e;
    }
