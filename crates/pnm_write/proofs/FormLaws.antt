-- What a form refuses of messages and of more.
use Rattle.pnm_write.proofs.Words.{◌≡◌, ℕ, Bool, true, false, List, [], ◌∷◌, ◌++◌, map, Option, Some, None, refl, ap, append_assoc, ◌∙◌, Form, Raw, Plain}
use Rattle.pnm_write.proofs.Words.{Message, Row, ImageEnd, StreamEnd, Image, rows_of, messages_of_stream, SecondPlain, SinkFault, plain_kind_fault}
use Rattle.pnm_write.proofs.Words.{images_fault, has_begun_after, has_begun_by, form_fault_from, form_fault_of, plain_fault, plain_fault_from, RefusesFirst}
use Rattle.pnm_write.proofs.Words.{plain_taken_from, taken_by}

-- whether an image has begun, after more messages
pub has_begun_by-append : (begun : Bool) (messages more : List Message)
    → has_begun_by begun (messages ++ more) ≡ has_begun_by (has_begun_by begun messages) more
has_begun_by-append begun [] more = refl
has_begun_by-append begun (m ∷ messages) more = has_begun_by-append (has_begun_after begun m) messages more

-- ---- the first fault

-- the first of two faults
abbrev pub first_of_two : Option SinkFault → Option SinkFault → Option SinkFault
first_of_two first second = elim first [ Some fault ↦ Some fault | None ↦ second ]

first_of_three : (a b c : Option SinkFault) {d : Option SinkFault} → d ≡ first_of_two b c → first_of_two a d ≡ first_of_two (first_of_two a b) c
first_of_three None b c e = e
first_of_three (Some fault) b c e = refl

-- the first fault of messages and more is theirs, and else that of the others
plain_fault_from-append : (begun : Bool) (messages more : List Message)
    → plain_fault_from begun (messages ++ more) ≡ first_of_two (plain_fault_from begun messages) (plain_fault_from (has_begun_by begun messages) more)
plain_fault_from-append begun [] more = refl
plain_fault_from-append begun (m ∷ messages) more =
    let now : Bool = has_begun_after begun m in
    first_of_three (plain_fault begun m) (plain_fault_from now messages) (plain_fault_from (has_begun_by now messages) more)
    (plain_fault_from-append now messages more)

-- more messages without a fault, after messages without one
pub form_fault-more : (form : Form) (messages more : List Message) → form_fault_of form messages ≡ None
    → form_fault_from form (has_begun_by false messages) more ≡ None → form_fault_of form (messages ++ more) ≡ None
form_fault-more Raw messages more before now = refl
form_fault-more Plain messages more before now = plain_fault_from-append false messages more
    ∙ ap (λ (o : Option SinkFault). first_of_two o (plain_fault_from (has_begun_by false messages) more)) before ∙ now

-- where the first of two faults isn't there, and where neither is
pub no_first_fault : (first second : Option SinkFault) → first_of_two first second ≡ None → first ≡ None
no_first_fault None second e = refl
no_first_fault (Some fault) second e = e

pub no_last_fault : (first second : Option SinkFault) → first_of_two first second ≡ None → second ≡ None
no_last_fault None second e = e
no_last_fault (Some fault) second e = cc

-- ---- what is taken

-- what is taken of a message and those after it, by whether it is refused
abbrev taken_behind : Option SinkFault → Message → List Message → List Message
taken_behind first m taken = elim first [ Some fault ↦ [] | None ↦ m ∷ taken ]

-- one that is refused is so before others, too, and what is taken is what comes before it
before_step : (first rest more : Option SinkFault) (m : Message) (taken all : List Message) {fault : SinkFault} → first_of_two first rest ≡ Some fault
    → (rest ≡ Some fault → (more ≡ Some fault) × (all ≡ taken))
    → (first_of_two first more ≡ Some fault) × (taken_behind first m all ≡ taken_behind first m taken)
before_step None rest more m taken all is later = let found = later is in (found.0, ap (λ (l : List Message). m ∷ l) found.1)
before_step (Some first) rest more m taken all is later = (is, refl)

plain_refused_before : (begun : Bool) (messages more : List Message) {fault : SinkFault} → plain_fault_from begun messages ≡ Some fault
    → (plain_fault_from begun (messages ++ more) ≡ Some fault) × (plain_taken_from begun (messages ++ more) ≡ plain_taken_from begun messages)
plain_refused_before begun [] more is = absurd cc
plain_refused_before begun (m ∷ messages) more is =
    let now : Bool = has_begun_after begun m in
    before_step (plain_fault begun m) (plain_fault_from now messages) (plain_fault_from now (messages ++ more)) m (plain_taken_from now messages)
    (plain_taken_from now (messages ++ more)) is (plain_refused_before now messages more)

pub refused_before : (form : Form) (messages more : List Message) (fault : SinkFault) → form_fault_of form messages ≡ Some fault
    → (form_fault_of form (messages ++ more) ≡ Some fault) × (taken_by form (messages ++ more) ≡ taken_by form messages)
refused_before Raw messages more fault is = absurd cc
refused_before Plain messages more fault is = plain_refused_before false messages more is

-- the first of more messages is the first that is refused
next_step : (first rest more : Option SinkFault) (m : Message) (all messages : List Message) (fault : SinkFault) → first_of_two first rest ≡ None
    → (rest ≡ None → (more ≡ Some fault) × (all ≡ messages))
    → (first_of_two first more ≡ Some fault) × (taken_behind first m all ≡ m ∷ messages)
next_step None rest more m all messages fault none later = let found = later none in (found.0, ap (λ (l : List Message). m ∷ l) found.1)
next_step (Some first) rest more m all messages fault none later = absurd cc

plain_refused_next : (begun : Bool) (messages more : List Message) (fault : SinkFault) → plain_fault_from begun messages ≡ None
    → RefusesFirst Plain (has_begun_by begun messages) more fault
    → (plain_fault_from begun (messages ++ more) ≡ Some fault) × (plain_taken_from begun (messages ++ more) ≡ messages)
plain_refused_next begun [] [] fault none refuses = absurd refuses
plain_refused_next begun [] (m ∷ more) fault none refuses = (
  ap (λ (o : Option SinkFault). first_of_two o (plain_fault_from (has_begun_after begun m) more)) refuses,
  ap (λ (o : Option SinkFault). taken_behind o m (plain_taken_from (has_begun_after begun m) more)) refuses,
)
plain_refused_next begun (m ∷ messages) more fault none refuses =
    let now : Bool = has_begun_after begun m in
    next_step (plain_fault begun m) (plain_fault_from now messages) (plain_fault_from now (messages ++ more)) m (plain_taken_from now (messages ++ more))
    messages fault none (λ rest. plain_refused_next now messages more fault rest refuses)

pub refused_next : (form : Form) (messages more : List Message) (fault : SinkFault) → form_fault_of form messages ≡ None
    → RefusesFirst form (has_begun_by false messages) more fault
    → (form_fault_of form (messages ++ more) ≡ Some fault) × (taken_by form (messages ++ more) ≡ messages)
refused_next Raw messages [] fault none refuses = absurd refuses
refused_next Raw messages (m ∷ more) fault none refuses = absurd cc
refused_next Plain messages more fault none refuses = plain_refused_next false messages more fault none refuses

-- where none is refused, all are taken
all_step : (first rest : Option SinkFault) (m : Message) (taken messages : List Message) → first_of_two first rest ≡ None → (rest ≡ None → taken ≡ messages)
    → taken_behind first m taken ≡ m ∷ messages
all_step None rest m taken messages e all = ap (λ (l : List Message). m ∷ l) (all e)
all_step (Some fault) rest m taken messages e all = cc

plain_taken_from-all : (begun : Bool) (messages : List Message) → plain_fault_from begun messages ≡ None → plain_taken_from begun messages ≡ messages
plain_taken_from-all begun [] e = refl
plain_taken_from-all begun (m ∷ messages) e =
    let now : Bool = has_begun_after begun m in
    all_step (plain_fault begun m) (plain_fault_from now messages) m (plain_taken_from now messages) messages e (plain_taken_from-all now messages)

pub taken_by-all : (form : Form) (messages : List Message) → form_fault_of form messages ≡ None → taken_by form messages ≡ messages
taken_by-all Raw messages e = refl
taken_by-all Plain messages e = plain_taken_from-all false messages e

-- what is taken is a prefix of what is taken of more messages
abbrev pub IsPrefixOf : List Message → List Message → Type 0
IsPrefixOf prefix whole = (rest : List Message) × (whole ≡ prefix ++ rest)

prefix_step : (first : Option SinkFault) (m : Message) (taken more : List Message) → IsPrefixOf taken more
    → IsPrefixOf (taken_behind first m taken) (taken_behind first m more)
prefix_step None m taken more (rest, e) = (rest, ap (λ (l : List Message). m ∷ l) e)
prefix_step (Some fault) m taken more prefix = ([], refl)

plain_taken_prefix : (begun : Bool) (messages more : List Message) → IsPrefixOf (plain_taken_from begun messages) (plain_taken_from begun (messages ++ more))
plain_taken_prefix begun [] more = (plain_taken_from begun more, refl)
plain_taken_prefix begun (m ∷ messages) more =
    let now : Bool = has_begun_after begun m in
    prefix_step (plain_fault begun m) m (plain_taken_from now messages) (plain_taken_from now (messages ++ more)) (plain_taken_prefix now messages more)

pub taken_prefix : (form : Form) (messages more : List Message) → IsPrefixOf (taken_by form messages) (taken_by form (messages ++ more))
taken_prefix Raw messages more = (more, refl)
taken_prefix Plain messages more = plain_taken_prefix false messages more

-- ---- a stream of images

-- rows are never refused
plain_rows_are_held : (rows : List (List ℕ)) (more : List Message) → plain_fault_from true (map Row rows ++ more) ≡ plain_fault_from true more
plain_rows_are_held [] more = refl
plain_rows_are_held (row ∷ rows) more = plain_rows_are_held rows more

-- after an image, another one is refused
plain_images_after : (rows : List (List ℕ)) (images : List Image) → plain_fault_from true ((map Row rows ++ ImageEnd ∷ []) ++ messages_of_stream images)
    ≡ elim images [ [] ↦ None | next ∷ more ↦ Some SecondPlain ]
plain_images_after rows [] = ap (plain_fault_from true) (append_assoc (map Row rows) (ImageEnd ∷ []) (StreamEnd ∷ []))
    ∙ plain_rows_are_held rows (ImageEnd ∷ StreamEnd ∷ [])
plain_images_after rows (next ∷ more) =
    let others : List Message = messages_of_stream (next ∷ more) in
    ap (plain_fault_from true) (append_assoc (map Row rows) (ImageEnd ∷ []) others) ∙ plain_rows_are_held rows (ImageEnd ∷ others)

pub stream_fault : (form : Form) (images : List Image) → form_fault_of form (messages_of_stream images) ≡ images_fault form images
stream_fault Raw images = refl
stream_fault Plain [] = refl
stream_fault Plain (image ∷ images) = ap (first_of_two (plain_kind_fault image.head.shape.kind)) (plain_images_after (rows_of image) images)
