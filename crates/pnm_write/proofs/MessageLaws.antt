-- The bytes of lists of messages, and the messages that were put into a sink.
use Rattle.pnm_write.proofs.Words.{◌≡◌, ℕ, ◌+◌, Bool, true, false, List, [], ◌∷◌, ◌++◌, map, Option, Some, None, Result, Ok, Err, OnOk, refl, sym, ap, ◌∙◌}
use Rattle.pnm_write.proofs.Words.{append_assoc, subst, flat_map, AllByRecursion, append-nil, Appends-trans, Appends, Keeps, Shape, Form, Raw, Plain, HeadValue}
use Rattle.pnm_write.proofs.Words.{part_messages, end_messages, rest_messages, row_messages, rows_list, SinkFault, WriteFailed, OutOfOrder, Broken, SecondPlain}
use Rattle.pnm_write.proofs.Words.{PlainPam, Message, Begin, Row, ImageEnd, StreamEnd, Stop, Place, Between, Inside, Image, rows_of, messages_of_stream}
use Rattle.pnm_write.proofs.Words.{IsLawfulFrom, place_after, place_of, lawful_append, place_of-append, Sink, header_text, row_bytes, encoding_of, bytes_at}
use Rattle.pnm_write.proofs.Words.{bytes_from, bytes_of, written_of, has_begun_by, form_fault, form_fault_from, form_fault_of, plain_fault, plain_fault_from}
use Rattle.pnm_write.proofs.Words.{taken_by, writer_of, next_place, form_of, has_begun, has_failed, HasRows, HasPut, HasWritten, AreWritable, Refuses}
use Rattle.pnm_write.proofs.Words.{BeginsNone, BeginsWith, IsHeadRefused}
use Rattle.pnm_write.proofs.FormLaws.{has_begun_by-append, form_fault-more, first_of_two, IsPrefixOf, taken_prefix, taken_by-all}

-- the bytes of rows, and of what comes after the image
bytes_of_rows : (form : Form) (s : Shape) (y : ℕ) (rows : List (List ℕ)) (rest : List Message)
    → bytes_from form (Inside s y) (map Row rows ++ ImageEnd ∷ rest) ≡ flat_map (row_bytes form s) rows ++ bytes_from form Between rest
bytes_of_rows form s y [] rest = refl
bytes_of_rows form s y (row ∷ rows) rest =
    ap (λ (l : List ℕ). row_bytes form s row ++ l) (bytes_of_rows form s (y + 1) rows rest)
    ∙ sym (append_assoc (row_bytes form s row) (flat_map (row_bytes form s) rows) (bytes_from form Between rest))

-- the bytes of a stream's messages are the encoding of its images
pub bytes_of_stream : (form : Form) (is : List Image) → bytes_from form Between (messages_of_stream is) ≡ encoding_of form is
bytes_of_stream form [] = refl
bytes_of_stream form (i ∷ is) =
    let s : Shape = i.head.shape in
    let text : List ℕ = header_text form i.head in
    let rows : List ℕ = flat_map (row_bytes form s) (rows_of i) in
    let messages : (map Row (rows_of i) ++ ImageEnd ∷ []) ++ messages_of_stream is ≡ map Row (rows_of i) ++ ImageEnd ∷ messages_of_stream is =
    append_assoc (map Row (rows_of i)) (ImageEnd ∷ []) (messages_of_stream is) in
    ap (λ (l : List Message). text ++ bytes_from form (Inside s 0) l) messages
    ∙ ap (λ (l : List ℕ). text ++ l) (bytes_of_rows form s 0 (rows_of i) (messages_of_stream is) ∙ ap (λ (l : List ℕ). rows ++ l) (bytes_of_stream form is))
    ∙ sym (append_assoc text rows (encoding_of form is))

-- the bytes of a list of messages, and then of another
pub bytes_from-append : (form : Form) (place : Place) (ms ns : List Message) → bytes_from form place (ms ++ ns) ≡ bytes_from form place ms ++ bytes_from form
    (place_of place ms) ns
bytes_from-append form place [] ns = refl
bytes_from-append form place (m ∷ ms) ns =
    ap (λ (l : List ℕ). bytes_at form place m ++ l) (bytes_from-append form (place_after place m) ms ns)
    ∙ sym (append_assoc (bytes_at form place m) (bytes_from form (place_after place m) ms) (bytes_from form (place_of (place_after place m) ms) ns))

-- one message more adds its bytes
pub bytes_of_more : (form : Form) (place : Place) (messages : List Message) (m : Message)
    → bytes_from form place (messages ++ m ∷ []) ≡ bytes_from form place messages ++ bytes_at form (place_of place messages) m
bytes_of_more form place messages m = bytes_from-append form place messages (m ∷ [])
    ∙ ap (λ (l : List ℕ). bytes_from form place messages ++ l) (append-nil (bytes_at form (place_of place messages) m))

-- what is written is a prefix of what is written of more messages
pub written_prefix : (form : Form) (messages more : List Message) → (rest : List ℕ) × (written_of form (messages ++ more) ≡ written_of form messages ++ rest)
written_prefix form messages more =
    let prefix : IsPrefixOf (taken_by form messages) (taken_by form (messages ++ more)) = taken_prefix form messages more in (
      bytes_from form (place_of Between (taken_by form messages)) prefix.0,
      ap (bytes_from form Between) prefix.1 ∙ bytes_from-append form Between (taken_by form messages) prefix.0,
    )

-- where no message is refused, all bytes are written
pub written_all : (form : Form) (messages : List Message) → form_fault_of form messages ≡ None → written_of form messages ≡ bytes_of form messages
written_all form messages none = ap (bytes_from form Between) (taken_by-all form messages none)

-- ---- more messages

-- what a sink is after it took messages
pub record TakesOn {W : Type 0} (old new : Sink W) (more : List Message) : Type 0 where
  pub takes : AreWritable (form_of old) (has_begun old) (next_place old) more
  pub sound : has_failed old ≡ false
  pub form : form_of new ≡ form_of old
  pub place : next_place new ≡ place_of (next_place old) more
  pub begun : has_begun new ≡ has_begun_by (has_begun old) more

all_append : {A : Type 0} (P : A → Type 0) (a b : List A) → AllByRecursion P a → AllByRecursion P b → AllByRecursion P (a ++ b)
all_append P [] b first then = then
all_append P (x ∷ a) b first then = (first.0, all_append P a b first.1 then)

-- messages were put
pub puts : {W : Type 0} {old new : Sink W} {messages more : List Message} → HasPut old messages → TakesOn old new more → HasPut new (messages ++ more)
puts {old} {messages} {more} put on =
    let here : next_place old ≡ place_of Between messages = put.place on.sound in
    let begun : has_begun old ≡ has_begun_by false messages = put.begun on.sound in
    let none : form_fault_from (form_of old) (has_begun_by false messages) more ≡ None =
    subst (λ (b : Bool). form_fault_from (form_of old) b more ≡ None) begun on.takes.1 in
    record {
      lawful = lawful_append Between messages more put.lawful (subst (λ (p : Place). IsLawfulFrom p more) here on.takes.0.0);
      rows = all_append HasRows messages more put.rows on.takes.0.1;
      form = subst (λ (f : Form). form_fault_of f (messages ++ more) ≡ None) (sym on.form) (form_fault-more (form_of old) messages more put.form none);
      begun = λ still. on.begun ∙ ap (λ (b : Bool). has_begun_by b more) begun ∙ sym (has_begun_by-append false messages more);
      place = λ still. on.place ∙ ap (λ (p : Place). place_of p more) here ∙ sym (place_of-append Between messages more);
    }

-- messages were put, and their bytes were written
pub writes : {W : Type 0} {held : W → Option (List ℕ)} {start : Option (List ℕ)} {old new : Sink W} {messages more : List Message}
    → HasWritten held start old messages → TakesOn old new more → Appends (held (writer_of old)) (held (writer_of new))
    (bytes_from (form_of old) (next_place old) more) → HasWritten held start new (messages ++ more)
writes {held} {start} {old} {new} {messages} {more} written on added =
    let form : Form = form_of old in
    let here : next_place old ≡ place_of Between messages = written.put.place on.sound in
    let bytes : Appends (held (writer_of old)) (held (writer_of new)) (bytes_from form (place_of Between messages) more) =
    subst (λ (p : Place). Appends (held (writer_of old)) (held (writer_of new)) (bytes_from form p more)) here added in
    let all : Appends start (held (writer_of new)) (bytes_from form Between (messages ++ more)) =
    subst (Appends start (held (writer_of new))) (sym (bytes_from-append form Between messages more))
    (Appends-trans start (held (writer_of old)) (held (writer_of new)) (bytes_from form Between messages) (bytes_from form (place_of Between messages) more)
    written.bytes bytes) in
    record {
      put = puts written.put on;
      bytes = subst (λ (f : Form). Appends start (held (writer_of new)) (bytes_from f Between (messages ++ more))) (sym on.form) all;
    }

-- ---- whether an image begins in messages

pub begins_none : (form : Form) (begun : Bool) (messages : List Message) → BeginsNone messages
    → AllByRecursion HasRows messages × (form_fault_from form begun messages ≡ None) × (begun ≡ has_begun_by begun messages)
begins_none Raw begun [] none = (tt, refl, refl)
begins_none Plain begun [] none = (tt, refl, refl)
begins_none form begun (Begin head ∷ messages) none = absurd none
begins_none Raw begun (Row row ∷ messages) none = let rest = begins_none Raw begun messages none in ((tt, rest.0), refl, rest.2)
begins_none Plain begun (Row row ∷ messages) none = let rest = begins_none Plain begun messages none in ((tt, rest.0), rest.1, rest.2)
begins_none Raw begun (ImageEnd ∷ messages) none = let rest = begins_none Raw begun messages none in ((tt, rest.0), refl, rest.2)
begins_none Plain begun (ImageEnd ∷ messages) none = let rest = begins_none Plain begun messages none in ((tt, rest.0), rest.1, rest.2)
begins_none Raw begun (StreamEnd ∷ messages) none = let rest = begins_none Raw begun messages none in ((tt, rest.0), refl, rest.2)
begins_none Plain begun (StreamEnd ∷ messages) none = let rest = begins_none Plain begun messages none in ((tt, rest.0), rest.1, rest.2)
begins_none Raw begun (Stop ∷ messages) none = let rest = begins_none Raw begun messages none in ((tt, rest.0), refl, rest.2)
begins_none Plain begun (Stop ∷ messages) none = let rest = begins_none Plain begun messages none in ((tt, rest.0), rest.1, rest.2)

-- one does with the first of them
first_plain : (begun : Bool) (head : HeadValue) (rest : Option SinkFault) → plain_fault begun (Begin head) ≡ None
    → first_of_two (plain_fault begun (Begin head)) rest ≡ rest
first_plain begun head rest none = ap (λ (o : Option SinkFault). first_of_two o rest) none

pub begins_with : (form : Form) (begun : Bool) (head : HeadValue) (messages : List Message) → HasRows (Begin head)
    → form_fault form begun (Begin head) ≡ None → BeginsNone messages
    → AllByRecursion HasRows (Begin head ∷ messages) × (form_fault_from form begun (Begin head ∷ messages) ≡ None)
    × (true ≡ has_begun_by begun (Begin head ∷ messages))
begins_with Raw begun head messages rows none nothing = let rest = begins_none Raw true messages nothing in ((rows, rest.0), refl, rest.2)
begins_with Plain begun head messages rows none nothing =
    let rest = begins_none Plain true messages nothing in ((rows, rest.0), first_plain begun head (plain_fault_from true messages) none ∙ rest.1, rest.2)

-- rows and an image's end begin none
rest_begins_none : (rows : List (List ℕ)) (ends : Bool) → BeginsNone (row_messages rows ++ end_messages ends)
rest_begins_none [] false = tt
rest_begins_none [] true = tt
rest_begins_none (row ∷ rows) ends = rest_begins_none rows ends

-- a part begins an image if it has a head
pub part_begins : {head : HeadValue} {o : Option HeadValue} (rows : Option (List (List ℕ))) (ends : Bool) {part : List Message} → o ≡ Some head
    → part ≡ part_messages o rows ends → BeginsWith head part
part_begins {o} rows ends some is =
    (rest_messages rows ends, is ∙ ap (λ (o : Option HeadValue). part_messages o rows ends) some, rest_begins_none (rows_list rows) ends)

pub part_begins_none : {o : Option HeadValue} (rows : Option (List (List ℕ))) (ends : Bool) {part : List Message} → o ≡ None
    → part ≡ part_messages o rows ends → BeginsNone part
part_begins_none {o} rows ends none is =
    subst BeginsNone (sym (is ∙ ap (λ (o : Option HeadValue). part_messages o rows ends) none)) (rest_begins_none (rows_list rows) ends)

-- why messages are refused that begin with a head
pub refused_with : (form : Form) (begun : Bool) (place : Place) (messages : List Message) (fault : SinkFault) (head : HeadValue)
    (old : Option (List ℕ)) (failures : ℕ) → BeginsWith head messages → IsHeadRefused form begun head fault → IsLawfulFrom place messages
    → Keeps old old → Refuses form begun place messages fault old old failures failures
refused_with form begun place messages OutOfOrder head old failures (rest, is, none) refused lawful keeps =
    (λ order. refused (subst (AllByRecursion HasRows) is order.1).0, keeps)
refused_with form begun place messages SecondPlain head old failures (rest, is, none) refused lawful keeps =
    subst (λ (l : List Message). Refuses form begun place l SecondPlain old old failures failures) (sym is)
    ((subst (IsLawfulFrom place) is lawful, (refused.0, (begins_none form begun rest none).0)), refused.1, keeps)
refused_with form begun place messages PlainPam head old failures (rest, is, none) refused lawful keeps =
    subst (λ (l : List Message). Refuses form begun place l PlainPam old old failures failures) (sym is)
    ((subst (IsLawfulFrom place) is lawful, (refused.0, (begins_none form begun rest none).0)), refused.1, keeps)
refused_with form begun place messages WriteFailed head old failures begins refused lawful keeps = absurd refused
refused_with form begun place messages Broken head old failures begins refused lawful keeps = absurd refused

-- what follows from two facts where there is no error
pub on_ok_both : {T E P Q R : Type 0} (r : Result T E) → (P → Q → R) → OnOk r P → OnOk r Q → OnOk r R
on_ok_both (Ok x) f p q = f p q
on_ok_both (Err e) f p q = tt
