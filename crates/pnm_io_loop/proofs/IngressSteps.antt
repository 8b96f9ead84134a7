-- What an ingress has sent, once it has asked its source for one packet more.
use Rattle.pnm_io_loop.proofs.Words.{◌≡◌, ◌⊎◌, ℕ, List, [], ◌∷◌, ◌++◌, Option, Some, None, Ok, Err, refl, sym, ap, subst, ◌∙◌, append_assoc, append-nil, sent}
use Rattle.pnm_io_loop.proofs.Words.{Sender, Failed, Message, Stop, Packet, messages_in, InputFault, ReadFailed, Source, reader_of, stopped_by, MayGive}
use Rattle.pnm_io_loop.proofs.Words.{SeesEnd, Tells, consumes_then, no_fault, Ingress, HasAsked, HasAskedAll, HasAskedBy, IsIngress, closing_messages}
use Rattle.pnm_io_loop.proofs.Words.{images_in, images_in-append, may_give, IsUnreadAfter, unread_after, read_failure, fault_answer, given_is_sound}
use Rattle.pnm_io_loop.proofs.Words.{open_in_call, failed_in_call}

-- ---- the source

-- a packet more was given
asked_more : {R : Type 0} (left : R → Option (List ℕ)) (failures : R → ℕ) (first source next : Source R) (given : List Message) (packet : Packet)
    → HasAsked left failures first source given
    → Tells left source (Ok (Some packet)) next
    → (SeesEnd left source → SeesEnd left next)
    → IsUnreadAfter left source next
    → failures (reader_of next) ≡ failures (reader_of source)
    → HasAsked left failures first next (given ++ messages_in packet)
asked_more left failures first source next given packet asked t end unread count = record {
  read = asked.read ++ t.more;
  consumed = consumes_then (left (reader_of first)) (left (reader_of source)) (left (reader_of next)) asked.read t.more asked.consumed t.consumed;
  told = t.told asked.read given asked.told;
  end = end asked.end;
  unread = unread_after left source next asked.end unread;
  count = count ∙ asked.count;
}

-- the end of the stream
asked_all : {R : Type 0} (left : R → Option (List ℕ)) (failures : R → ℕ) (first source next : Source R) (given : List Message)
    → HasAsked left failures first source given
    → Tells left source (Ok None) next
    → IsUnreadAfter left source next
    → failures (reader_of next) ≡ failures (reader_of source)
    → HasAskedAll left failures first next given (Ok tt)
asked_all left failures first source next given asked t unread count = record {
  read = asked.read ++ t.more;
  consumed = consumes_then (left (reader_of first)) (left (reader_of source)) (left (reader_of next)) asked.read t.more asked.consumed t.consumed;
  sound = given_is_sound source asked.read given asked.told;
  told = λ rest may.
      let still = may_give left failures first next (Ok tt) rest (unread_after left source next asked.end unread)
      (λ failed. absurd (no_fault tt ReadFailed failed.0)) may in
      (t.told asked.read given asked.told).1 rest still;
  count = λ not. count ∙ asked.count;
  read_failed = λ e. absurd cc;
  after_failed_read = λ e. absurd cc;
}

-- a fault of the input
asked_until : {R : Type 0} (left : R → Option (List ℕ)) (failures : R → ℕ) (first source next : Source R) (given : List Message) (fault : InputFault)
    → HasAsked left failures first source given
    → Tells left source (Err fault) next
    → IsUnreadAfter left source next
    → (fault ≡ ReadFailed → (stopped_by source ≡ Some ReadFailed) ⊎ ((rest : List ℕ) → MayGive next rest))
    → (fault ≡ ReadFailed → (stopped_by source ≡ Some ReadFailed) ⊎ Failed (failures (reader_of source)) (failures (reader_of next)))
    → ((fault_answer fault ≡ Err ReadFailed → ⊥) → failures (reader_of next) ≡ failures (reader_of source))
    → HasAskedAll left failures first next given (Err fault)
asked_until left failures first source next given fault asked t unread anything failed count = record {
  read = asked.read ++ t.more;
  consumed = consumes_then (left (reader_of first)) (left (reader_of source)) (left (reader_of next)) asked.read t.more asked.consumed t.consumed;
  sound = given_is_sound source asked.read given asked.told;
  told = λ rest may.
      let still = may_give left failures first next (Err fault) rest (unread_after left source next asked.end unread)
      (λ is. open_in_call source next asked.read given asked.told (anything (read_failure fault _ refl is.0))) may in
      t.told asked.read given asked.told rest still;
  count = λ not. count (λ e. not (ap Err (read_failure fault _ refl e))) ∙ asked.count;
  read_failed = λ e. failed_in_call source asked.read given (failures (reader_of source)) (failures (reader_of next)) (failures (reader_of first)) asked.told
      asked.count (failed cc);
  after_failed_read =
      λ e rest. t.told asked.read given asked.told rest (open_in_call source next asked.read given asked.told (anything (read_failure fault _ refl e)) rest);
}

-- ---- the ingress

module _ {R : Type 0} {left : R → Option (List ℕ)} {failures : R → ℕ} {first : Source R} {before : List Message} {f : Ingress R} where
  -- where the source hasn't ended, all that it gave was sent
  sent_so_far : f.input ≡ None → (sending : IsIngress left failures first before f) → sent f.output ≡ before ++ sending.given
  sent_so_far input sending =
      sending.passed ∙ ap (λ i. before ++ (sending.given ++ closing_messages i)) input ∙ ap (λ g. before ++ g) (append-nil sending.given)

  -- the source hasn't ended
  asked_of : f.input ≡ None → (sending : IsIngress left failures first before f) → HasAsked left failures first f.source sending.given
  asked_of input sending = subst (HasAskedBy left failures first f.source sending.given) input sending.asked

  -- a packet was given, and sent
  pub feeds_packet : {next : Source R} {packet : Packet} (output : Sender) {images : ℕ} → f.input ≡ None → sent output ≡ sent f.output ++ messages_in packet
      → Tells left f.source (Ok (Some packet)) next → (SeesEnd left f.source → SeesEnd left next) → IsUnreadAfter left f.source next
      → failures (reader_of next) ≡ failures (reader_of f.source) → images ≡ images_in f.images (messages_in packet) → IsIngress left failures first before f
      → IsIngress left failures first before (record f { source = next; output = output; images = images })
  feeds_packet {next} {packet} output input added t end unread count counted sending =
      let all : List Message = sending.given ++ messages_in packet in
      let asked : HasAsked left failures first next all =
      asked_more left failures first f.source next sending.given packet (asked_of input sending) t end unread count in
      record {
        given = all;
        asked = subst (HasAskedBy left failures first next all) (sym input) asked;
        passed = added ∙ ap (λ s. s ++ messages_in packet) (sent_so_far input sending)
            ∙ append_assoc before sending.given (messages_in packet)
            ∙ ap (λ g. before ++ g) (sym (append-nil all)) ∙ ap (λ i. before ++ (all ++ closing_messages i)) (sym input);
        counted = counted ∙ ap (λ (n : ℕ). images_in n (messages_in packet)) sending.counted ∙ sym (images_in-append 0 sending.given (messages_in packet));
      }

-- the stream has ended
pub feeds_all : {R : Type 0} (left : R → Option (List ℕ)) (failures : R → ℕ) (first : Source R) (before : List Message) (f : Ingress R) (next : Source R)
    → f.input ≡ None
    → Tells left f.source (Ok None) next
    → IsUnreadAfter left f.source next
    → failures (reader_of next) ≡ failures (reader_of f.source)
    → IsIngress left failures first before f
    → IsIngress left failures first before (record f { source = next; input = Some (Ok tt) })
feeds_all left failures first before f next input t unread count sending = record {
  given = sending.given;
  asked = asked_all left failures first f.source next sending.given (asked_of input sending) t unread count;
  passed = sending.passed ∙ ap (λ i. before ++ (sending.given ++ closing_messages i)) input;
  counted = sending.counted;
}

-- the input had a fault, and Stop was sent
pub feeds_until : {R : Type 0} (left : R → Option (List ℕ)) (failures : R → ℕ) (first : Source R) (before : List Message) (f : Ingress R) (next : Source R)
    (fault : InputFault) (output : Sender)
    → f.input ≡ None
    → sent output ≡ sent f.output ++ Stop ∷ []
    → Tells left f.source (Err fault) next
    → IsUnreadAfter left f.source next
    → (fault ≡ ReadFailed → (stopped_by f.source ≡ Some ReadFailed) ⊎ ((rest : List ℕ) → MayGive next rest))
    → (fault ≡ ReadFailed → (stopped_by f.source ≡ Some ReadFailed) ⊎ Failed (failures (reader_of f.source)) (failures (reader_of next)))
    → ((fault_answer fault ≡ Err ReadFailed → ⊥) → failures (reader_of next) ≡ failures (reader_of f.source))
    → IsIngress left failures first before f
    → IsIngress left failures first before (record f { source = next; output = output; input = Some (Err fault) })
feeds_until left failures first before f next fault output input added t unread anything failed count sending = record {
  given = sending.given;
  asked = asked_until left failures first f.source next sending.given fault (asked_of input sending) t unread anything failed
      count;
  passed = added ∙ ap (λ s. s ++ Stop ∷ []) (sent_so_far input sending) ∙ append_assoc before sending.given (Stop ∷ []);
  counted = sending.counted;
}
