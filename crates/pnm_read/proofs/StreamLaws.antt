-- What a run over a source rests on: what a reader still has may come, the messages that a source gave are a prefix of
-- what is said, each image that begins in it has rows, and each head in it keeps the rules of heads.
use Rattle.pnm_read.proofs.Words.{is_plain_form, ◌≡◌, ℕ, zero, suc, ◌<◌, Bool, true, false, List, [], ◌∷◌, ◌++◌, length, Option, Some, None, Result, Ok, Err}
use Rattle.pnm_read.proofs.Words.{inl, inr, refl, ap, ◌∙◌, AllByRecursion, IsAtEnd, Message, Begin, Row, ImageEnd, StreamEnd, HeadValue, IsPrefixOf, IsMessage}
use Rattle.pnm_read.proofs.Words.{Shape, InputFault, Format, Source, State, Awaits, Ended, Failed, IsOutsideFault, state_due, state_fault, Said, row_at}
use Rattle.pnm_read.proofs.Words.{format_at, head_at, head_said, format_said, said_of, fault_of, reader_of, stopped_by, MayGiveMore}
use Rattle.pnm_read.specs.Said.{rows_said, image_said, later_said_in, later_said, text_said}
use Rattle.pnm_read.proofs.EndSaid.{end_said}
use Rattle.pnm_read.specs.Sources.{due, MayGive, SeesEnd, HasGiven}
use Rattle.pnm_read.proofs.FaultLaws.{fault_is_of_text}
use Rattle.pnm_read.proofs.ReadHeaderLaws.{read_header_is_spelled, spelled_head}
use Rattle.pnm_read.proofs.RowsInTurn.{said_from}
use Rattle.pnm_read.proofs.SaidLaws.{read_head_is_header}
use Rattle.pnm_read.proofs.GivenLaws.{messages_after, fault_after}

-- ---- what may come

at_end : (known : Option (List ℕ)) {rest : List ℕ} → known ≡ Some rest → IsAtEnd known → rest ≡ []
at_end None e end = absurd cc
at_end (Some xs) e end = cc

-- what the reader still has may come
pub rest_may_come : {R : Type 0} (left : R → Option (List ℕ)) (s : Source R) (rest : List ℕ) → SeesEnd left s → left (reader_of s) ≡ Some rest → MayGive s rest
unfolding SeesEnd MayGive
rest_may_come left s rest end e ended = at_end (left (reader_of s)) e (end ended)

-- while the reader has a byte left, any bytes may come: its end wasn't seen
pub any_may_come : {R : Type 0} (left : R → Option (List ℕ)) (s : Source R) → SeesEnd left s → MayGiveMore left s
unfolding SeesEnd MayGive
any_may_come left s end byte more e rest ended = let none : byte ∷ more ≡ [] = at_end (left (reader_of s)) e (end ended) in absurd cc

-- nothing may come
pub nothing_may_come : {R : Type 0} (s : Source R) → MayGive s []
unfolding MayGive
nothing_may_come s ended = refl

-- ---- what was given

-- what was given is a prefix of what is said
pub given_is_prefix : {R : Type 0} (s : Source R) (read : List ℕ) (given : List Message) (rest : List ℕ) → HasGiven s read given → MayGive s rest
    → IsPrefixOf given (said_of (read ++ rest))
unfolding HasGiven
given_is_prefix s read given rest h may =
    ((due s rest).messages, ap (λ (text_said : Said). text_said.messages) (h rest may) ∙ messages_after given (due s rest))

-- after a fault, this fault is still to be said
stopped_due : (state : State) {fault : InputFault} (text : List ℕ) → state_fault state ≡ Some fault → (state_due state text).fault ≡ Some fault
stopped_due (Awaits awaited) text e = absurd cc
stopped_due Ended text e = absurd cc
stopped_due (Failed other) text e = e

pub no_text_fault : (text : List ℕ) (fault : InputFault) → fault_of text ≡ Some fault → IsOutsideFault fault → ⊥
no_text_fault text fault e (inl read) = (fault_is_of_text text).0 (e ∙ ap (λ (f : InputFault). Some f) read)
no_text_fault text fault e (inr memory) = (fault_is_of_text text).1 (e ∙ ap (λ (f : InputFault). Some f) memory)

-- a source that still tells what is said hasn't stopped with a fault from outside
pub not_stopped : {R : Type 0} (s : Source R) (read : List ℕ) (given : List Message) (fault : InputFault) → HasGiven s read given → stopped_by s ≡ Some fault
    → IsOutsideFault fault → ⊥
unfolding HasGiven due
not_stopped s read given fault h stopped outside =
    no_text_fault (read ++ []) fault (ap (λ (text_said : Said). text_said.fault) (h [] (nothing_may_come s)) ∙ fault_after given (due s [])
    ∙ stopped_due s.state _ stopped) outside

-- ---- what holds of each message that is said

-- a claim of messages that holds of each head that is read, and of each message that isn't a head
pub record HoldsOfRead (Claim : Message → Type 0) : Type 0 where
  pub head : (is_first : Bool) (text : List ℕ) (found : Format × List ℕ) (head : HeadValue × List ℕ) → format_at is_first text ≡ Ok found
      → head_at found.0 found.1 ≡ Ok head → Claim (Begin head.0)
  pub row : (row : List ℕ) → Claim (Row row)
  pub image_end : Claim ImageEnd
  pub stream_end : Claim StreamEnd

-- the claim holds of what is said after a raw image
abbrev HoldsOf : (Message → Type 0) → (List ℕ → Said) → Type 0
HoldsOf Claim later = (text : List ℕ) → AllByRecursion Claim (later text).messages

module _ {Claim : Message → Type 0} (h : HoldsOfRead Claim) (later : List ℕ → Said) where
  holds_of_end : (is_plain : Bool) (text : List ℕ) → HoldsOf Claim later → AllByRecursion Claim (end_said later is_plain text).messages
  holds_of_end true text holds = (h.stream_end, tt)
  holds_of_end false text holds = holds text

  holds_of_row : (format : Format) (s : Shape) (more : ℕ) (r : Result (List ℕ × List ℕ) InputFault)
      → ((text : List ℕ) → AllByRecursion Claim (rows_said later format s more text).messages)
      → AllByRecursion Claim (said_from later format s more r).messages
  holds_of_row format s more (Err fault) others = tt
  holds_of_row format s more (Ok found) others = (h.row found.0, others found.1)

  holds_of_rows : (format : Format) (s : Shape) (more : ℕ) (text : List ℕ) → HoldsOf Claim later
      → AllByRecursion Claim (rows_said later format s more text).messages
  unfolding rows_said
  holds_of_rows format s zero text holds = (h.image_end, holds_of_end (is_plain_form format.form) text holds)
  holds_of_rows format s (suc more) text holds = holds_of_row format s more (row_at format s more text) (λ rest. holds_of_rows format s more rest holds)

  holds_of_head : (format : Format) (r : Result (HeadValue × List ℕ) InputFault) → HoldsOf Claim later
      → ((found : HeadValue × List ℕ) → r ≡ Ok found → Claim (Begin found.0)) → AllByRecursion Claim (head_said later format r).messages
  holds_of_head format (Err fault) holds head = tt
  holds_of_head format (Ok found) holds head = (head found refl, holds_of_rows format found.0.shape found.0.shape.height found.1 holds)

  holds_of_format : (is_first : Bool) (text : List ℕ) (r : Result (Format × List ℕ) InputFault) → HoldsOf Claim later → format_at is_first text ≡ r
      → AllByRecursion Claim (format_said later r).messages
  holds_of_format is_first text (Err fault) holds e = tt
  holds_of_format is_first text (Ok found) holds e = holds_of_head found.0 (head_at found.0 found.1) holds (λ head read. h.head is_first text found head e read)

  holds_of_image : (is_first : Bool) (text : List ℕ) → HoldsOf Claim later → AllByRecursion Claim (image_said later is_first text).messages
  unfolding image_said
  holds_of_image is_first text holds = holds_of_format is_first text (format_at is_first text) holds refl

holds_of_later_in : {Claim : Message → Type 0} (h : HoldsOfRead Claim) (most : ℕ) → HoldsOf Claim (later_said_in most)
unfolding later_said_in
holds_of_later_in h zero [] = (h.stream_end, tt)
holds_of_later_in h zero (b ∷ text) = (h.stream_end, tt)
holds_of_later_in h (suc most) [] = (h.stream_end, tt)
holds_of_later_in h (suc most) (b ∷ text) = holds_of_image h (later_said_in most) false (b ∷ text) (holds_of_later_in h most)

holds_of_later : {Claim : Message → Type 0} (h : HoldsOfRead Claim) → HoldsOf Claim later_said
unfolding later_said
holds_of_later h text = holds_of_later_in h (length text) text

pub holds_of_said : (Claim : Message → Type 0) (h : HoldsOfRead Claim) (text : List ℕ) → AllByRecursion Claim (said_of text)
unfolding text_said
holds_of_said Claim h text = holds_of_image h later_said true text (holds_of_later h)

-- ---- heads that are said

-- an image that begins has rows
pub read_head_has_rows : (is_first : Bool) (text : List ℕ) (found : Format × List ℕ) (head : HeadValue × List ℕ) → format_at is_first text ≡ Ok found
    → head_at found.0 found.1 ≡ Ok head → 0 < head.0.shape.height
read_head_has_rows is_first text found head e h =
    let s = read_header_is_spelled is_first text found.1 head.1 found.0 head.0 e h in
    (spelled_head s.0 s.2).rows

-- what is said are messages: each head keeps the rules of heads
pub said_are_messages : (text : List ℕ) → AllByRecursion IsMessage (said_of text)
said_are_messages text = holds_of_said IsMessage (record { head = read_head_is_header; row = λ row. tt; image_end = tt; stream_end = tt }) text
