-- A source over the bytes of a text, after which its reader fails: what it says of each text that begins with them.
use Rattle.pnm_read.proofs.Words.{◌≡◌, inl, inr, ℕ, Bool, true, List, [], ◌∷◌, ◌++◌, Option, Some, None, Result, Ok, Err, refl, sym, ap, ◌∙◌, append_assoc}
use Rattle.pnm_read.proofs.Words.{IfOk, Consumes, append_cancel_right, Message, Packet, messages_in, InputFault, Source, IsOutsideFault, said_of, fault_of}
use Rattle.pnm_read.proofs.Words.{reader_of, MayGive, MayGiveMore, SeesEnd, HasGiven, Tells, OpenReader, IsDecided}
use Rattle.pnm_read.proofs.Consumed.{consumes_then}

-- what the reader tells of what is left
abbrev pub left_of : OpenReader → Option (List ℕ)
left_of r = Some (r.rest.now ++ 0 ∷ [])

-- some bytes of the text were read, and some messages given
pub record Reading (text : List ℕ) (s : Source OpenReader) : Type 0 where
  pub read : List ℕ
  pub given : List Message
  pub consumed : Consumes (Some (text ++ 0 ∷ [])) (left_of (reader_of s)) read
  pub has_given : HasGiven s read given
  pub end : SeesEnd left_of s

-- a packet was given
pub reading_more : (text : List ℕ) (old new : Source OpenReader) (packet : Packet) → Reading text old → Tells left_of old (Ok (Some packet)) new
    → (SeesEnd left_of old → SeesEnd left_of new) → Reading text new
reading_more text old new packet r tells end = record {
  read = r.read ++ tells.more;
  given = r.given ++ messages_in packet;
  consumed = consumes_then (Some (text ++ 0 ∷ [])) (left_of (reader_of old)) (left_of (reader_of new)) r.read tells.more r.consumed tells.consumed;
  has_given = tells.told r.read r.given r.has_given;
  end = end r.end;
}

-- a byte is always left
some_left : (bytes : List ℕ) → (byte : ℕ) × (more : List ℕ) × (Some (bytes ++ 0 ∷ []) ≡ Some (byte ∷ more))
some_left [] = (0, [], refl)
some_left (b ∷ bytes) = (b, bytes ++ 0 ∷ [], refl)

-- so anything may come
all_may_come : (s : Source OpenReader) → MayGiveMore left_of s → (rest : List ℕ) → MayGive s rest
all_may_come s more = let found = some_left (reader_of s).rest.now in more found.0 found.1 found.2

-- what is left of the text after what was read
rest_is : (text read rest : List ℕ) → text ++ 0 ∷ [] ≡ read ++ (rest ++ 0 ∷ []) → text ≡ read ++ rest
rest_is text read rest e = append_cancel_right text (read ++ rest) (0 ∷ []) (e ∙ sym (append_assoc read rest (0 ∷ [])))

-- what is said of all that may follow what was read is said of the text and of all that begins with it
decided_by : {text : List ℕ} (read rest : List ℕ) (given : List Message) (fault : Option InputFault) → text ≡ read ++ rest
    → ((more : List ℕ) → (said_of (read ++ more) ≡ given) × (fault_of (read ++ more) ≡ fault)) → IsDecided text
decided_by {text} read rest given fault whole said more =
    let longer : text ++ more ≡ read ++ (rest ++ more) = ap (λ (t : List ℕ). t ++ more) whole ∙ append_assoc read rest more in
    let here = said rest in
    let there = said (rest ++ more) in (
      ap said_of longer ∙ there.0 ∙ sym here.0 ∙ ap said_of (sym whole),
      ap fault_of longer ∙ there.1 ∙ sym here.1 ∙ ap fault_of (sym whole),
    )

-- the stream has ended
pub ended_is_decided : {text : List ℕ} {old new : Source OpenReader} → Reading text old → Tells left_of old (Ok None) new
    → (SeesEnd left_of old → MayGiveMore left_of new) → IsDecided text
ended_is_decided {text} {old} {new} r tells unread =
    let read : List ℕ = r.read ++ tells.more in
    let whole = rest_is text read (reader_of new).rest.now
    (consumes_then (Some (text ++ 0 ∷ [])) (left_of (reader_of old)) (left_of (reader_of new)) r.read tells.more r.consumed tells.consumed) in
    let told = tells.told r.read r.given r.has_given in
    decided_by read (reader_of new).rest.now r.given None whole (λ more. told.1 more (all_may_come new (unread r.end) more))

-- the text has a fault of its own
pub fault_is_decided : {text : List ℕ} {old new : Source OpenReader} {fault : InputFault} → Reading text old → Tells left_of old (Err fault) new
    → (SeesEnd left_of old → MayGiveMore left_of new) → (IsOutsideFault fault → ⊥) → IsDecided text
fault_is_decided {text} {old} {new} {fault} r tells unread own =
    let read : List ℕ = r.read ++ tells.more in
    let whole = rest_is text read (reader_of new).rest.now
    (consumes_then (Some (text ++ 0 ∷ [])) (left_of (reader_of old)) (left_of (reader_of new)) r.read tells.more r.consumed tells.consumed) in
    let told = tells.told r.read r.given r.has_given in
    decided_by read (reader_of new).rest.now r.given (Some fault) whole (λ more. elim (told more (all_may_come new (unread r.end) more)) [
      | inl said ↦ said
      | inr outside ↦ absurd (own outside.0)
    ])

-- as it is answered
pub fault_told : {text : List ℕ} {old new : Source OpenReader} {fault : InputFault} (result : Result Bool InputFault) → Reading text old
    → Tells left_of old (Err fault) new → (SeesEnd left_of old → MayGiveMore left_of new) → (result ≡ Ok true → IsOutsideFault fault → ⊥)
    → IfOk result (λ told. told ≡ true → IsDecided text)
fault_told (Err k) r tells unread own = tt
fault_told (Ok told) r tells unread own = λ is. fault_is_decided r tells unread (own (ap Ok is))
