-- The answers of a source.
use Rattle.pnm_read.proofs.Words.{◌≡◌, ℕ, ◌⊎◌, Bool, false, true, List, [], ◌++◌, length, ◌≤◌, Option, Some, None, Result, Ok, Err, inl, inr, append-nil}
use Rattle.pnm_read.proofs.Words.{append_assoc, refl, sym, ap, subst, ◌∙◌, arith, Consumes, Message, Packet, Part, EndsStream, Stops, messages_in, IsPrefixOf}
use Rattle.pnm_read.proofs.Words.{InputFault, ReadFailed, BufferedReader, Awaited, FirstImage, State, Awaits, Ended, Failed, Source, Said, text_said, said_of}
use Rattle.pnm_read.proofs.Words.{fault_of, after_messages, says_nothing, says_fault, held_of, IsOutsideFault, ReadCall, state_due, state_fault, is_ended}
use Rattle.pnm_read.proofs.Words.{Gives, MayBeGiven, IsFreshSource, Tells, AnswerTells}
use Rattle.pnm_read.specs.Sources.{HasGiven, due, MayGive, SeesEnd}
use Rattle.pnm_read.proofs.Consumed.{consumes_nothing}
use Rattle.pnm_read.proofs.GivenLaws.{messages_after, fault_after, after-append}

ended_not : {A : Type 0} {ended : Bool} → ended ≡ false → ended ≡ true → A
ended_not f t = absurd cc

pub fresh_source : {R : Type 0} (reader : R) (s : Source R) → s.input.reader ≡ reader → held_of s.input ≡ [] → s.input.ended ≡ false
    → s.state ≡ Awaits FirstImage → IsFreshSource reader s
unfolding due MayGive SeesEnd HasGiven
fresh_source reader s r held ended state = record {
  reader_is = r;
  nothing_given = λ rest c. sym (rw (state, held) refl);
  unread = λ text e. ended_not ended e;
  end = λ left e. ended_not ended e;
  going = ap state_fault state;
}

-- an answer is the next of what was to be said, and leaves the rest; a fault is what was to be said, or comes
-- from outside
abbrev SaysAnswer : Said → Result (Option Packet) InputFault → Said → Type 0
SaysAnswer old (Ok (Some packet)) new = old ≡ after_messages (messages_in packet) new
SaysAnswer old (Ok None) new = (old ≡ says_nothing) × (new ≡ says_nothing)
SaysAnswer old (Err fault) new = (old ≡ says_fault fault) ⊎ IsOutsideFault fault

-- a call read some bytes; whatever the reader gives after them, the answer is the next of what was to be said
record TellsNext {R : Type 0} (left : R → Option (List ℕ)) (old : Source R) (result : Result (Option Packet) InputFault) (new : Source R) : Type 0 where
  pub read : List ℕ
  pub consumed : Consumes (left old.input.reader) (left new.input.reader) read
  pub comes : (rest : List ℕ) → MayGive new rest → MayGive old (read ++ rest)
  pub says : (rest : List ℕ) → MayGive new rest → SaysAnswer (due old (read ++ rest)) result (due new rest)

-- all that is said, where this ends it
all_said : (given : List Message) (text : List ℕ) (s end : Said) → text_said text ≡ after_messages given s → s ≡ end → end.messages ≡ []
    → (said_of text ≡ given) × (fault_of text ≡ end.fault)
all_said given text s end e f none = (
  ap (λ (s : Said). s.messages) e ∙ messages_after given s ∙ ap (λ (s : Said). given ++ s.messages) f ∙ ap (λ (l : List Message). given ++ l) none
      ∙ append-nil given,
  ap (λ (s : Said). s.fault) e ∙ fault_after given s ∙ ap (λ (s : Said). s.fault) f,
)

-- what was given is a prefix of what is said
prefix_said : (given : List Message) (text : List ℕ) (s : Said) → text_said text ≡ after_messages given s → IsPrefixOf given (said_of text)
prefix_said given text s e = (s.messages, ap (λ (s : Said). s.messages) e ∙ messages_after given s)

-- the text, its first part read before a call, and the next in it
said_on : {R : Type 0} (old : Source R) (read more rest : List ℕ) (given : List Message) → HasGiven old read given → MayGive old (more ++ rest)
    → text_said ((read ++ more) ++ rest) ≡ after_messages given (due old (more ++ rest))
unfolding HasGiven
said_on old read more rest given h m = ap text_said (append_assoc read more rest) ∙ h (more ++ rest) m

tells_packet : {R : Type 0} {left : R → Option (List ℕ)} {old new : Source R} {packet : Packet} (t : TellsNext left old (Ok (Some packet)) new)
    (read : List ℕ) (given : List Message) → HasGiven old read given → HasGiven new (read ++ t.read) (given ++ messages_in packet)
unfolding HasGiven
tells_packet {old} {new} {packet} t read given h rest c =
    said_on old read t.read rest given h (t.comes rest c) ∙ ap (after_messages given) (t.says rest c)
    ∙ sym (after-append given (messages_in packet) (due new rest))

tells_end : {R : Type 0} {left : R → Option (List ℕ)} (old new : Source R) (t : TellsNext left old (Ok None) new) (read : List ℕ) (given : List Message)
    → HasGiven old read given → AnswerTells new (read ++ t.read) given (Ok None)
unfolding HasGiven
tells_end old new t read given h = (
  λ rest c. said_on old read t.read rest given h (t.comes rest c) ∙ ap (after_messages given) ((t.says rest c).0 ∙ sym (t.says rest c).1),
  λ rest c. all_said given ((read ++ t.read) ++ rest) (due old (t.read ++ rest)) says_nothing (said_on old read t.read rest given h (t.comes rest c))
      (t.says rest c).0 refl,
)

-- a fault after what was given
by_fault : (fault : InputFault) (given : List Message) (text : List ℕ) (s : Said) → text_said text ≡ after_messages given s → (s ≡ says_fault fault)
    ⊎ IsOutsideFault fault
    → ((said_of text ≡ given) × (fault_of text ≡ Some fault)) ⊎ (IsOutsideFault fault × IsPrefixOf given (said_of text))
by_fault fault given text s e (inl f) = inl (all_said given text s (says_fault fault) e f refl)
by_fault fault given text s e (inr o) = inr (o, prefix_said given text s e)

answer_tells : {R : Type 0} {left : R → Option (List ℕ)} {old new : Source R} (result : Result (Option Packet) InputFault)
    (t : TellsNext left old result new) (read : List ℕ) (given : List Message) → HasGiven old read given → AnswerTells new (read ++ t.read) given result
answer_tells (Ok (Some packet)) t read given h = tells_packet t read given h
answer_tells {old} {new} (Ok None) t read given h = tells_end old new t read given h
answer_tells {old} (Err fault) t read given h = λ rest c. by_fault fault given ((read ++ t.read) ++ rest) (due old (t.read ++ rest))
    (said_on old read t.read rest given h (t.comes rest c)) (t.says rest c)

told_so : {R : Type 0} {left : R → Option (List ℕ)} {old new : Source R} {result : Result (Option Packet) InputFault} → TellsNext left old result new
    → Tells left old result new
told_so {result} t = record { more = t.read; consumed = t.consumed; told = λ read given h. answer_tells result t read given h }

-- a packet was the next of what was to be said
pub tells_next : {R : Type 0} {left : R → Option (List ℕ)} {failures : R → ℕ} {same : R → R → Type 0} (old new : Source R) (awaited : Awaited)
    (packet : Packet) → old.state ≡ Awaits awaited
    → ReadCall left failures same old.input new.input (Ok packet) (Gives awaited (Ok packet) new.state) → Tells left old (Ok (Some packet)) new
unfolding due MayGive
tells_next old new awaited packet state t = told_so (record {
  read = t.read;
  consumed = t.consumed;
  comes = t.comes;
  says = λ rest c. ap (λ (g : State). state_due g (held_of old.input ++ (t.read ++ rest))) state ∙ (t.told rest c).0;
})

-- the answer was a fault
pub tells_fault : {R : Type 0} {left : R → Option (List ℕ)} {failures : R → ℕ} {same : R → R → Type 0} (old new : Source R) (awaited : Awaited)
    (state : State) (k : InputFault) → old.state ≡ Awaits awaited
    → ReadCall {A = Packet} left failures same old.input new.input (Err k) (Gives awaited (Err k) state) → Tells left old (Err k) new
unfolding due MayGive
tells_fault old new awaited state k is t = told_so (record {
  read = t.read;
  consumed = t.consumed;
  comes = t.comes;
  says = λ rest c. rw is (t.told rest c);
})

-- after the end of the stream it stays, and nothing is read
no_more : {R : Type 0} (left : R → Option (List ℕ)) (s : Source R) → s.state ≡ Ended → TellsNext left s (Ok None) s
unfolding due MayGive
no_more left s state = record {
  read = [];
  consumed = consumes_nothing (left s.input.reader);
  comes = λ rest c. c;
  says = λ rest c. (ap (λ (g : State). state_due g (held_of s.input ++ rest)) state, ap (λ (g : State). state_due g (held_of s.input ++ rest)) state);
}

pub tells_no_more : {R : Type 0} {left : R → Option (List ℕ)} {s : Source R} → s.state ≡ Ended → Tells left s (Ok None) s
tells_no_more {left} {s} state = told_so (no_more left s state)

-- after a fault it stays, and nothing is read
again : {R : Type 0} (left : R → Option (List ℕ)) (s : Source R) (k : InputFault) → s.state ≡ Failed k → TellsNext left s (Err k) s
unfolding due MayGive
again left s k state = record {
  read = [];
  consumed = consumes_nothing (left s.input.reader);
  comes = λ rest c. c;
  says = λ rest c. inl (ap (λ (g : State). state_due g (held_of s.input ++ rest)) state);
}

pub tells_again : {R : Type 0} {left : R → Option (List ℕ)} {s : Source R} {k : InputFault} → s.state ≡ Failed k → Tells left s (Err k) s
tells_again {left} {s} {k} state = told_so (again left s k state)

-- a packet stands for a message at least
pub some_messages : (packet : Packet) (state : State) → MayBeGiven packet state → 1 ≤ length (messages_in packet)
some_messages (Part part) state is = is
some_messages EndsStream state is = omega arith
some_messages Stops state is = absurd is

abbrev pub gives : Packet → Result (Option Packet) InputFault
gives packet = Ok (Some packet)

-- the state after the end of the stream
pub ended_after : (packet : Packet) (state : State) → MayBeGiven packet state → gives packet ≡ gives EndsStream
    → is_ended state ≡ true
ended_after packet state is e =
    let same : packet ≡ EndsStream = cc in
    subst (λ (p : Packet). MayBeGiven p state) same is

-- Stop isn't given
pub never_stop : (packet : Packet) (state : State) → MayBeGiven packet state → gives packet ≡ gives Stops → ⊥
never_stop packet state is e =
    let same : packet ≡ Stops = cc in
    subst (λ (p : Packet). MayBeGiven p state) same is

module _ {R : Type 0} {left : R → Option (List ℕ)} {failures : R → ℕ} {same : R → R → Type 0} where
  -- what a packet tells of the state after it
  pub state_told : {old new : BufferedReader R} (awaited : Awaited) {packet : Packet} (state : State) → ReadCall left failures same old new (Ok packet)
      (Gives awaited (Ok packet) state) → MayBeGiven packet state
  state_told awaited state t = (t.told [] (λ _. refl)).1

  -- the end was seen rightly
  pub end_stays : {A : Type 0} {o : List ℕ → List ℕ → Type 0} {result : Result A InputFault} (old new : Source R)
      → ReadCall left failures same old.input new.input result o → SeesEnd left old → SeesEnd left new
  unfolding SeesEnd
  end_stays old new t = t.end

  -- at a failed read the end wasn't seen
  pub not_at_end : {o : List ℕ → List ℕ → Type 0} (old new : Source R) {k : InputFault}
      → ReadCall {A = Packet} left failures same old.input new.input (Err k) o → k ≡ ReadFailed → (rest : List ℕ) → MayGive new rest
  unfolding MayGive
  not_at_end old new {k} t is rest ended = ended_not (t.read_failed (ap (λ (k : InputFault). Err k) is)).1 ended
