-- The messages that have passed from the source to the sink of a run, one after another.
use Rattle.pnm_serial.proofs.Words.{◌≡◌, ◌⊎◌, ℕ, ◌+◌, ◌-◌, ◌^◌, ◌≤◌, ◌<◌, Bool, List, [], ◌∷◌, ◌++◌, length, Option, Some, None, Result, Ok, Err, refl, sym, ap}
use Rattle.pnm_serial.proofs.Words.{subst, ◌∙◌, arith, inl, inr, Consumes, AllByRecursion, append-nil, length-append, Failed, Form, Message, Packet, IsPrefixOf}
use Rattle.pnm_serial.proofs.Words.{messages_in, InputFault, ReadFailed, Source, said_of, reader_of, stopped_by, MayGive, MayGiveMore, SeesEnd, HasGiven, Tells}
use Rattle.pnm_serial.proofs.Words.{IsUnread, consumes_nothing, consumes_then, no_fault, said_is_lawful, holds_of_said, read_head_has_rows, rest_may_come}
use Rattle.pnm_serial.proofs.Words.{nothing_may_come, given_is_prefix, not_stopped, said_are_messages, ToolFault, Tool, IsSound, AreSound, sound_prefix}
use Rattle.pnm_serial.proofs.Words.{FusedSink, FusedFilter, HasTaken, FeedsThrough, change, HasMostMessages, HasMore, IsReadFailure, MayFollowRead, HaveTaken}
use Rattle.pnm_serial.proofs.Words.{HasFed}

-- the bytes that may follow those that were read are ones that the source may still be given
pub may_give : {R : Type 0} (left : R → Option (List ℕ)) (failures : R → ℕ) (first next : Source R) (result : Result (Unit {0}) InputFault) (rest : List ℕ)
    → (HasMore (left (reader_of next)) → (rest : List ℕ) → MayGive next rest)
    → (IsReadFailure result (change left failures (reader_of first) (reader_of next)) → (rest : List ℕ) → MayGive next rest)
    → MayFollowRead result (change left failures (reader_of first) (reader_of next)) rest → MayGive next rest
may_give left failures first next result rest unread failure (inl none) = subst (MayGive next) (sym none) (nothing_may_come next)
may_give left failures first next result rest unread failure (inr (inl more)) = unread more rest
may_give left failures first next result rest unread failure (inr (inr failed)) = failure failed rest

-- a byte that is left
first_left : (left : Option (List ℕ)) → HasMore left → (byte : ℕ) × (more : List ℕ) × (left ≡ Some (byte ∷ more))
first_left None has = absurd has
first_left (Some []) has = absurd has
first_left (Some (byte ∷ more)) has = (byte, more, refl)

-- where a byte is left after a call, any bytes may still come
abbrev pub IsUnreadAfter : {R : Type 0} → (R → Option (List ℕ)) → Source R → Source R → Type 0
IsUnreadAfter left source next = SeesEnd left source → MayGiveMore left next

pub unread_after : {R : Type 0} (left : R → Option (List ℕ)) (source next : Source R) → SeesEnd left source → IsUnreadAfter left source next
    → HasMore (left (reader_of next)) → (rest : List ℕ) → MayGive next rest
unread_after left source next end unread has =
    let found = first_left (left (reader_of next)) has in
    unread end found.0 found.1 found.2

-- the rest of a text of which a part was read
pub rest_of : (old new : Option (List ℕ)) (read text : List ℕ) → Consumes old new read → old ≡ Some text → (rest : List ℕ) × (new ≡ Some rest)
    × (text ≡ read ++ rest)
rest_of None new read text c e = absurd cc
rest_of (Some xs) None read text c e = absurd c
rest_of (Some xs) (Some ys) read text c e = (ys, refl, cc)

pub read_failure : {A : Type 0} (fault : InputFault) (answer : Result A InputFault) → answer ≡ Err fault → answer ≡ Err ReadFailed → fault ≡ ReadFailed
read_failure fault answer is e = cc

-- a fault that a source answers
abbrev pub fault_answer : InputFault → Result (Option Packet) InputFault
fault_answer fault = Err fault

-- what is said of a text, and a prefix of it, are messages of images that have rows
said_is_sound : (text : List ℕ) → AllByRecursion IsSound (said_of text)
said_is_sound text = holds_of_said IsSound (record { head = read_head_has_rows; row = λ row. tt; image_end = tt; stream_end = tt }) text

pub said_are_sound : (text : List ℕ) → AreSound (said_of text)
said_are_sound text = record { lawful = said_is_lawful text; messages = said_are_messages text; sound = said_is_sound text }

pub given_is_sound : {R : Type 0} (s : Source R) (read : List ℕ) (given : List Message) → HasGiven s read given → AreSound given
given_is_sound s read given h =
    let prefix = given_is_prefix s read given [] h (nothing_may_come s) in
    sound_prefix given prefix.0 (subst AreSound prefix.1 (said_are_sound (read ++ [])))

-- so many messages have passed at least, and no fault of the input has come
pub record Going {R F W : Type 0} (left : R → Option (List ℕ)) (reader_failures : R → ℕ) (at : F → Tool → List Message → List Message → Type 0)
    (all_given : F → Bool) (stopped : F → Option ToolFault) (held : W → Option (List ℕ)) (writer_failures : W → ℕ) (first source : Source R)
    (old new : List (FusedFilter F)) (start now : FusedSink W) (count : ℕ) : Type 0 where
  pub read : List ℕ
  pub given : List Message
  pub consumed : Consumes (left (reader_of first)) (left (reader_of source)) read
  pub told : HasGiven source read given
  pub end : SeesEnd left source
  pub unread : HasMore (left (reader_of source)) → (rest : List ℕ) → MayGive source rest
  pub many : count ≤ length given
  pub sound : reader_failures (reader_of source) ≡ reader_failures (reader_of first)
  pub output : HaveTaken at all_given stopped held writer_failures given old new start now

-- before the first message
pub going_none : {R F W : Type 0} (left : R → Option (List ℕ)) (reader_failures : R → ℕ) (at : F → Tool → List Message → List Message → Type 0)
    (all_given : F → Bool) (stopped : F → Option ToolFault) (held : W → Option (List ℕ)) (writer_failures : W → ℕ) (source : Source R)
    (stages : List (FusedFilter F)) (d : FusedSink W) → IsUnread (reader_of source) source
    → Going left reader_failures at all_given stopped held writer_failures source source stages stages d d 0
going_none left reader_failures at all_given stopped held writer_failures source stages d unread = record {
  read = [];
  given = [];
  consumed = consumes_nothing (left (reader_of source));
  told = unread.nothing_given;
  end = unread.end left;
  unread = λ more. unread.unread;
  many = omega arith;
  sound = refl;
  output = record { out = []; stages = λ tools lawful is. is; taken = λ form start is. is };
}

-- more has passed
have_taken_more : {F W : Type 0} {at : F → Tool → List Message → List Message → Type 0} {all_given : F → Bool} {stopped : F → Option ToolFault}
    {held : W → Option (List ℕ)} {failures : W → ℕ} {given passed : List Message} {old now next : List (FusedFilter F)} {before d after : FusedSink W}
    → AreSound (given ++ passed) → HaveTaken at all_given stopped held failures given old now before d
    → FeedsThrough at all_given stopped held failures now passed next d after
    → HaveTaken at all_given stopped held failures (given ++ passed) old next before after
have_taken_more {given} sound was passes = record {
  out = was.out ++ passes.more;
  stages = λ tools lawful is. passes.stages tools given was.out lawful sound (was.stages tools lawful is);
  taken = λ form start is. passes.taken form start was.out (was.taken form start is);
}

-- a packet more has passed
pub going_more : {R F W : Type 0} {left : R → Option (List ℕ)} {reader_failures : R → ℕ} {at : F → Tool → List Message → List Message → Type 0}
    {all_given : F → Bool} {stopped : F → Option ToolFault} {held : W → Option (List ℕ)} {writer_failures : W → ℕ} {first source next : Source R}
    {old now after : List (FusedFilter F)} {start d new : FusedSink W} {count : ℕ} {packet : Packet}
    → (going : Going left reader_failures at all_given stopped held writer_failures first source old now start d count)
    → Tells left source (Ok (Some packet)) next
    → 1 ≤ length (messages_in packet)
    → (SeesEnd left source → SeesEnd left next)
    → IsUnreadAfter left source next
    → reader_failures (reader_of next) ≡ reader_failures (reader_of source)
    → FeedsThrough at all_given stopped held writer_failures now (messages_in packet) after d new
    → Going left reader_failures at all_given stopped held writer_failures first next old after start new (count + 1)
going_more {left} {first} {source} {next} {packet} going t some end unread sound passes = record {
  read = going.read ++ t.more;
  given = going.given ++ messages_in packet;
  consumed = consumes_then (left (reader_of first)) (left (reader_of source)) (left (reader_of next)) going.read t.more going.consumed t.consumed;
  told = t.told going.read going.given going.told;
  end = end going.end;
  unread = unread_after left source next going.end unread;
  many = omega (arith, going.many, some, length-append going.given (messages_in packet));
  sound = sound ∙ going.sound;
  output = have_taken_more (given_is_sound next (going.read ++ t.more) (going.given ++ messages_in packet) (t.told going.read going.given going.told))
      going.output passes;
}

-- what has passed stays so where the sink has taken what it had
pub going_flushed : {R F W : Type 0} {left : R → Option (List ℕ)} {reader_failures : R → ℕ} {at : F → Tool → List Message → List Message → Type 0}
    {all_given : F → Bool} {stopped : F → Option ToolFault} {held : W → Option (List ℕ)} {writer_failures : W → ℕ} {first source : Source R}
    {old now : List (FusedFilter F)} {start d new : FusedSink W} {count : ℕ}
    → Going left reader_failures at all_given stopped held writer_failures first source old now start d count
    → ((form : Form) (begun : W) (messages : List Message) → HasTaken held writer_failures form begun messages d
    → HasTaken held writer_failures form begun messages new)
    → Going left reader_failures at all_given stopped held writer_failures first source old now start new count
going_flushed going flushes = record {
  read = going.read;
  given = going.given;
  consumed = going.consumed;
  told = going.told;
  end = going.end;
  unread = going.unread;
  many = going.many;
  sound = going.sound;
  output = record {
    out = going.output.out;
    stages = going.output.stages;
    taken = λ form begun was. flushes form begun going.output.out (going.output.taken form begun was);
  };
}

-- the end of the stream
pub fed_all : {R F W : Type 0} {left : R → Option (List ℕ)} {reader_failures : R → ℕ} {at : F → Tool → List Message → List Message → Type 0}
    {all_given : F → Bool} {stopped : F → Option ToolFault} {held : W → Option (List ℕ)} {writer_failures : W → ℕ} {first source next : Source R}
    {old new : List (FusedFilter F)} {start now : FusedSink W} {count : ℕ}
    → Going left reader_failures at all_given stopped held writer_failures first source old new start now count
    → Tells left source (Ok None) next
    → (SeesEnd left source → SeesEnd left next)
    → IsUnreadAfter left source next
    → reader_failures (reader_of next) ≡ reader_failures (reader_of source)
    → HasFed left reader_failures at all_given stopped held writer_failures first next (Ok tt) old new start now
fed_all {left} {reader_failures} {first} {source} {next} going t end unread sound = record {
  read = going.read ++ t.more;
  consumed = consumes_then (left (reader_of first)) (left (reader_of source)) (left (reader_of next)) going.read t.more going.consumed t.consumed;
  given = going.given;
  sound = given_is_sound source going.read going.given going.told;
  told = λ rest may.
      let still = may_give left reader_failures first next (Ok tt) rest (unread_after left source next going.end unread)
      (λ failed. absurd (no_fault tt ReadFailed failed.0)) may in
      (t.told going.read going.given going.told).1 rest still;
  count = λ not. sound ∙ going.sound;
  read_failed = λ e. absurd cc;
  output = going.output;
}

-- after a failed read anything may come
pub open_in_call : {R : Type 0} (s next : Source R) (read : List ℕ) (given : List Message) → HasGiven s read given → (stopped_by s ≡ Some ReadFailed)
    ⊎ ((rest : List ℕ) → MayGive next rest) → (rest : List ℕ) → MayGive next rest
open_in_call s next read given h (inl stopped) = absurd (not_stopped s read given ReadFailed h stopped (inl refl))
open_in_call s next read given h (inr anything) = anything

-- a source that hadn't stopped failed in the call
pub failed_in_call : {R : Type 0} (s : Source R) (read : List ℕ) (given : List Message) (old new first : ℕ) → HasGiven s read given → old ≡ first
    → (stopped_by s ≡ Some ReadFailed) ⊎ Failed old new → Failed first new
failed_in_call s read given old new first h e (inl stopped) = absurd (not_stopped s read given ReadFailed h stopped (inl refl))
failed_in_call s read given old new first h e (inr failed) = subst (λ (k : ℕ). Failed k new) e failed

-- a fault of the input
pub fed_until : {R F W : Type 0} {left : R → Option (List ℕ)} {reader_failures : R → ℕ} {at : F → Tool → List Message → List Message → Type 0}
    {all_given : F → Bool} {stopped : F → Option ToolFault} {held : W → Option (List ℕ)} {writer_failures : W → ℕ} {first source next : Source R}
    {old new : List (FusedFilter F)} {start now : FusedSink W} {messages : ℕ} {fault : InputFault}
    → Going left reader_failures at all_given stopped held writer_failures first source old new start now messages
    → Tells left source (Err fault) next
    → (SeesEnd left source → SeesEnd left next)
    → IsUnreadAfter left source next
    → (fault ≡ ReadFailed → (stopped_by source ≡ Some ReadFailed) ⊎ ((rest : List ℕ) → MayGive next rest))
    → (fault ≡ ReadFailed → (stopped_by source ≡ Some ReadFailed) ⊎ Failed (reader_failures (reader_of source)) (reader_failures (reader_of next)))
    → ((fault_answer fault ≡ Err ReadFailed → ⊥) → reader_failures (reader_of next) ≡ reader_failures (reader_of source))
    → HasFed left reader_failures at all_given stopped held writer_failures first next (Err fault) old new start now
fed_until {left} {reader_failures} {first} {source} {next} {fault} going t end unread anything failed count = record {
  read = going.read ++ t.more;
  consumed = consumes_then (left (reader_of first)) (left (reader_of source)) (left (reader_of next)) going.read t.more going.consumed t.consumed;
  given = going.given;
  sound = given_is_sound source going.read going.given going.told;
  told = λ rest may.
      let still = may_give left reader_failures first next (Err fault) rest (unread_after left source next going.end unread)
      (λ is. open_in_call source next going.read going.given going.told (anything (read_failure fault _ refl is.0))) may in
      t.told going.read going.given going.told rest still;
  count = λ not. count (λ e. not (ap Err (read_failure fault _ refl e))) ∙ going.sound;
  read_failed =
      λ e. inl (failed_in_call source going.read going.given (reader_failures (reader_of source)) (reader_failures (reader_of next))
      (reader_failures (reader_of first)) going.told going.sound (failed cc));
  output = going.output;
}

-- a prefix is at most as long
prefix_is_shorter : (given whole : List Message) (count : ℕ) → count ≤ length given → IsPrefixOf given whole → count ≤ length whole
prefix_is_shorter given whole count many prefix = omega (arith, length-append given prefix.0, ap (λ (l : List Message). length l) prefix.1)

-- the reader hasn't failed where its count is the same and as many messages came as a run takes
not_failed : {old new : ℕ} {Outlasts : Type 0} → new ≡ old → Outlasts → (old < new) ⊎ (Outlasts → ⊥) → ⊥
not_failed same outlasts (inl rose) = absurd (omega arith)
not_failed same outlasts (inr fewer) = fewer outlasts

-- as many messages as a run takes
pub fed_too_many : {R F W : Type 0} {left : R → Option (List ℕ)} {reader_failures : R → ℕ} {at : F → Tool → List Message → List Message → Type 0}
    {all_given : F → Bool} {stopped : F → Option ToolFault} {held : W → Option (List ℕ)} {writer_failures : W → ℕ} {first source : Source R}
    {old new : List (FusedFilter F)} {start now : FusedSink W} {count : ℕ}
    → Going left reader_failures at all_given stopped held writer_failures first source old new start now count → 2 ^ 64 - 1 ≤ count
    → HasFed left reader_failures at all_given stopped held writer_failures first source (Err ReadFailed) old new start now
fed_too_many {left} {reader_failures} {first} {source} {count} going enough =
    let of_read : IsPrefixOf going.given (said_of going.read) =
    subst (λ (l : List ℕ). IsPrefixOf going.given (said_of l)) (append-nil going.read)
    (given_is_prefix source going.read going.given [] going.told (nothing_may_come source)) in
    let outlasts : HasMostMessages (left (reader_of first)) (left (reader_of source)) = record {
      read = going.read;
      consumed = going.consumed;
      many = let long = prefix_is_shorter going.given (said_of going.read) count going.many of_read in omega arith;
      of_text = λ text is.
          let rest = rest_of (left (reader_of first)) (left (reader_of source)) going.read text going.consumed is in
          let prefix : IsPrefixOf going.given (said_of text) = subst (λ (l : List ℕ). IsPrefixOf going.given (said_of l)) (sym rest.2)
          (given_is_prefix source going.read going.given rest.0 going.told (rest_may_come left source rest.0 going.end rest.1)) in
          let long = prefix_is_shorter going.given (said_of text) count going.many prefix in omega arith;
    } in
    record {
      read = going.read;
      consumed = going.consumed;
      given = going.given;
      sound = given_is_sound source going.read going.given going.told;
      told = λ rest may.
          let still = may_give left reader_failures first source (Err ReadFailed) rest going.unread
          (λ failed. absurd (not_failed going.sound outlasts failed.1)) may in
          inr (inl refl, given_is_prefix source going.read going.given rest going.told still);
      count = λ not. absurd (not refl);
      read_failed = λ e. inr outlasts;
      output = going.output;
    }
