-- How dealing is broken off.
use Rattle.pnm_lanes.proofs.Words.{◌≡◌, ◌⊎◌, inl, inr, ℕ, Bool, true, false, List, [], ◌∷◌, ◌++◌, length, Option, None, Some, refl, sym, ap, subst, ◌∙◌}
use Rattle.pnm_lanes.proofs.Words.{append_assoc, append-nil, AllByRecursion, Packet, Sender, messages_in, Message, Stop, Place, Between, IsMessage, EndsBy}
use Rattle.pnm_lanes.proofs.Words.{Accepts, IsLawful, IsLawfulFrom, place_of, same_first, next_may_come, ToolFault, IsRefused, place_of-append, OutOfOrder}
use Rattle.pnm_lanes.proofs.Words.{Memory, Ending, More, Whole, BrokenOff, dealt, both_all, EndNothing, ends_after, StageEnd, Fault, PeerGone}
use Rattle.pnm_lanes.proofs.Words.{IsLongestLawfulPrefix, IsEnded, EndsAtMostOnce, HasDrainedAfter, prefix_goes_on, ends_nothing, same_output, AtEach}
use Rattle.pnm_lanes.proofs.Words.{HasReceivedSo, HasSentSo, HasLane, HasDealt, part_at, IsSentPart, HasBrokenOffDealing, HasDealtAll, IsReason, HasLeftOff}
use Rattle.pnm_lanes.proofs.Words.{HasDealtMessages}
use Rattle.pnm_lanes.proofs.EachLaws.{each-map, each-then}
use Rattle.pnm_lanes.proofs.MessageSteps.{all_then, lawful_both, dealt_then}
use Rattle.pnm_lanes.proofs.DealSteps.{HasAll, IsDealing, parts_of, HasPrefix, all_is_prefix, part_is_prefix, IsAccepted, all_accepted}
use Rattle.pnm_lanes.proofs.DealSteps.{accepted_more, whole_lane, sent_lane, lost_lane}

-- ---- why it was broken off

-- an end that says so of all that was received, once that has ended, and of each lane that was sent Stop: after a
-- prefix of what is dealt to it of what was accepted, or after all of it
pub record MayEndSo (end : StageEnd) (all : Bool) (lanes : ℕ) (accepted took : List Message) : Type 0 where
  pub input : (more : List Message) → IsEnded (took ++ more) → HasReceivedSo end (took ++ more)
  pub output : (lane : ℕ) (more g : List Message) → EndsBy More g → (all ≡ true → g ≡ dealt lane lanes accepted)
      → HasSentSo end lane lanes (took ++ more) (g ++ Stop ∷ [])

-- a message can't come after what was accepted
longest_prefix : (took : List Message) (m : Message) (more : List Message) → IsLawful took → (Accepts (place_of Between took) m → ⊥)
    → IsLongestLawfulPrefix took (took ++ m ∷ more)
longest_prefix took m more lawful refused = record {
  rest = m ∷ more;
  parts = refl;
  lawful = lawful;
  longest = λ n ns same accepts. refused (subst (Accepts (place_of Between took)) (sym (same_first m n more ns same)) accepts);
}

out_of_order : (lanes : ℕ) (took : List Message) (m : Message) (after : List Message) → IsLawful took → (Accepts (place_of Between took) m → ⊥)
    → MayEndSo (Fault OutOfOrder) true lanes took (took ++ m ∷ after)
out_of_order lanes took m after lawful refused = record {
  input = λ more ended.
      (ended, λ whole. refused (next_may_come Between took m (after ++ more) (subst IsLawful (append_assoc took (m ∷ after) more) whole)));
  output = λ lane more g goes_on full. (
    g,
    refl,
    goes_on,
    (
      took,
      subst (IsLongestLawfulPrefix took) (sym (append_assoc took (m ∷ after) more)) (longest_prefix took m (after ++ more) lawful refused),
      full refl,
    ),
  );
}

-- there was no memory, or the other end of a ring was seen dropped
for_reason : {end : StageEnd} {all : Bool} {lanes : ℕ} {accepted took : List Message} → (end ≡ Fault Memory) ⊎ (end ≡ PeerGone)
    → MayEndSo end all lanes accepted took
for_reason {all} {lanes} {accepted} {took} (inl memory) =
    subst (λ (e : StageEnd). MayEndSo e all lanes accepted took) (sym memory)
    (record { input = λ more ended. ended; output = λ lane more g goes_on full. (g, refl, goes_on, tt) })
for_reason {all} {lanes} {accepted} {took} (inr gone) =
    subst (λ (e : StageEnd). MayEndSo e all lanes accepted took) (sym gone) (record { input = λ more ended. tt; output = λ lane more g goes_on full. tt })

-- ---- what was received before and while the input was drained

-- messages were received that end so, and it may end so then
pub record IsCut (end : StageEnd) (ending : Ending) (received_old received_now : List Message) (olds nows : List Sender) : Type 0 where
  pub took : List Message
  pub accepted : List Message
  pub all : Bool
  pub input : received_now ≡ received_old ++ took
  pub messages : AllByRecursion IsMessage took
  pub ends : EndsBy ending took
  pub is : IsAccepted accepted took
  pub may : MayEndSo end all (length olds) accepted took
  pub lanes : AtEach (HasPrefix all (length olds) accepted) olds nows

-- the rest was drained
pub record IsDrained (drained : Bool) (took received_now received_new left : List Message) : Type 0 where
  pub more : List Message
  pub input : received_new ≡ received_now ++ more
  pub messages : AllByRecursion IsMessage more
  pub once : EndsAtMostOnce (took ++ more)
  pub nothing : IsEnded (took ++ more) ⊎ (left ≡ [])
  pub ended : drained ≡ true → IsEnded (took ++ more)

ended_after : (took more : List Message) → EndsBy More took → IsEnded more → IsEnded (took ++ more)
ended_after took more first (inl whole) = inl (ends_after Whole took more (ends_nothing took first) whole)
ended_after took more first (inr broken) = inr (ends_after BrokenOff took more (ends_nothing took first) broken)

once_ended : (l : List Message) → IsEnded l → EndsAtMostOnce l
once_ended l (inl whole) = (Whole, whole)
once_ended l (inr broken) = (BrokenOff, broken)

-- nothing, after a message that ends the stream
nothing_drained : {drained : Bool} {took received_now received_new left : List Message} → IsEnded took → received_new ≡ received_now
    → IsDrained drained took received_now received_new left
nothing_drained {took} {received_now} ended same =
    let still : IsEnded (took ++ []) = subst IsEnded (sym (append-nil took)) ended in
    record {
      more = [];
      input = same ∙ sym (append-nil received_now);
      messages = tt;
      once = once_ended (took ++ []) still;
      nothing = inl still;
      ended = λ all. still;
    }

is_drained : (ending : Ending) (drained : Bool) (took received_now received_new left : List Message) → EndsBy ending took
    → HasDrainedAfter ending drained received_now received_new left → IsDrained drained took received_now received_new left
is_drained More true took received_now received_new left ends extends =
    let ended = ended_after took extends.more ends extends.holds in
    record {
      more = extends.more;
      input = extends.added;
      messages = extends.messages;
      once = once_ended (took ++ extends.more) ended;
      nothing = inl ended;
      ended = λ all. ended;
    }
is_drained More false took received_now received_new left ends (extends, none) = record {
  more = extends.more;
  input = extends.added;
  messages = extends.messages;
  once = (More, ends_after More took extends.more (ends_nothing took ends) extends.holds);
  nothing = inr none;
  ended = λ all. absurd cc;
}
is_drained Whole drained took received_now received_new left ends same = nothing_drained (inl ends) same.1
is_drained BrokenOff drained took received_now received_new left ends same =
    nothing_drained (inr ends) same.1

-- ---- and how it ends then

-- Stop was sent to all, and the input was drained
ends_so : (end : StageEnd) {answer : StageEnd} (ending : Ending) (unstopped : Option StageEnd) {drained : Bool}
    {received_old received_now received_new left : List Message} {olds : List Sender} (nows : List Sender) {news : List Sender}
    (cut : IsCut end ending received_old received_now olds nows) → AtEach (IsSentPart (λ lane. Stop ∷ []) unstopped) nows news
    → IsDrained drained cut.took received_now received_new left → ((unstopped ≡ None) × (drained ≡ true) × (answer ≡ end)) ⊎ (answer ≡ PeerGone)
    → HasDealt answer received_old received_new left olds news
ends_so end ending unstopped {received_old} {received_new} {left} {olds} nows {news} cut is_sent rest (inl (none, all, same)) =
    let took = cut.took ++ rest.more in
    subst (λ (e : StageEnd). HasDealt e received_old received_new left olds news) (sym same) (record {
      took = took;
      input = rest.input ∙ ap (λ (x : List Message). x ++ rest.more) cut.input ∙ append_assoc received_old cut.took rest.more;
      seen_taken = rest.nothing;
      messages = both_all IsMessage cut.took rest.more cut.messages rest.messages;
      once = rest.once;
      ended = cut.may.input rest.more (rest.ended all);
      lanes = each-then (HasPrefix cut.all (length olds) cut.accepted) (IsSentPart (λ lane. Stop ∷ []) unstopped) (HasLane end (length olds) took) 0 olds nows
          news (sent_lane cut.all unstopped none (accepted_more cut.accepted cut.took rest.more cut.is)
          (λ lane g goes_on full. cut.may.output lane rest.more g goes_on full)) cut.lanes is_sent;
    })
ends_so end ending unstopped {received_old} {received_new} {left} {olds} nows {news} cut is_sent rest (inr same) =
    let took = cut.took ++ rest.more in
    subst (λ (e : StageEnd). HasDealt e received_old received_new left olds news) (sym same) (record {
      took = took;
      input = rest.input ∙ ap (λ (x : List Message). x ++ rest.more) cut.input ∙ append_assoc received_old cut.took rest.more;
      seen_taken = rest.nothing;
      messages = both_all IsMessage cut.took rest.more cut.messages rest.messages;
      once = rest.once;
      ended = tt;
      lanes = each-then (HasPrefix cut.all (length olds) cut.accepted) (IsSentPart (λ lane. Stop ∷ []) unstopped) (HasLane PeerGone (length olds) took) 0 olds
          nows news (lost_lane cut.all (length olds) cut.accepted took unstopped (accepted_more cut.accepted cut.took rest.more cut.is)) cut.lanes is_sent;
    })

-- ---- where it is broken off

-- messages were received that end so, those before some of them were dealt, and these weren't, or not to each lane
pub record IsInterrupted (end : StageEnd) (ending : Ending) (received_old received_now : List Message) (olds news : List Sender) : Type 0 where
  pub took : List Message
  pub before : List Message
  pub at : Message
  pub more : List Message
  pub after : List Message
  pub input : received_now ≡ received_old ++ took
  pub messages : AllByRecursion IsMessage took
  pub ends : EndsBy ending took
  pub parts : took ≡ before ++ at ∷ (more ++ after)
  pub goes : EndsBy More before
  pub nows : List Sender
  pub dealt : HasDealtAll Between before olds nows
  pub reason : IsReason end (place_of Between before) at more nows news

goes_within : (before l after : List Message) → EndNothing (before ++ (l ++ after)) → EndNothing l
goes_within [] [] after nothing = tt
goes_within [] (m ∷ l) after nothing = (nothing.0, goes_within [] l after nothing.1)
goes_within (n ∷ before) l after nothing = goes_within before l after nothing.1

with_more : (took before l after : List Message) → took ≡ before ++ (l ++ after) → IsLawful before → IsLawfulFrom (place_of Between before) l
    → IsAccepted (before ++ l) took
with_more took before l after parts lawful more = record {
  rest = after;
  parts = parts ∙ sym (append_assoc before l after);
  lawful = lawful_both Between before l lawful more;
}

-- it may end so before the message
before_message : {end : StageEnd} {lanes : ℕ} {before : List Message} (m : Message) (more after : List Message) (fault : ToolFault) → IsLawful before
    → end ≡ Fault fault → IsRefused fault (place_of Between before) (m ∷ more) → MayEndSo end true lanes before (before ++ m ∷ after)
before_message {lanes} {before} m more after fault lawful same (inr (order, refused)) =
    subst (λ (e : StageEnd). MayEndSo e true lanes before (before ++ m ∷ after)) (sym (same ∙ ap Fault order))
    (out_of_order lanes before m after lawful refused)
before_message m more after fault lawful same (inl memory) = for_reason (inl (same ∙ ap Fault memory))

not_of_order : {end : StageEnd} → end ≡ Fault OutOfOrder → (end ≡ Fault Memory) ⊎ (end ≡ PeerGone) → ⊥
not_of_order same (inl memory) = let e : Fault OutOfOrder ≡ Fault Memory = sym same ∙ memory in absurd cc
not_of_order same (inr gone) = let e : Fault OutOfOrder ≡ PeerGone = sym same ∙ gone in absurd cc

goes_on_there : (end : StageEnd) (ending : Ending) {took : List Message} (before l after : List Message) → EndsBy ending took
    → took ≡ before ++ (l ++ after) → (end ≡ Fault Memory) ⊎ (end ≡ PeerGone) → (end ≡ Fault OutOfOrder) ⊎ (ending ≡ More) → EndNothing l
goes_on_there end ending before l after ends parts reason (inl same) = absurd (not_of_order same reason)
goes_on_there end ending {took} before l after ends parts reason (inr more) =
    goes_within before l after (subst EndNothing parts (ends_nothing took (subst (λ (e : Ending). EndsBy e took) more ends)))

-- nothing was sent of the messages; or not each lane was sent its part
cut_by : (end : StageEnd) (ending : Ending) (received_old received_new : List Message) (olds news : List Sender)
    (i : IsInterrupted end ending received_old received_new olds news) → (end ≡ Fault OutOfOrder) ⊎ (ending ≡ More)
    → IsReason end (place_of Between i.before) i.at i.more i.nows news → IsCut end ending received_old received_new olds news
cut_by end ending received_old received_new olds news i goes (inl (same, (fault, is, why))) = record {
  took = i.took;
  accepted = i.before;
  all = true;
  input = i.input;
  messages = i.messages;
  ends = i.ends;
  is = record { rest = i.at ∷ (i.more ++ i.after); parts = i.parts; lawful = i.dealt.0 };
  may = subst (MayEndSo end true (length olds) i.before) (sym i.parts) (before_message i.at i.more (i.more ++ i.after) fault i.dealt.0 is why);
  lanes = subst (λ (l : List Sender). AtEach (HasPrefix true (length olds) i.before) olds l) (sym same)
      (each-map (HasAll (length olds) i.before) (HasPrefix true (length olds) i.before) 0 olds i.nows (all_is_prefix (length olds) i.before i.goes) i.dealt.1);
}
cut_by end ending received_old received_new olds news i goes (inr (lawful, parts)) =
    let place = place_of Between i.before in
    let l : List Message = i.at ∷ i.more in
    let accepted : List Message = i.before ++ l in
    let nothing : EndNothing l = goes_on_there end ending i.before l i.after i.ends i.parts parts.reason goes in
    record {
      took = i.took;
      accepted = accepted;
      all = false;
      input = i.input;
      messages = i.messages;
      ends = i.ends;
      is = with_more i.took i.before l i.after i.parts i.dealt.0 lawful;
      may = for_reason parts.reason;
      lanes = each-then (HasAll (length olds) i.before) (IsSentPart (part_at (length olds) place l) (Some end)) (HasPrefix false (length olds) accepted) 0
          olds i.nows news (part_is_prefix place (length olds) i.before l (Some end) i.goes nothing refl) i.dealt.1
          (parts_of place l olds i.before i.dealt.1 parts).lanes;
    }

-- ---- where the other end of a ring was seen dropped

-- the messages were dealt to those lanes that their part could be sent to
last_lane : {lanes : ℕ} (before l : List Message) {took : List Message} (end : StageEnd) → IsAccepted before took → IsAccepted (before ++ l) took
    → (lane : ℕ) (old now new : Sender) → HasAll lanes before lane old now → IsSentPart (part_at lanes (place_of Between before) l) (Some end) lane now new
    → HasLane PeerGone lanes took lane old new
last_lane {lanes} before l {took} end without is lane old now new all (same, inl added) =
    whole_lane PeerGone lanes (before ++ l) took is (λ n. tt) lane old new (all_then Between before l lanes lane old now new all (same, added))
last_lane {lanes} before l {took} end without is lane old now new all (same, inr lost) =
    whole_lane PeerGone lanes before took without (λ n. tt) lane old new (same_output old now new all.0 same, lost.0 ∙ all.1)

is_ended_so : (ending : Ending) (l : List Message) → EndsBy ending l → (ending ≡ Whole) ⊎ (ending ≡ BrokenOff) → IsEnded l
is_ended_so ending l ends (inl whole) = inl (subst (λ (e : Ending). EndsBy e l) whole ends)
is_ended_so ending l ends (inr broken) = inr (subst (λ (e : Ending). EndsBy e l) broken ends)

module _ {end : StageEnd} {ending : Ending} {received_old received_new : List Message} {olds news : List Sender} where
  pub breaks_off : {answer : StageEnd} {e : Ending} {received_now left : List Message} {nows : List Sender}
      (cut : IsCut end e received_old received_now olds nows) → ending ≡ e → HasBrokenOffDealing end ending answer received_now received_new left nows news
      → HasDealt answer received_old received_new left olds news
  breaks_off {received_now} {left} {nows} cut says broken =
      let same : EndsBy ending cut.took = subst (λ (x : Ending). EndsBy x cut.took) (sym says) cut.ends in
      ends_so end ending broken.unstopped nows (record {
        took = cut.took;
        accepted = cut.accepted;
        all = cut.all;
        input = cut.input;
        messages = cut.messages;
        ends = same;
        is = cut.is;
        may = cut.may;
        lanes = cut.lanes;
      }) broken.lanes (is_drained ending broken.drained cut.took received_now received_new left same broken.input) broken.answered

  interrupts : {place : Place} {received_now l : List Message} {nows : List Sender} → IsDealing More place received_old received_now olds nows
      → received_new ≡ received_now ++ l → AllByRecursion IsMessage l → EndsBy ending l → HasLeftOff end place l nows news
      → IsInterrupted end ending received_old received_new olds news
  interrupts {place} {l} {nows} dealing added are ends left =
      let took = dealing.took in
      let first = left.before in
      let rest : List Message = left.at ∷ (left.more ++ left.after) in
      let goes : EndsBy More first = prefix_goes_on ending first left.at (left.more ++ left.after) (subst (EndsBy ending) left.parts ends) in
      let here : place_of place first ≡ place_of Between (took ++ first) =
      ap (λ (p : Place). place_of p first) dealing.here ∙ sym (place_of-append Between took first) in
      record {
        took = took ++ l;
        before = took ++ first;
        at = left.at;
        more = left.more;
        after = left.after;
        input = added ∙ ap (λ (x : List Message). x ++ l) dealing.input ∙ append_assoc received_old took l;
        messages = both_all IsMessage took l dealing.messages are;
        ends = ends_after ending took l (ends_nothing took dealing.ends) ends;
        parts = ap (λ (x : List Message). took ++ x) left.parts ∙ sym (append_assoc took first rest);
        goes = ends_after More took first (ends_nothing took dealing.ends) goes;
        nows = left.nows;
        dealt = dealt_then Between took first olds nows left.nows (dealing.lawful, dealing.lanes)
            (subst (λ (p : Place). HasDealtAll p first nows left.nows) dealing.here left.dealt);
        reason = subst (λ (p : Place). IsReason end p left.at left.more left.nows news) here left.reason;
      }

  -- at a packet of which not all was dealt
  pub interrupts_packet : {place : Place} (here : Place) {received_now : List Message} {nows : List Sender} (packet : Packet) {unsent : Option StageEnd}
      → IsDealing More place received_old received_now olds nows → received_new ≡ received_now ++ messages_in packet
      → AllByRecursion IsMessage (messages_in packet) → EndsBy ending (messages_in packet)
      → HasDealtMessages place here (messages_in packet) unsent nows news → unsent ≡ Some end → IsInterrupted end ending received_old received_new olds news
  interrupts_packet {place} here {nows} packet dealing added are ends left some =
      interrupts dealing added are ends (subst (λ (u : Option StageEnd). HasDealtMessages place here (messages_in packet) u nows news) some left)

  -- at a message that can't come, or in an image
  pub cuts : IsInterrupted end ending received_old received_new olds news → (end ≡ Fault OutOfOrder) ⊎ (ending ≡ More)
      → IsCut end ending received_old received_new olds news
  cuts i goes = cut_by end ending received_old received_new olds news i goes i.reason

  last_lanes : (i : IsInterrupted end ending received_old received_new olds news) → IsReason end (place_of Between i.before) i.at i.more i.nows news
      → AtEach (HasLane PeerGone (length olds) i.took) olds news
  last_lanes i (inl (same, why)) =
      subst (λ (l : List Sender). AtEach (HasLane PeerGone (length olds) i.took) olds l) (sym same)
      (each-map (HasAll (length olds) i.before) (HasLane PeerGone (length olds) i.took) 0 olds i.nows
      (whole_lane PeerGone (length olds) i.before i.took (record { rest = i.at ∷ (i.more ++ i.after); parts = i.parts; lawful = i.dealt.0 }) (λ n. tt))
      i.dealt.1)
  last_lanes i (inr (lawful, parts)) =
      let place = place_of Between i.before in
      let l : List Message = i.at ∷ i.more in
      each-then (HasAll (length olds) i.before) (IsSentPart (part_at (length olds) place l) (Some end)) (HasLane PeerGone (length olds) i.took) 0
      olds i.nows news (last_lane i.before l end (record { rest = i.at ∷ (i.more ++ i.after); parts = i.parts; lawful = i.dealt.0 })
      (with_more i.took i.before l i.after i.parts i.dealt.0 lawful)) i.dealt.1 (parts_of place l olds i.before i.dealt.1 parts).lanes

  pub ends_gone : {left : List Message} → IsInterrupted end ending received_old received_new olds news → (ending ≡ Whole) ⊎ (ending ≡ BrokenOff)
      → HasDealt PeerGone received_old received_new left olds news
  ends_gone i so =
      let ended : IsEnded i.took = is_ended_so ending i.took i.ends so in
      record {
        took = i.took;
        input = i.input;
        seen_taken = inl ended;
        messages = i.messages;
        once = once_ended i.took ended;
        ended = tt;
        lanes = last_lanes i i.reason;
      }

-- no message can be taken
pub cut_here : {place : Place} {received_old received_now received_new : List Message} {olds nows : List Sender}
    → IsDealing More place received_old received_now olds nows → received_new ≡ received_now → IsCut PeerGone More received_old received_new olds nows
cut_here {olds} {nows} dealing same =
    let took = dealing.took in
    record {
      took = took;
      accepted = took;
      all = true;
      input = same ∙ dealing.input;
      messages = dealing.messages;
      ends = dealing.ends;
      is = all_accepted dealing.lawful;
      may = for_reason (inr refl);
      lanes = each-map (HasAll (length olds) took) (HasPrefix true (length olds) took) 0 olds nows (all_is_prefix
          (length olds) took dealing.ends) dealing.lanes;
    }
