-- How a gatherer ends.
use Rattle.pnm_lanes.proofs.Words.{◌≡◌, ◌⊎◌, inl, inr, ℕ, ◌<◌, Bool, true, false, List, [], ◌∷◌, ◌++◌, length, drop, refl, sym, ap, subst, ◌∙◌, append_assoc}
use Rattle.pnm_lanes.proofs.Words.{append-nil, AllByRecursion, false≢true, drop_at, Message, Stop, Place, Between, IsPrefixOf, Image, messages_of_stream}
use Rattle.pnm_lanes.proofs.Words.{IsMessage, without_stop, EndsBy, IsLawful, IsLawfulFrom, place_of, each-push, stream_is_lawful, More, Whole}
use Rattle.pnm_lanes.proofs.Words.{BrokenOff, dealt, dealt_message, dealt_from, prefix_of_prefix, StageEnd, Well, Broken, Fault, PeerGone, Extends, IsEnded}
use Rattle.pnm_lanes.proofs.Words.{EndsAtMostOnce, one_ending, nothing_follows, stream_ends_whole, stop_is_cut, prefix_without_stop, ends_as, LaneState, Open}
use Rattle.pnm_lanes.proofs.Words.{Ended, Gone, OutOfOrder, Memory, CutOutside, ChannelOutside, TooLarge, AreDealt, BeginsOrEnds, HasSentAll, HasPassedSo}
use Rattle.pnm_lanes.proofs.Words.{HasGatheredSo, HasGathered, IsOfStream, state_at, HasTakenWhole, HasTakenNone, BeginsNone, IsCause, IsLane, IsLeftBy}
use Rattle.pnm_lanes.proofs.Words.{AreLanes, CarriesOn, IsDone, HasStopped, HasBrokenOffAll, HasDrainedAll, Packet, messages_in, ending_of_packet, StreamEnd}
use Rattle.pnm_lanes.proofs.Words.{Held, in_held, at_lane}
use Rattle.pnm_image.specs.declared.packet.Packet.TheVariants.{Part, StreamEnd as EndsStream, Stop as Stops}
use Rattle.pnm_lanes.proofs.DealtLaws.{dealt_from-append}
use Rattle.pnm_lanes.proofs.PartLaws.{prefix_cancel, parts_tell_the_whole, lawful_fits}
use Rattle.pnm_lanes.proofs.DealtParts.{all_of_both, all_of_rest, all_messages, stream_keeps_all, lawful_rest, dealt_of_stream, dealt_goes_on, dealt_end}
use Rattle.pnm_lanes.proofs.DealtParts.{images_of_stream, gets_part, prefixes_in_order, last_stays, not_before_stop}
use Rattle.pnm_lanes.proofs.GatherSteps.{IsGoing, dealt_with, lawful_with, sent_with, lanes_after}

-- ---- what was received of a lane in all

abbrev pub took_of : (ℕ → List Message) → (ℕ → List Message) → ℕ → List Message
took_of start final lane = drop (length (start lane)) (final lane)

what_was_added : {P : List Message → Type 0} {start final : List Message} → Extends start final P
    → (final ≡ start ++ drop (length start) final) × AllByRecursion IsMessage (drop (length start) final) × P (drop (length start) final)
what_was_added {P} {start} {final} extends =
    let same : extends.more ≡ drop (length start) final = sym (ap (drop (length start)) extends.added ∙ drop_at start extends.more (length start) refl) in
    (extends.added ∙ ap (λ (l : List Message). start ++ l) same, subst (AllByRecursion IsMessage) same extends.messages, subst P same extends.holds)

-- a lane that isn't open any more
record LaneEnded (ended : Bool) (start final left : List Message) : Type 0 where
  pub added : final ≡ start ++ drop (length start) final
  pub messages : AllByRecursion IsMessage (drop (length start) final)
  pub once : EndsAtMostOnce (drop (length start) final)
  pub seen_taken : IsEnded (drop (length start) final) ⊎ (left ≡ [])
  pub has_ended : ended ≡ true → IsEnded (drop (length start) final)

ends_once : (l : List Message) → IsEnded l → EndsAtMostOnce l
ends_once l (inl whole) = (Whole, whole)
ends_once l (inr broken) = (BrokenOff, broken)

lane_ended : {ended : Bool} (s : LaneState) {start final left : List Message} → IsDone ended s → IsLane s start final left → LaneEnded ended start final left
lane_ended Open done is = absurd done
lane_ended Ended {start} {final} done is =
    let all = what_was_added is in
    record { added = all.0; messages = all.1; once = ends_once (drop (length start) final) all.2; seen_taken = inl all.2; has_ended = λ e. all.2 }
lane_ended Gone done is =
    let all = what_was_added is.0 in
    record { added = all.0; messages = all.1; once = (More, all.2); seen_taken = inr is.1; has_ended = λ e. absurd (false≢true (sym done ∙ e)) }

-- ---- where there is no next message

-- each lane has given its part of what was sent, and then what was taken of it and what was drained
pub record HasLeft (lanes : ℕ) (gave : List Message) (taken took : ℕ → List Message) : Type 0 where
  pub drained : ℕ → List Message
  pub parts : (lane : ℕ) → lane < lanes → took lane ≡ (dealt lane lanes gave ++ taken lane) ++ drained lane

has_left : (lanes : ℕ) (place : Place) (start now new final taken : ℕ → List Message) (sent_start sent_now : List Message)
    → (going : IsGoing lanes place start now sent_start sent_now)
    → ((lane : ℕ) → lane < lanes → new lane ≡ now lane ++ taken lane) → ((lane : ℕ) → IsPrefixOf (new lane) (final lane))
    → HasLeft lanes going.gave taken (took_of start final)
has_left lanes place start now new final taken sent_start sent_now going added prefixes = record {
  drained = λ lane. (prefixes lane).0;
  parts = λ lane below.
      let here : List Message = dealt lane lanes going.gave in
      let rest : List Message = (prefixes lane).0 in
      let all : final lane ≡ start lane ++ ((here ++ taken lane) ++ rest) =
      (prefixes lane).1 ∙ ap (λ (l : List Message). l ++ rest) (added lane below ∙ ap (λ (l : List Message). l ++ taken lane) (going.lanes_are lane below)
      ∙ append_assoc (start lane) here (taken lane)) ∙ append_assoc (start lane) (here ++ taken lane) rest in
      ap (drop (length (start lane))) all ∙ drop_at (start lane) ((here ++ taken lane) ++ rest) (length (start lane)) refl;
}

kept_prefix : (a b : List Message) {took : List Message} → AllByRecursion IsOfStream a → took ≡ a ++ b → IsPrefixOf a (without_stop took)
kept_prefix a b are same =
    subst (λ (l : List Message). IsPrefixOf a (without_stop l)) (sym same)
    (subst (λ (l : List Message). IsPrefixOf l (without_stop (a ++ b))) (stream_keeps_all a are) (prefix_without_stop a b))

-- what begins or ends an image goes no further than what was sent, where a lane gave nothing more
sent_before : (lanes lane : ℕ) (gave prefix : List Message) (m : Message) (took : ℕ → List Message) → BeginsOrEnds m
    → took lane ≡ dealt lane lanes gave ++ Stop ∷ [] → IsPrefixOf (dealt lane lanes (prefix ++ m ∷ [])) (took lane)
    → IsPrefixOf (prefix ++ m ∷ []) gave ⊎ ((x : Message) × (xs : List Message) × (prefix ++ m ∷ [] ≡ gave ++ x ∷ xs)) → IsPrefixOf (prefix ++ m ∷ []) gave
sent_before lanes lane gave prefix m took is given prefixes (inl before) = before
sent_before lanes lane gave prefix m took is given prefixes (inr more) =
    let here : List Message = dealt lane lanes gave in
    let place : Place = place_of Between gave in
    let last = last_stays gave m more.0 more.1 prefix more.2 in
    let part = gets_part (place_of place last.0) m is in
    let dealt_last : dealt lane lanes (prefix ++ m ∷ []) ≡ here ++ (dealt_from lane lanes place last.0 ++ part.part ∷ []) =
    ap (dealt lane lanes) (more.2 ∙ ap (λ (l : List Message). gave ++ l) last.1) ∙ dealt_from-append lane lanes Between gave (last.0 ++ m ∷ [])
    ∙ ap (λ (l : List Message). here ++ l) (dealt_from-append lane lanes place last.0 (m ∷ [])
    ∙ ap (λ (l : List Message). dealt_from lane lanes place last.0 ++ l) (append-nil (dealt_message lane lanes (place_of place last.0) m) ∙ part.gets)) in
    let both = subst (λ (l : List Message). IsPrefixOf l (here ++ Stop ∷ [])) dealt_last
    (subst (IsPrefixOf (dealt lane lanes (prefix ++ m ∷ []))) given prefixes) in
    absurd (not_before_stop (dealt_from lane lanes place last.0) part.part part.is_part
    (prefix_cancel here (dealt_from lane lanes place last.0 ++ part.part ∷ []) (Stop ∷ []) both))

-- ---- what was sent in the end: Stop after it, or nothing more

record IsLastSent (gave sent : List Message) : Type 0 where
  pub keeps : without_stop sent ≡ gave
  pub lawful : IsLawful sent
  pub not_whole : EndsBy Whole sent → ⊥

with_stop : (lanes : ℕ) (place : Place) (start now : ℕ → List Message) (sent_start sent_now : List Message)
    → (going : IsGoing lanes place start now sent_start sent_now) → IsLastSent going.gave (going.gave ++ Stop ∷ [])
with_stop lanes place start now sent_start sent_now going = record {
  keeps = stop_is_cut going.gave;
  lawful = lawful_with going.gave (Stop ∷ []) going.at_place going.lawful (going.stoppable, tt);
  not_whole = λ whole. let two = one_ending BrokenOff Whole (going.gave ++ Stop ∷ []) (ends_as BrokenOff going.gave Stop going.more refl) whole in absurd cc;
}

without_more : (lanes : ℕ) (place : Place) (start now : ℕ → List Message) (sent_start sent_now : List Message)
    → (going : IsGoing lanes place start now sent_start sent_now) → IsLastSent going.gave going.gave
without_more lanes place start now sent_start sent_now going = record {
  keeps = stream_keeps_all going.gave going.stream;
  lawful = going.lawful;
  not_whole = λ whole. let two = one_ending More Whole going.gave going.more whole in absurd cc;
}

module _ {lanes : ℕ} {gave : List Message} {taken : ℕ → List Message} where
  -- what was sent is a prefix of the stream of the images that were dealt
  pub prefix_of_images : {took : ℕ → List Message} {is : List Image} → 0 < lanes → IsLawful gave → AllByRecursion IsOfStream gave
      → HasLeft lanes gave taken took → AreDealt is lanes took → IsPrefixOf gave (messages_of_stream is)
  prefix_of_images {took} {is} some lawful stream left are =
      parts_tell_the_whole lanes Between gave (messages_of_stream is) some (lawful_fits Between gave lawful stream) (stream_is_lawful is are.images) stream
      (images_of_stream is are.images)
      (λ lane below. prefix_of_prefix (dealt lane lanes gave) (without_stop (took lane)) (dealt lane lanes (messages_of_stream is))
      (kept_prefix (dealt lane lanes gave) (taken lane ++ left.drained lane) (dealt_of_stream lane lanes Between gave stream)
      (left.parts lane below ∙ append_assoc (dealt lane lanes gave) (taken lane) (left.drained lane))) (are.prefixes lane below))

  -- no images were dealt to lanes that don't agree
  pub no_images : {place : Place} {took : ℕ → List Message} {is : List Image} → 0 < lanes → IsLawful gave → AllByRecursion IsOfStream gave
      → place ≡ place_of Between gave → HasLeft lanes gave taken took → ((lane : ℕ) → lane < lanes → AllByRecursion IsOfStream (taken lane))
      → BeginsNone lanes place taken → AreDealt is lanes took → ⊥
  no_images {took} {is} some lawful stream at_place left are_stream none are =
      let prefix = prefix_of_images some lawful stream left are in
      let whole : List Message = messages_of_stream is in
      let rest : List Message = prefix.0 in
      let lawful_all : IsLawful (gave ++ rest) = subst IsLawful prefix.1 (stream_is_lawful is are.images) in
      let stream_all : AllByRecursion IsOfStream (gave ++ rest) = subst (AllByRecursion IsOfStream) prefix.1 (images_of_stream is are.images) in
      none rest (subst (λ (p : Place). IsLawfulFrom p rest) (sym at_place) (lawful_rest Between gave rest lawful_all))
      (all_of_rest IsOfStream gave rest stream_all) (λ lane below. subst (λ (p : Place). IsPrefixOf (taken lane) (dealt_from lane lanes p rest)) (sym at_place)
      (prefix_cancel (dealt lane lanes gave) (taken lane) (dealt_from lane lanes (place_of Between gave) rest)
      (subst (IsPrefixOf (dealt lane lanes gave ++ taken lane)) (ap (dealt lane lanes) prefix.1 ∙ dealt_from-append lane lanes Between gave rest)
      (prefix_of_prefix (dealt lane lanes gave ++ taken lane) (without_stop (took lane)) (dealt lane lanes whole)
      (kept_prefix (dealt lane lanes gave ++ taken lane) (left.drained lane)
      (all_of_both IsOfStream (dealt lane lanes gave) (taken lane) (dealt_of_stream lane lanes Between gave stream) (are_stream lane below))
      (left.parts lane below)) (are.prefixes lane below)))))

  -- a lane that gave Stop has given nothing else
  pub stopped_lane : (lane : ℕ) {took : ℕ → List Message} → lane < lanes → EndsBy More gave → HasLeft lanes gave taken took → taken lane ≡ Stop ∷ []
      → IsEnded (took lane) → took lane ≡ dealt lane lanes gave ++ Stop ∷ []
  stopped_lane lane {took} below more left stop ended =
      let here : List Message = dealt lane lanes gave in
      let rest : List Message = left.drained lane in
      let all : took lane ≡ (here ++ Stop ∷ []) ++ rest = left.parts lane below ∙ ap (λ (l : List Message). (here ++ l) ++ rest) stop in
      let broken : EndsBy BrokenOff (here ++ Stop ∷ []) = ends_as BrokenOff here Stop (dealt_goes_on lane lanes Between gave more) refl in
      let none : rest ≡ [] = nothing_follows (here ++ Stop ∷ []) rest (inr broken) (subst IsEnded all ended) in
      all ∙ ap (λ (l : List Message). (here ++ Stop ∷ []) ++ l) none ∙ append-nil (here ++ Stop ∷ [])

  pub has_sent_all : (lane : ℕ) {took : ℕ → List Message} {is : List Image} → 0 < lanes → lane < lanes → IsLawful gave → AllByRecursion IsOfStream gave
      → HasLeft lanes gave taken took → AreDealt is lanes took → took lane ≡ dealt lane lanes gave ++ Stop ∷ [] → HasSentAll is lanes took (gave ++ Stop ∷ [])
  has_sent_all lane {took} some below lawful stream left are given prefix m begins whole prefixes =
      let sent = prefix_of_images some lawful stream left are in
      let order = prefixes_in_order gave sent.0 (prefix ++ m ∷ []) whole.0 (sym sent.1 ∙ whole.1) in
      prefix_of_prefix (prefix ++ m ∷ []) gave (gave ++ Stop ∷ []) (sent_before lanes lane gave prefix m took begins given (prefixes lane below) order)
      (Stop ∷ [], refl)

  -- all that is promised, where the lanes are done
  ends_so : {place : Place} {end : StageEnd} (ended : Bool) (states : List LaneState) {start now : ℕ → List Message} (new : ℕ → List Message)
      {final left : ℕ → List Message} {sent_start sent_now sent_new : List Message} (going : IsGoing lanes place start now sent_start sent_now) → 0 < lanes
      → HasLeft lanes going.gave taken (took_of start final) → AreLanes lanes states start final left
      → ((lane : ℕ) → lane < lanes → IsDone ended (state_at states lane)) → sent_new ≡ sent_start ++ gave → IsLastSent going.gave gave
      → HasPassedSo end lanes (took_of start final) gave
      → ((is : List Image) → AreDealt is lanes (took_of start final) → HasGatheredSo end is lanes (took_of start final) gave)
      → HasGathered end lanes start final left sent_start sent_new
  ends_so ended states {start} new {final} {left} going some left_so are done output last so images =
      let all : (lane : ℕ) → lane < lanes → LaneEnded ended (start lane) (final lane) (left lane) =
      λ lane below. lane_ended (state_at states lane) (done lane below) (are lane below) in
      record {
        took = took_of start final;
        gave = gave;
        inputs = λ lane below. (all lane below).added;
        output = output;
        seen_taken = λ lane below. (all lane below).seen_taken;
        gathered = record {
          ended = so;
          messages = λ lane below. (all lane below).messages;
          once = λ lane below. (all lane below).once;
          lawful = last.lawful;
          parts = λ lane below. subst (λ (l : List Message). IsPrefixOf (dealt lane lanes l) (took_of start final lane)) (sym last.keeps)
              (taken lane ++ left_so.drained lane, left_so.parts lane below ∙ append_assoc (dealt lane lanes going.gave) (taken lane) (left_so.drained lane));
          whole = λ whole. absurd (last.not_whole whole);
          images = λ is dealt_so. record {
            prefix = subst (λ (l : List Message). IsPrefixOf l (messages_of_stream is)) (sym last.keeps)
                (Rattle.pnm_lanes.proofs.GatherEnds.prefix_of_images some going.lawful going.stream left_so dealt_so);
            so = images is dealt_so;
          };
        };
      }

  -- ---- Stop was sent

  -- by the cause
  stopped_so : (cause : StageEnd) {place : Place} {took : ℕ → List Message} → 0 < lanes → IsLawful gave → AllByRecursion IsOfStream gave → EndsBy More gave
      → place ≡ place_of Between gave → HasLeft lanes gave taken took → ((lane : ℕ) → lane < lanes → IsEnded (took lane)) → IsCause cause lanes place taken
      → HasPassedSo cause lanes took (gave ++ Stop ∷ []) × ((is : List Image) → AreDealt is lanes took → HasGatheredSo cause is lanes took (gave ++ Stop ∷
      []))
  stopped_so Well some lawful stream more at_place left ended is = absurd is
  stopped_so Broken {took} some lawful stream more at_place left ended is =
      let given = stopped_lane is.0 is.1 more left is.2 (ended is.0 is.1) in
      let broken : EndsBy BrokenOff (took is.0) =
      subst (EndsBy BrokenOff) (sym given) (ends_as BrokenOff (dealt is.0 lanes gave) Stop (dealt_goes_on is.0 lanes Between gave more) refl) in
      ((ended, (is.0, is.1, broken), (gave, refl, more)), λ images are. has_sent_all is.0 some is.1 lawful stream left are given)
  stopped_so (Fault CutOutside) some lawful stream more at_place left ended is = absurd is
  stopped_so (Fault ChannelOutside) some lawful stream more at_place left ended is = absurd is
  stopped_so (Fault TooLarge) some lawful stream more at_place left ended is = absurd is
  stopped_so (Fault OutOfOrder) some lawful stream more at_place left ended is =
      ((inl refl, ended, (gave, refl, more)), λ images are. absurd (no_images some lawful stream at_place left is.0 is.1 are))
  stopped_so (Fault Memory) some lawful stream more at_place left ended is = ((inr refl, ended, (gave, refl, more)), λ images are. refl)
  stopped_so PeerGone some lawful stream more at_place left ended is = (tt, λ images are. tt)

is_stream_end : (packet : Packet) → ending_of_packet packet ≡ Whole → messages_in packet ≡ StreamEnd ∷ []
is_stream_end (Part part) is = absurd cc
is_stream_end EndsStream is = refl
is_stream_end Stops is = absurd cc

-- nothing is held behind the end of the stream
nothing_behind : (s : LaneState) (rest : List Message) → IsLeftBy s (StreamEnd ∷ rest) → rest ≡ []
nothing_behind s [] is = refl
nothing_behind Open (m ∷ rest) is = let not = is.1.0 in absurd cc
nothing_behind Ended (m ∷ rest) is = elim is.1 [ inl whole ↦ (let not = whole.0 in absurd cc) | inr broken ↦ (let not = broken.0 in absurd cc) ]
nothing_behind Gone (m ∷ rest) is = absurd is

given_last : (s : LaneState) (start old here held part : List Message) {new : List Message} → old ≡ start ++ here → new ≡ old ++ (part ++ held)
    → part ≡ StreamEnd ∷ [] → IsLeftBy s (part ++ held) → new ≡ start ++ (here ++ StreamEnd ∷ [])
given_last s start old here held part before added is left =
    let none : held ≡ [] = nothing_behind s held (subst (λ (l : List Message). IsLeftBy s (l ++ held)) is left) in
    added ∙ ap (λ (l : List Message). l ++ (part ++ held)) before ∙ append_assoc start here (part ++ held)
    ∙ ap (λ (l : List Message). start ++ (here ++ l)) (ap (λ (l : List Message). l ++ held) is ∙ ap (λ (l : List Message). StreamEnd ∷ l) none)

module _ {lanes : ℕ} {place : Place} {states : List LaneState} {start now new : ℕ → List Message} {sent_start sent_now sent_new : List Message} where
  module _ {done : List LaneState} {final left_new left : ℕ → List Message} where
    -- the gatherer was broken off
    broken_off_so : {cause end : StageEnd} → IsGoing lanes place start now sent_start sent_now → 0 < lanes
        → HasTakenNone lanes place cause states now new → CarriesOn lanes states done new final left_new left
        → HasStopped cause end lanes done sent_now sent_new → HasGathered end lanes start final left sent_start sent_new
    unfolding ends_so
    broken_off_so {cause} going some none carried (inl is_sent) =
        let took : ℕ → List Message = took_of start final in
        let left_so = has_left lanes place start now new final none.taken sent_start sent_now going none.parts.added carried.prefixes in
        let are = carried.lanes_are start (lanes_after left_new going none.parts) in
        let ended : (lane : ℕ) → lane < lanes → IsEnded (took lane) =
        λ lane below. (lane_ended (state_at done lane) (is_sent.2 lane below) (are lane below)).has_ended refl in
        let so = stopped_so cause some going.lawful going.stream going.more going.at_place left_so ended none.cause in
        subst (λ (e : StageEnd). HasGathered e lanes start final left sent_start sent_new) (sym is_sent.0)
        (ends_so true done new going some left_so are is_sent.2
        (sent_with sent_start going.gave (Stop ∷ []) going.output is_sent.1) (with_stop lanes place start now sent_start sent_now going) so.0 so.1)
    broken_off_so {end} going some none carried (inr gone) =
        let left_so = has_left lanes place start now new final none.taken sent_start sent_now going none.parts.added carried.prefixes in
        let are = carried.lanes_are start (lanes_after left_new going none.parts) in
        subst (λ (e : StageEnd). HasGathered e lanes start final left sent_start sent_new) (sym gone.0) (elim gone.1 [
          | inl stop ↦ ends_so false done new going some left_so are gone.2
              (sent_with sent_start going.gave (Stop ∷ []) going.output stop) (with_stop lanes place start now sent_start sent_now going) tt (λ is dealt_so. tt)
          | inr same ↦ ends_so false done new going some left_so are gone.2
              (same ∙ going.output) (without_more lanes place start now sent_start sent_now going) tt (λ is dealt_so. tt)
        ])

    pub broken_off : {count : ℕ} {cause end : StageEnd} → IsGoing lanes place start now sent_start sent_now → 0 < lanes → count ≡ lanes
        → HasTakenNone count place cause states now new → HasBrokenOffAll cause end count states done new final left_new left sent_now sent_new
        → HasGathered end lanes start final left sent_start sent_new
    broken_off {cause} {end} going some same none broken =
        broken_off_so going some (subst (λ (n : ℕ). HasTakenNone n place cause states now new) same none)
        (subst (λ (n : ℕ). CarriesOn n states done new final left_new left) same broken.carried)
        (subst (λ (n : ℕ). HasStopped cause end n done sent_now sent_new) same broken.breaks)

    -- ---- the packet couldn't be sent

    pub not_sent : {count : ℕ} {next : Place} {packet : Packet} {held : List Held} {ended : Bool} → IsGoing lanes place start now sent_start sent_now
        → 0 < lanes → count ≡ lanes → HasTakenWhole count place next packet states now new held → sent_new ≡ sent_now
        → HasDrainedAll count ended states done new final left_new left → HasGathered PeerGone lanes start final left sent_start sent_new
    not_sent {next} {packet} {held} {ended} going some same whole sent drained =
        let taken = subst (λ (n : ℕ). HasTakenWhole n place next packet states now new held) same whole in
        let all = subst (λ (n : ℕ). HasDrainedAll n ended states done new final left_new left) same drained in
        let part : ℕ → List Message = λ lane. dealt_from lane lanes place (messages_in packet) ++ at_lane in_held held lane in
        let left_so = has_left lanes place start now new final part sent_start sent_now going taken.parts.added all.carried.prefixes in
        let are = all.carried.lanes_are start (lanes_after left_new going taken.parts) in
        ends_so ended done new going some left_so are all.done
        (sent ∙ going.output) (without_more lanes place start now sent_start sent_now going) tt (λ is dealt_so. tt)

  -- ---- the end of the stream was sent

  pub ends_well : {count : ℕ} {next : Place} {packet : Packet} {held : List Held} (left : ℕ → List Message) → IsGoing lanes place start now sent_start sent_now
      → 0 < lanes → count ≡ lanes → HasTakenWhole count place next packet states now new held → sent_new ≡ sent_now ++ messages_in packet
      → ending_of_packet packet ≡ Whole → HasGathered Well lanes start new left sent_start sent_new
  ends_well {next} {packet} {held} left going some same whole sent is_end =
      let taken = subst (λ (n : ℕ). HasTakenWhole n place next packet states now new held) same whole in
      let is : messages_in packet ≡ StreamEnd ∷ [] = is_stream_end packet is_end in
      let gave : List Message = going.gave ++ StreamEnd ∷ [] in
      let took : ℕ → List Message = λ lane. dealt lane lanes gave in
      let stream : AllByRecursion IsOfStream gave = each-push IsOfStream going.gave StreamEnd going.stream tt in
      let lawful : IsLawful gave = subst (λ (l : List Message). IsLawful (going.gave ++ l)) is (lawful_with going.gave (messages_in packet) going.at_place
      going.lawful taken.lawful) in
      let end_of : EndsBy Whole gave = ends_as Whole going.gave StreamEnd going.more refl in
      let parts : (lane : ℕ) → dealt lane lanes gave ≡ dealt lane lanes going.gave ++ StreamEnd ∷ [] = λ lane. dealt_with lane lanes going.gave
      (StreamEnd ∷ []) going.at_place ∙ ap (λ (l : List Message). dealt lane lanes going.gave ++ l)
      (append-nil (dealt_message lane lanes place StreamEnd) ∙ dealt_end lane lanes place StreamEnd refl) in
      let ends : (lane : ℕ) → EndsBy Whole (took lane) = λ lane.
      subst (EndsBy Whole) (sym (parts lane)) (ends_as Whole (dealt lane lanes going.gave) StreamEnd (dealt_goes_on lane lanes Between going.gave going.more)
      refl) in
      let keeps : without_stop gave ≡ gave = stream_keeps_all gave stream in
      let left_so : HasLeft lanes gave (λ lane. []) took =
      record { drained = λ lane. []; parts = λ lane below. sym (append-nil (took lane ++ []) ∙ append-nil (took lane)) } in
      record {
        took = took;
        gave = gave;
        inputs = λ lane below. given_last (state_at states lane) (start lane) (now lane) (dealt lane lanes going.gave) (at_lane in_held held lane)
            (dealt_from lane lanes place (messages_in packet)) (going.lanes_are lane below) (taken.parts.added lane below)
            (ap (dealt_from lane lanes place) is ∙ append-nil (dealt_message lane lanes place StreamEnd) ∙ dealt_end lane lanes place StreamEnd refl)
            (taken.parts.left lane below) ∙ ap (λ (l : List Message). start lane ++ l) (sym (parts lane));
        output = sent_with sent_start going.gave (StreamEnd ∷ []) going.output (sent ∙ ap (λ (l : List Message). sent_now ++ l) is);
        seen_taken = λ lane below. inl (inl (ends lane));
        gathered = record {
          ended = (end_of, λ lane below. refl);
          messages = λ lane below. all_messages (took lane) (dealt_of_stream lane lanes Between gave stream);
          once = λ lane below. (Whole, ends lane);
          lawful = lawful;
          parts = λ lane below. ([], ap (dealt lane lanes) (sym keeps) ∙ sym (append-nil (dealt lane lanes (without_stop gave))));
          whole = λ w lane below. ends lane;
          images = λ is are.
              let prefix = prefix_of_images some lawful stream left_so are in
              let none : prefix.0 ≡ [] = nothing_follows gave prefix.0 (inl end_of) (inl (subst (EndsBy Whole) prefix.1 (stream_ends_whole is))) in
              record {
                prefix = subst (λ (l : List Message). IsPrefixOf l (messages_of_stream is)) (sym keeps) prefix;
                so = sym (prefix.1 ∙ ap (λ (l : List Message). gave ++ l) none ∙ append-nil gave);
              };
        };
      }
