-- Gathering, packet by packet: what was sent so far is a prefix of a stream, and each lane has given its part of it.
use Rattle.pnm_lanes.proofs.Words.{◌≡◌, ◌⊎◌, inl, inr, ℕ, zero, suc, take, ◌<◌, List, [], ◌∷◌, ◌++◌, refl, sym, ap, subst, ◌∙◌, append_assoc, append-nil}
use Rattle.pnm_lanes.proofs.Words.{AllByRecursion, Message, Begin, Row, ImageEnd, StreamEnd, Stop, Place, Between, Inside, After, IsMessage, ending_of, EndsBy}
use Rattle.pnm_lanes.proofs.Words.{Accepts, IsLawful, IsLawfulFrom, place_after, place_of, place_of-append, Ending, More, Whole, BrokenOff, dealt, dealt_from}
use Rattle.pnm_lanes.proofs.Words.{EndNothing, ends_nothing, LaneState, Open, Ended, Gone, IsOfStream, state_at, IsLeftBy, HasTakenParts, HasTakenWhole, IsLane}
use Rattle.pnm_lanes.proofs.Words.{AreLanes, AreHolding, Packet, messages_in, ending_of_packet, Held, in_held, at_lane, IsEnded}
use Rattle.pnm_image.specs.declared.packet.Packet.TheVariants.{Part, StreamEnd as EndsStream, Stop as Stops}
use Rattle.pnm_image.proofs.Places.{lawful_append}
use Rattle.pnm_lanes.proofs.DealtLaws.{dealt_from-append}
use Rattle.pnm_lanes.proofs.DealtParts.{all_of_both, all_of_rest, all_messages, dealt_of_stream, dealt_goes_on}
use Rattle.pnm_lanes.proofs.DrainSteps.{ends_then, ended_then}

-- ---- between two packets

-- what was sent so far goes on, and each lane has given its part of it
pub record IsGoing (lanes : ℕ) (place : Place) (start now : ℕ → List Message) (sent_start sent_now : List Message) : Type 0 where
  pub gave : List Message
  pub output : sent_now ≡ sent_start ++ gave
  pub lawful : IsLawful gave
  pub at_place : place ≡ place_of Between gave
  pub stream : AllByRecursion IsOfStream gave
  pub more : EndsBy More gave
  pub stoppable : Accepts place Stop
  pub lanes_are : (lane : ℕ) → lane < lanes → now lane ≡ start lane ++ dealt lane lanes gave

pub nothing_yet : (lanes : ℕ) (place : Place) (start : ℕ → List Message) (sent : List Message) → place ≡ Between → IsGoing lanes place start start sent sent
nothing_yet lanes place start sent at_start = record {
  gave = [];
  output = sym (append-nil sent);
  lawful = tt;
  at_place = at_start;
  stream = tt;
  more = refl;
  stoppable = subst (λ (p : Place). Accepts p Stop) (sym at_start) tt;
  lanes_are = λ lane below. sym (append-nil (start lane));
}

-- a stream can be broken off after a message that goes on
can_be_stopped : (place : Place) (m : Message) → Accepts place m → ending_of m ≡ More → Accepts (place_after place m) Stop
can_be_stopped place (Begin head) may more = tt
can_be_stopped Between (Row row) may more = absurd may
can_be_stopped (Inside s y) (Row row) may more = tt
can_be_stopped After (Row row) may more = absurd may
can_be_stopped Between ImageEnd may more = tt
can_be_stopped (Inside s y) ImageEnd may more = tt
can_be_stopped After ImageEnd may more = tt
can_be_stopped place StreamEnd may more = absurd cc
can_be_stopped place Stop may more = absurd cc

stoppable_after : (place : Place) (ms : List Message) → Accepts place Stop → IsLawfulFrom place ms → EndNothing ms → Accepts (place_of place ms) Stop
stoppable_after place [] may lawful none = may
stoppable_after place (m ∷ ms) may lawful none =
    stoppable_after (place_after place m) ms (can_be_stopped place m lawful.0 none.0) lawful.1 none.1

-- what a lane gets of what was sent and of what comes behind it
pub dealt_with : (lane lanes : ℕ) {place : Place} (gave ms : List Message) → place ≡ place_of Between gave
    → dealt lane lanes (gave ++ ms) ≡ dealt lane lanes gave ++ dealt_from lane lanes place ms
dealt_with lane lanes gave ms at = dealt_from-append lane lanes Between gave ms
    ∙ ap (λ (p : Place). dealt lane lanes gave ++ dealt_from lane lanes p ms) (sym at)

pub lawful_with : {place : Place} (gave ms : List Message) → place ≡ place_of Between gave → IsLawful gave → IsLawfulFrom place ms → IsLawful (gave ++ ms)
lawful_with gave ms at lawful more = lawful_append Between gave ms lawful (subst (λ (p : Place). IsLawfulFrom p ms) at more)

pub sent_with : (start : List Message) {now new : List Message} (gave ms : List Message) → now ≡ start ++ gave → new ≡ now ++ ms → new ≡ start ++ (gave ++ ms)
sent_with start gave ms before added = added ∙ ap (λ (l : List Message). l ++ ms) before ∙ append_assoc start gave ms

-- what is left where messages that end nothing go first
ended_rest : (e : Ending) (a b : List Message) → EndNothing a → EndsBy e (a ++ b) → EndsBy e b ⊎ (e ≡ More)
ended_rest e [] b none ends = inl ends
ended_rest e (m ∷ []) [] none ends = inr (sym ends ∙ none.0)
ended_rest e (m ∷ []) (n ∷ b) none ends = inl ends.1
ended_rest e (m ∷ k ∷ a) b none ends = ended_rest e (k ∷ a) b none.1 ends.1

more_rest : (a b : List Message) → EndNothing a → EndsBy More (a ++ b) → EndsBy More b
more_rest [] b none ends = ends
more_rest (m ∷ []) [] none ends = refl
more_rest (m ∷ []) (n ∷ b) none ends = ends.1
more_rest (m ∷ k ∷ a) b none ends = more_rest (k ∷ a) b none.1 ends.1

is_ended_rest : (a b : List Message) → EndNothing a → IsEnded (a ++ b) → IsEnded b
is_ended_rest a b none (inl whole) = elim (ended_rest Whole a b none whole) [ inl ends ↦ inl ends | inr more ↦ absurd cc ]
is_ended_rest a b none (inr broken) = elim (ended_rest BrokenOff a b none broken) [ inl ends ↦ inr ends | inr more ↦ absurd cc ]

left_rest : (s : LaneState) (a b : List Message) → EndNothing a → IsLeftBy s (a ++ b) → IsLeftBy s b
left_rest Open a b none is = (all_of_rest IsMessage a b is.0, more_rest a b none is.1)
left_rest Ended a b none is = (all_of_rest IsMessage a b is.0, is_ended_rest a b none is.1)
left_rest Gone a b none is = absurd is

-- by how a packet ends the stream, as a function answers it
pub says_more : {answer : Ending} (packet : Packet) → answer ≡ ending_of_packet packet → (answer ≡ More) ⊎ (answer ≡ BrokenOff)
    → AllByRecursion IsOfStream (messages_in packet) → ending_of_packet packet ≡ More
says_more (Part part) says is stream = refl
says_more EndsStream says (inl more) stream = sym says ∙ more
says_more EndsStream says (inr broken) stream = let not = sym says ∙ broken in absurd cc
says_more Stops says is stream = absurd stream.0

-- what the lanes gave, beside what was sent so far, is held
pub record IsGathering (lanes : ℕ) (place : Place) (states : List LaneState) (start now : ℕ → List Message) (held : List Held)
    (sent_start sent_now : List Message) : Type 0 where
  pub passed : ℕ → List Message
  pub going : IsGoing lanes place start passed sent_start sent_now
  pub holding : AreHolding lanes states passed now held

-- ---- once something was taken of each lane

lane_after : (s : LaneState) (start old new given taken left : List Message) → old ≡ start ++ given → new ≡ old ++ taken → AllByRecursion IsMessage given
    → EndsBy More given → IsLeftBy s taken → IsLane s start new left
lane_after Open start old new given taken left before added are more is = record {
  more = given ++ taken;
  added = added ∙ ap (λ (l : List Message). l ++ taken) before ∙ append_assoc start given taken;
  messages = all_of_both IsMessage given taken are is.0;
  holds = ends_then More given taken more is.1;
}
lane_after Ended start old new given taken left before added are more is = record {
  more = given ++ taken;
  added = added ∙ ap (λ (l : List Message). l ++ taken) before ∙ append_assoc start given taken;
  messages = all_of_both IsMessage given taken are is.0;
  holds = ended_then given taken more is.1;
}
lane_after Gone start old new given taken left before added are more is = absurd is

module _ {lanes : ℕ} {place : Place} {states : List LaneState} {start now new : ℕ → List Message} {sent_start sent_now : List Message} where
  -- what the lanes' states say
  pub lanes_after : (left : ℕ → List Message) {taken : ℕ → List Message} → IsGoing lanes place start now sent_start sent_now
      → HasTakenParts lanes states now new taken → AreLanes lanes states start new left
  lanes_after left {taken} going parts lane below =
      let here : List Message = dealt lane lanes going.gave in
      lane_after (state_at states lane) (start lane) (now lane) (new lane) here (taken lane) (left lane) (going.lanes_are lane below) (parts.added lane below)
      (all_messages here (dealt_of_stream lane lanes Between going.gave going.stream)) (dealt_goes_on lane lanes Between going.gave going.more)
      (parts.left lane below)

  -- the next packet was taken and sent
  pub still_gathering : {count : ℕ} {next : Place} {packet : Packet} {held : List Held} {sent_new : List Message}
      → IsGoing lanes place start now sent_start sent_now → count ≡ lanes
      → HasTakenWhole count place next packet states now new held → sent_new ≡ sent_now ++ messages_in packet → ending_of_packet packet ≡ More
      → IsGathering lanes next states start new held sent_start sent_new
  still_gathering {next} {packet} {held} going same whole added goes_on =
      let taken = subst (λ (n : ℕ). HasTakenWhole n place next packet states now new held) same whole in
      let ms : List Message = messages_in packet in
      let more : EndsBy More ms = subst (λ (e : Ending). EndsBy e ms) goes_on taken.ends in
      record {
        passed = λ lane. now lane ++ dealt_from lane lanes place ms;
        going = record {
          gave = going.gave ++ ms;
          output = sent_with sent_start going.gave ms going.output added;
          lawful = lawful_with going.gave ms going.at_place going.lawful taken.lawful;
          at_place = taken.at_next ∙ ap (λ (p : Place). place_of p ms) going.at_place ∙ sym (place_of-append Between going.gave ms);
          stream = all_of_both IsOfStream going.gave ms going.stream taken.stream;
          more = ends_then More going.gave ms going.more more;
          stoppable = subst (λ (p : Place). Accepts p Stop) (sym taken.at_next) (stoppable_after place ms going.stoppable taken.lawful (ends_nothing ms more));
          lanes_are = λ lane below. ap (λ (l : List Message). l ++ dealt_from lane lanes place ms) (going.lanes_are lane below)
              ∙ append_assoc (start lane) (dealt lane lanes going.gave) (dealt_from lane lanes place ms)
              ∙ ap (λ (l : List Message). start lane ++ l) (sym (dealt_with lane lanes going.gave ms going.at_place));
        };
        holding = record {
          parts = record {
            added = λ lane below. taken.parts.added lane below
                ∙ sym (append_assoc (now lane) (dealt_from lane lanes place ms) (at_lane in_held held lane));
            left = λ lane below. left_rest (state_at states lane) (dealt_from lane lanes place ms) (at_lane in_held held lane)
                (ends_nothing (dealt_from lane lanes place ms) (dealt_goes_on lane lanes place ms more)) (taken.parts.left lane below);
          };
          stream = taken.held_stream;
        };
      }

-- ---- lanes of which nothing was taken

pub first_of_all : {A : Type 0} (P : A → Type 0) (n : ℕ) (l : List A) → AllByRecursion P l → AllByRecursion P (take n l)
first_of_all P zero l all = tt
first_of_all P (suc n) [] all = tt
first_of_all P (suc n) (x ∷ l) all = (all.0, first_of_all P n l all.1)

open_at : (states : List LaneState) → AllByRecursion (λ s. s ≡ Open) states → (lane : ℕ) → state_at states lane ≡ Open
open_at [] all lane = refl
open_at (s ∷ states) all zero = all.0
open_at (s ∷ states) all (suc lane) = open_at states all.1 lane

nothing_at : (held : List Held) → AllByRecursion (λ h. in_held h ≡ []) held → (lane : ℕ) → at_lane in_held held lane ≡ []
nothing_at [] all lane = refl
nothing_at (h ∷ held) all zero = all.0
nothing_at (h ∷ held) all (suc lane) = nothing_at held all.1 lane

pub nothing_gathered : (lanes : ℕ) (place : Place) (states : List LaneState) (start : ℕ → List Message) (held : List Held) (sent : List Message)
    → place ≡ Between → AllByRecursion (λ s. s ≡ Open) states → AllByRecursion (λ h. in_held h ≡ []) held
    → IsGathering lanes place states start start held sent sent
nothing_gathered lanes place states start held sent at_start opens none = record {
  passed = start;
  going = nothing_yet lanes place start sent at_start;
  holding = record {
    parts = record {
      added = λ lane below. sym (ap (λ (l : List Message). start lane ++ l) (nothing_at held none lane) ∙ append-nil (start lane));
      left = λ lane below. subst (λ (s : LaneState). IsLeftBy s (at_lane in_held held lane)) (sym (open_at states opens lane))
          (subst (IsLeftBy Open) (sym (nothing_at held none lane)) (tt, refl));
    };
    stream = λ lane below. subst (AllByRecursion IsOfStream) (sym (nothing_at held none lane)) tt;
  };
}
