-- What is received of lanes and held.
use Rattle.pnm_lanes.proofs.Words.{◌≡◌, ◌≢◌, ℕ, ◌<◌, ◌≤◌, List, ◌++◌, length, get_or, set, sym, subst, ◌∙◌, AllByRecursion}
use Rattle.pnm_lanes.proofs.Words.{Message, Packet, Place, IsMessage, EndsBy, StageEnd, Broken, PeerGone, Fault, Memory, OutOfOrder, messages_in}
use Rattle.pnm_lanes.proofs.Words.{ending_of_packet, Receiver, received, at_lane, LaneState, state_by, IsOfStream, HasTakenNone, HasTakenWhole}
use Rattle.pnm_lanes.proofs.Words.{AreHolding, HasPassed, IsNotTogether, Held, in_held, next_of, IsLawfulFrom, place_of, dealt_from, CutOutside}
use Rattle.pnm_lanes.proofs.Words.{ChannelOutside, TooLarge, Well}
use Rattle.pnm_lanes.specs.declared.held.Next.TheVariants.{Nothing, Stop as NextStop}
use Rattle.pnm_lanes.proofs.LaneLists.{at_lane-set, at_lane-others}
use Rattle.pnm_lanes.proofs.DealtParts.{all_of_rest}
use Rattle.pnm_lanes.proofs.TakenParts.{by_lane, stop_alone, packet_of_stream, more_of, more_here, taken_same, taken_none, taken_more, held_more}

-- ---- one lane

module _ (lanes lane : ℕ) (ends : List Receiver) (new other : Receiver) (states : List LaneState) (passed : ℕ → List Message) (held : List Held)
    (place : Place) where
  pub lane_gone : lane < length ends → received new ≡ received (get_or ends lane other) → AreHolding lanes states passed (at_lane received ends) held
      → HasTakenNone lanes place PeerGone states passed (at_lane received (set ends lane new))
  lane_gone below same holding = record {
    taken = at_lane in_held held;
    parts = taken_none lanes lane ends new other states passed held below same holding;
    cause = tt;
  }

  module _ (packet : Packet) (below : lane < lanes) (within : lane < length ends) (within_states : lane < length states)
      (none : next_of (at_lane in_held held lane) ≡ Nothing) (are : AllByRecursion IsMessage (messages_in packet))
      (is_end : EndsBy (ending_of_packet packet) (messages_in packet))
      (given : received new ≡ received (get_or ends lane other) ++ messages_in packet) (holding : AreHolding lanes states passed (at_lane received ends) held)
    where
      pub no_memory : HasTakenNone lanes place (Fault Memory) (set states lane (state_by (ending_of_packet packet))) passed
          (at_lane received (set ends lane new))
      no_memory = record {
        taken = more_of lane (messages_in packet) (at_lane in_held held);
        parts = taken_more lanes lane ends new other states passed held packet below within within_states none are is_end given holding;
        cause = tt;
      }

      pub lane_stopped : next_of (messages_in packet) ≡ NextStop
          → HasTakenNone lanes place Broken (set states lane (state_by (ending_of_packet packet))) passed (at_lane received (set ends lane new))
      lane_stopped stop = record {
        taken = more_of lane (messages_in packet) (at_lane in_held held);
        parts = taken_more lanes lane ends new other states passed held packet below within within_states none are is_end given holding;
        cause = (
          lane,
          below,
          more_here lane (messages_in packet) (at_lane in_held held) ∙ stop_alone (ending_of_packet packet) (messages_in packet) is_end stop,
        );
      }

      pub lane_filled : (now : Held) → lane < length held → in_held now ≡ messages_in packet → next_of (messages_in packet) ≢ NextStop
          → AreHolding lanes (set states lane (state_by (ending_of_packet packet))) passed (at_lane received (set ends lane new)) (set held lane now)
      lane_filled now within_held is differs = record {
        parts = taken_same lanes (set states lane (state_by (ending_of_packet packet))) passed (at_lane received (set ends lane new))
            (more_of lane (messages_in packet) (at_lane in_held held)) (at_lane in_held (set held lane now))
            (λ l b. held_more lane held now (messages_in packet) l within_held is)
            (taken_more lanes lane ends new other states passed held packet below within within_states none are is_end given holding);
        stream = λ l b. by_lane (λ (n : ℕ). n < lanes → AllByRecursion IsOfStream (at_lane in_held (set held lane now) n)) lane l
            (λ b. subst (AllByRecursion IsOfStream) (sym (at_lane-set in_held held lane now within_held ∙ is)) (packet_of_stream packet differs are is_end))
            (λ differ b. subst (AllByRecursion IsOfStream) (sym (at_lane-others in_held held lane now l differ)) (holding.stream l b)) b;
      }

-- what is held then
pub holds_some : (held : List Held) (lane : ℕ) (now : Held) → lane < length held → 1 ≤ length (in_held now)
    → 1 ≤ length (at_lane in_held (set held lane now) lane)
holds_some held lane now below some = subst (λ (l : List Message). 1 ≤ length l) (sym (at_lane-set in_held held lane now below)) some

pub still_holds : (held : List Held) (lane : ℕ) (now : Held) (l : ℕ) → lane < length held → 1 ≤ length (in_held now)
    → 1 ≤ length (at_lane in_held held l) → 1 ≤ length (at_lane in_held (set held lane now) l)
still_holds held lane now l below some before =
    by_lane (λ (n : ℕ). 1 ≤ length (at_lane in_held held n) → 1 ≤ length (at_lane in_held (set held lane now) n)) lane l
    (λ b. holds_some held lane now below some)
    (λ differ b. subst (λ (x : List Message). 1 ≤ length x) (sym (at_lane-others in_held held lane now l differ)) b) before

-- ---- what is held, put together

module _ {lanes : ℕ} {place : Place} {states : List LaneState} {passed now : ℕ → List Message} {held : List Held}
    (holding : AreHolding lanes states passed now held) where
  pub not_together : (end : StageEnd) → IsNotTogether end lanes place held → HasTakenNone lanes place end states passed now
  not_together Well is = absurd is
  not_together Broken is = absurd is
  not_together (Fault CutOutside) is = absurd is
  not_together (Fault ChannelOutside) is = absurd is
  not_together (Fault TooLarge) is = absurd is
  not_together (Fault OutOfOrder) is = record { taken = at_lane in_held held; parts = holding.parts; cause = (holding.stream, is) }
  not_together (Fault Memory) is = record { taken = at_lane in_held held; parts = holding.parts; cause = tt }
  not_together PeerGone is = absurd is

  pub put_together : {next : Place} {packet : Packet} {news : List Held} → HasPassed lanes place (messages_in packet) held news
      → EndsBy (ending_of_packet packet) (messages_in packet) → IsLawfulFrom place (messages_in packet) → next ≡ place_of place (messages_in packet)
      → HasTakenWhole lanes place next packet states passed now news
  put_together {packet = packet} {news = news} together ends lawful at = record {
    lawful = lawful;
    at_next = at;
    stream = together.stream;
    ends = ends;
    parts = taken_same lanes states passed now (at_lane in_held held)
        (λ lane. dealt_from lane lanes place (messages_in packet) ++ at_lane in_held news lane) together.parts holding.parts;
    held_stream = λ lane below. all_of_rest IsOfStream (dealt_from lane lanes place (messages_in packet)) (at_lane in_held news lane)
        (subst (AllByRecursion IsOfStream) (together.parts lane below) (holding.stream lane below));
  }
