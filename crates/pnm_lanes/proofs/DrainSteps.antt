-- Lanes that are drained, message by message.
use Rattle.pnm_lanes.proofs.Words.{◌≡◌, ◌≢◌, inl, inr, ℕ, ◌<◌, List, [], ◌++◌, length, get_or, set, Option, Some, None, refl, sym, ap, subst, ◌∙◌, append-nil}
use Rattle.pnm_lanes.proofs.Words.{append_assoc, arith, get_or-set_same, get_or-set_other, Receiver, received, known_items, Message, IsPrefixOf, IsMessage}
use Rattle.pnm_lanes.proofs.Words.{EndsBy, Ending, More, Whole, BrokenOff, ends_after, Extends, IsEnded, ends_nothing, LaneState, Open, Ended, Gone, at_lane}
use Rattle.pnm_lanes.proofs.Words.{AreSameInputs, AllByRecursion, Packet, messages_in, ending_of_packet, state_at, state_by, HasDrainedOne, IsLane, CarriesOn}
use Rattle.pnm_lanes.proofs.DealtParts.{all_of_both}
use Rattle.pnm_lanes.proofs.LaneLists.{at_lane-get, at_lane-set, at_lane-others, same_inputs, as_many}
use Rattle.pnm_lanes.proofs.TakenParts.{by_lane}

-- ---- lists that are extended twice

pub ends_then : (e : Ending) (a b : List Message) → EndsBy More a → EndsBy e b → EndsBy e (a ++ b)
ends_then e a b first second = ends_after e a b (ends_nothing a first) second

pub extends_then : (P Q : List Message → Type 0) (a b c : List Message) → Extends a b P → Extends b c Q → ((x y : List Message) → P x → Q y → Q (x ++ y))
    → Extends a c Q
extends_then P Q a b c first second both = record {
  more = first.more ++ second.more;
  added = second.added ∙ ap (λ (l : List Message). l ++ second.more) first.added ∙ append_assoc a first.more second.more;
  messages = all_of_both IsMessage first.more second.more first.messages second.messages;
  holds = both first.more second.more first.holds second.holds;
}

pub ended_then : (a b : List Message) → EndsBy More a → IsEnded b → IsEnded (a ++ b)
ended_then a b more (inl whole) = inl (ends_then Whole a b more whole)
ended_then a b more (inr broken) = inr (ends_then BrokenOff a b more broken)

-- ---- one lane

-- what was taken ends so
taken_by : (e : Ending) (old : List Message) {new : List Message} (left taken : List Message) → new ≡ old ++ taken → AllByRecursion IsMessage taken
    → EndsBy e taken → HasDrainedOne (Some (state_by e)) old new left
taken_by More old left taken added are ends = record { more = taken; added = added; messages = are; holds = (are, ends) }
taken_by Whole old left taken added are ends = record { more = taken; added = added; messages = are; holds = (are, inl ends) }
taken_by BrokenOff old left taken added are ends = record { more = taken; added = added; messages = are; holds = (are, inr ends) }

-- what a place of the ring held was taken
pub packet_taken : (packet : Packet) (old : List Message) {new : List Message} (left : List Message) → new ≡ old ++ messages_in packet
    → AllByRecursion IsMessage (messages_in packet) → EndsBy (ending_of_packet packet) (messages_in packet)
    → HasDrainedOne (Some (state_by (ending_of_packet packet))) old new left
packet_taken packet old left added are ends = taken_by (ending_of_packet packet) old left (messages_in packet) added are ends

-- one message more, or none
one_lane : (s : LaneState) {start old : List Message} (new left : List Message) → Extends start old (EndsBy More) → HasDrainedOne (Some s) old new left
    → IsLane s start new left
one_lane Open {start} {old} new left extends drained =
    extends_then (EndsBy More) (EndsBy More) start old new extends
    (record { more = drained.more; added = drained.added; messages = drained.messages; holds = drained.holds.1 }) (λ x y. ends_then More x y)
one_lane Ended {start} {old} new left extends drained =
    extends_then (EndsBy More) IsEnded start old new extends
    (record { more = drained.more; added = drained.added; messages = drained.messages; holds = drained.holds.1 }) (λ x y. ended_then x y)
one_lane Gone {start} new left extends drained = (subst (λ (l : List Message). Extends start l (EndsBy More)) (sym drained.0) extends, drained.1)

one_prefix : (found : Option LaneState) (old new left : List Message) → HasDrainedOne found old new left → IsPrefixOf old new
one_prefix None old new left drained = ([], drained ∙ sym (append-nil old))
one_prefix (Some Open) old new left drained = (drained.more, drained.added)
one_prefix (Some Ended) old new left drained = (drained.more, drained.added)
one_prefix (Some Gone) old new left drained = ([], drained.0 ∙ sym (append-nil old))

-- ---- all lanes

pub carries_nothing : {lanes : ℕ} {states : List LaneState} {now left : ℕ → List Message} → CarriesOn lanes states states now now left left
carries_nothing {now} = record { lanes_are = λ start are. are; prefixes = λ lane. ([], sym (append-nil (now lane))) }

pub carries_both : (lanes : ℕ) (s0 s1 s2 : List LaneState) (n0 n1 n2 l0 l1 l2 : ℕ → List Message) → CarriesOn lanes s0 s1 n0 n1 l0 l1
    → CarriesOn lanes s1 s2 n1 n2 l1 l2 → CarriesOn lanes s0 s2 n0 n2 l0 l2
carries_both lanes s0 s1 s2 n0 n1 n2 l0 l1 l2 first second = record {
  lanes_are = λ start are. second.lanes_are start (first.lanes_are start are);
  prefixes = λ lane. (
    (first.prefixes lane).0 ++ (second.prefixes lane).0,
    (second.prefixes lane).1 ∙ ap (λ (l : List Message). l ++ (second.prefixes lane).0) (first.prefixes lane).1
        ∙ append_assoc (n0 lane) (first.prefixes lane).0 (second.prefixes lane).0,
  );
}

-- the states once a lane was tried
abbrev pub states_found : List LaneState → ℕ → Option LaneState → List LaneState
states_found states lane None = states
states_found states lane (Some s) = set states lane s

lane_found : (found : Option LaneState) (states : List LaneState) (lane : ℕ) (start old new left_old left_new : List Message) → lane < length states
    → state_at states lane ≡ Open
    → HasDrainedOne found old new left_new → IsLane (state_at states lane) start old left_old
    → IsLane (state_at (states_found states lane found) lane) start new left_new
lane_found None states lane start old new left_old left_new within is_open drained is =
    subst (λ (s : LaneState). IsLane s start new left_new) (sym is_open)
    (subst (λ (l : List Message). Extends start l (EndsBy More)) (sym drained) (subst (λ (s : LaneState). IsLane s start old left_old) is_open is))
lane_found (Some s) states lane start old new left_old left_new within is_open drained is =
    subst (λ (x : LaneState). IsLane x start new left_new) (sym (get_or-set_same states lane s Open within))
    (one_lane s new left_new (subst (λ (x : LaneState). IsLane x start old left_old) is_open is) drained)

other_state : (found : Option LaneState) (states : List LaneState) (lane other : ℕ) → other ≢ lane
    → state_at (states_found states lane found) other ≡ state_at states other
other_state None states lane other differ = refl
other_state (Some s) states lane other differ = get_or-set_other states lane other s Open differ

-- a lane was tried
pub carries_one : (ends : List Receiver) (lane : ℕ) (new other : Receiver) {states : List LaneState} (found : Option LaneState) → lane < length ends
    → length ends ≡ length states → state_at states lane ≡ Open → HasDrainedOne found (received (get_or ends lane other)) (received new) (known_items new)
    → CarriesOn (length ends) states (states_found states lane found) (at_lane received ends) (at_lane received (set ends lane new))
    (at_lane known_items ends) (at_lane known_items (set ends lane new))
carries_one ends lane new other {states} found within same is_open drained =
    let here : HasDrainedOne found (at_lane received ends lane) (at_lane received (set ends lane new) lane) (at_lane known_items (set ends lane new) lane) =
    subst (λ (l : List Message). HasDrainedOne found l (at_lane received (set ends lane new) lane) (at_lane known_items (set ends lane new) lane))
    (sym (at_lane-get received ends lane other within))
    (subst (λ (l : List Message). HasDrainedOne found (received (get_or ends lane other)) l (at_lane known_items (set ends lane new) lane))
    (sym (at_lane-set received ends lane new within))
    (subst (HasDrainedOne found (received (get_or ends lane other)) (received new)) (sym (at_lane-set known_items ends lane new within)) drained)) in
    record {
      lanes_are = λ start are l below. by_lane (λ (o : ℕ). IsLane (state_at states o) (start o) (at_lane received ends o) (at_lane known_items ends o)
          → IsLane (state_at (states_found states lane found) o) (start o) (at_lane received (set ends lane new) o) (at_lane known_items (set ends lane new) o))
          lane l (λ is. lane_found found states lane (start lane) (at_lane received ends lane) (at_lane received (set ends lane new) lane)
          (at_lane known_items ends lane) (at_lane known_items (set ends lane new) lane) (omega arith) is_open here is)
          (λ differ is. subst (λ (s : LaneState). IsLane s (start l) (at_lane received (set ends lane new) l) (at_lane known_items (set ends lane new) l))
          (sym (other_state found states lane l differ))
          (subst (λ (x : List Message). IsLane (state_at states l) (start l) x (at_lane known_items (set ends lane new) l))
          (sym (at_lane-others received ends lane new l differ))
          (subst (IsLane (state_at states l) (start l) (at_lane received ends l)) (sym (at_lane-others known_items ends lane new l differ)) is))) (are l below);
      prefixes = λ l. by_lane (λ (o : ℕ). IsPrefixOf (at_lane received ends o) (at_lane received (set ends lane new) o)) lane l
          (one_prefix found (at_lane received ends lane) (at_lane received (set ends lane new) lane) (at_lane known_items (set ends lane new) lane) here)
          (λ differ. ([], at_lane-others received ends lane new l differ ∙ sym (append-nil (at_lane received ends l))));
    }

-- lanes were tried, and then others
pub tried_both : (ends0 ends1 ends2 : List Receiver) {s0 s1 s2 : List LaneState}
    → AreSameInputs ends0 ends1 × CarriesOn (length ends0) s0 s1 (at_lane received ends0) (at_lane received ends1) (at_lane known_items ends0)
    (at_lane known_items ends1) → AreSameInputs ends1 ends2 → CarriesOn (length ends1) s1 s2 (at_lane received ends1) (at_lane received ends2)
    (at_lane known_items ends1) (at_lane known_items ends2) → AreSameInputs ends0 ends2 × CarriesOn (length ends0) s0 s2 (at_lane received ends0)
    (at_lane received ends2) (at_lane known_items ends0) (at_lane known_items ends2)
tried_both ends0 ends1 ends2 {s0} {s1} {s2} first same carried =
    let next = subst (λ (n : ℕ). CarriesOn n s1 s2 (at_lane received ends1) (at_lane received ends2) (at_lane known_items ends1) (at_lane known_items ends2))
    (as_many ends0 ends1 first.0) carried in (
      same_inputs ends0 ends1 ends2 first.0 same,
      carries_both (length ends0) s0 s1 s2 (at_lane received ends0) (at_lane received ends1) (at_lane received ends2) (at_lane known_items ends0)
          (at_lane known_items ends1) (at_lane known_items ends2) first.1 next,
    )
