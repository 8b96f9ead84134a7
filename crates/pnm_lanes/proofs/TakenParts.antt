-- What was taken of each lane, lane by lane.
use Rattle.pnm_lanes.proofs.Words.{◌≡◌, ◌≢◌, inl, inr, ℕ, ◌<◌, ◌≤◌, List, [], ◌∷◌, ◌++◌, length, get_or, set, refl, sym, ap, subst, ◌∙◌, append-nil, arith}
use Rattle.pnm_lanes.proofs.Words.{◌==◌, if◌then◌else◌, AllByRecursion, cases_eq, nat_tests, get_or-set_same, get_or-set_other, Message, Begin, Row, ImageEnd}
use Rattle.pnm_lanes.proofs.Words.{StreamEnd, Stop, Packet, IsMessage, EndsBy, Ending, More, Whole, BrokenOff, messages_in}
use Rattle.pnm_lanes.proofs.Words.{ending_of_packet, Receiver, received, at_lane, LaneState, Open, IsOfStream, state_at, state_by, IsLeftBy, HasTakenParts}
use Rattle.pnm_lanes.proofs.Words.{AreHolding, Held, in_held, next_of, zero, suc}
use Rattle.pnm_lanes.specs.declared.held.Next.TheVariants.{Nothing, Stop as NextStop}
use Rattle.pnm_image.specs.declared.packet.Packet.TheVariants.{Part, StreamEnd as EndsStream, Stop as Stops}
use Rattle.pnm_lanes.proofs.LaneLists.{at_lane-get, at_lane-set, at_lane-others}

-- what holds of each lane, by whether it is this one
pub by_lane : (P : ℕ → Type 0) (lane other : ℕ) → P lane → (other ≢ lane → P other) → P other
by_lane P lane other here there = elim (cases_eq other lane) [ inl same ↦ subst P (sym same) here | inr differ ↦ there differ ]

pub message_of_stream : (m : Message) → IsOfStream m → IsMessage m
message_of_stream (Begin head) is = is
message_of_stream (Row row) is = tt
message_of_stream ImageEnd is = tt
message_of_stream StreamEnd is = tt
message_of_stream Stop is = tt

-- ---- the next message of a lane

pub nothing_next : (l : List Message) → next_of l ≡ Nothing → l ≡ []
nothing_next [] is = refl
nothing_next (Begin head ∷ l) is = absurd cc
nothing_next (Row row ∷ l) is = absurd cc
nothing_next (ImageEnd ∷ l) is = absurd cc
nothing_next (StreamEnd ∷ l) is = absurd cc
nothing_next (Stop ∷ l) is = absurd cc

pub something_next : (l : List Message) → next_of l ≢ Nothing → 1 ≤ length l
something_next [] differs = absurd (differs refl)
something_next (m ∷ l) differs = omega arith

-- Stop comes alone
pub stop_alone : (e : Ending) (l : List Message) → EndsBy e l → next_of l ≡ NextStop → l ≡ Stop ∷ []
stop_alone e [] ends is = absurd cc
stop_alone e (Begin head ∷ l) ends is = absurd cc
stop_alone e (Row row ∷ l) ends is = absurd cc
stop_alone e (ImageEnd ∷ l) ends is = absurd cc
stop_alone e (StreamEnd ∷ l) ends is = absurd cc
stop_alone e (Stop ∷ []) ends is = refl
stop_alone e (Stop ∷ m ∷ l) ends is = let more = ends.0 in absurd cc

-- messages that don't end by Stop are of a stream
no_stop : (e : Ending) (m : Message) → e ≢ BrokenOff → IsMessage m → EndsBy e (m ∷ []) → IsOfStream m
no_stop e (Begin head) differs is ends = is
no_stop e (Row row) differs is ends = tt
no_stop e ImageEnd differs is ends = tt
no_stop e StreamEnd differs is ends = tt
no_stop e Stop differs is ends = differs (sym ends)

all_of_stream : (e : Ending) (l : List Message) → e ≢ BrokenOff → AllByRecursion IsMessage l → EndsBy e l → AllByRecursion IsOfStream l
all_of_stream e [] differs are ends = tt
all_of_stream e (m ∷ []) differs are ends = (no_stop e m differs are.0 ends, tt)
all_of_stream e (m ∷ n ∷ l) differs are ends =
    (no_stop More m (λ same. absurd cc) are.0 ends.0, all_of_stream e (n ∷ l) differs are.1 ends.1)

not_broken : (packet : Packet) → next_of (messages_in packet) ≢ NextStop → ending_of_packet packet ≢ BrokenOff
not_broken (Part part) differs same = absurd cc
not_broken EndsStream differs same = absurd cc
not_broken Stops differs same = differs refl

pub packet_of_stream : (packet : Packet) → next_of (messages_in packet) ≢ NextStop → AllByRecursion IsMessage (messages_in packet)
    → EndsBy (ending_of_packet packet) (messages_in packet) → AllByRecursion IsOfStream (messages_in packet)
packet_of_stream packet differs = all_of_stream (ending_of_packet packet) (messages_in packet) (not_broken packet differs)

-- ---- what one lane has given

abbrev pub more_of : ℕ → List Message → (ℕ → List Message) → ℕ → List Message
more_of lane more taken other = if other == lane then more else taken other

pub more_here : (lane : ℕ) (more : List Message) (taken : ℕ → List Message) → more_of lane more taken lane ≡ more
more_here lane more taken = grind (arith, nat_tests)

pub more_there : (lane : ℕ) (more : List Message) (taken : ℕ → List Message) (other : ℕ) → other ≢ lane → more_of lane more taken other ≡ taken other
more_there lane more taken other differ = grind (arith, nat_tests)

left_by : (e : Ending) (l : List Message) → AllByRecursion IsMessage l → EndsBy e l → IsLeftBy (state_by e) l
left_by More l are ends = (are, ends)
left_by Whole l are ends = (are, inl ends)
left_by BrokenOff l are ends = (are, inr ends)

pub taken_same : (lanes : ℕ) (states : List LaneState) (old new taken other : ℕ → List Message) → ((lane : ℕ) → lane < lanes → taken lane ≡ other lane)
    → HasTakenParts lanes states old new taken → HasTakenParts lanes states old new other
taken_same lanes states old new taken other same parts = record {
  added = λ lane below. parts.added lane below ∙ ap (λ (l : List Message). old lane ++ l) (same lane below);
  left = λ lane below. subst (IsLeftBy (state_at states lane)) (same lane below) (parts.left lane below);
}

-- nothing was taken of any lane
pub received_same : (ends : List Receiver) (lane : ℕ) (new other : Receiver) (o : ℕ)
    → lane < length ends → received new ≡ received (get_or ends lane other) → at_lane received (set ends lane new) o ≡ at_lane received ends o
received_same [] lane new other o below same = refl
received_same (end ∷ ends) zero new other zero below same = same
received_same (end ∷ ends) zero new other (suc o) below same = refl
received_same (end ∷ ends) (suc lane) new other zero below same = refl
received_same (end ∷ ends) (suc lane) new other (suc o) below same = received_same ends lane new other o (omega arith) same

module _ (lanes lane : ℕ) (ends : List Receiver) (new other : Receiver) (states : List LaneState) (passed : ℕ → List Message) (held : List Held) where
  -- where the lane's other end is gone
  pub taken_none : lane < length ends → received new ≡ received (get_or ends lane other) → AreHolding lanes states passed (at_lane received ends) held
      → HasTakenParts lanes states passed (at_lane received (set ends lane new)) (at_lane in_held held)
  taken_none below same holding = record {
    added = λ o b. received_same ends lane new other o below same ∙ holding.parts.added o b;
    left = holding.parts.left;
  }

  -- where it has given these messages, and nothing was held of it
  pub taken_more : (packet : Packet) → lane < lanes → lane < length ends → lane < length states → next_of (at_lane in_held held lane) ≡ Nothing
      → AllByRecursion IsMessage (messages_in packet) → EndsBy (ending_of_packet packet) (messages_in packet)
      → received new ≡ received (get_or ends lane other) ++ messages_in packet → AreHolding lanes states passed (at_lane received ends) held
      → HasTakenParts lanes (set states lane (state_by (ending_of_packet packet))) passed (at_lane received (set ends lane new))
      (more_of lane (messages_in packet) (at_lane in_held held))
  taken_more packet below within within_states none are is_end given holding =
      let more : List Message = messages_in packet in
      let taken : ℕ → List Message = more_of lane more (at_lane in_held held) in
      let e : Ending = ending_of_packet packet in
      record {
        added = λ o b. by_lane (λ (l : ℕ). l < lanes → at_lane received (set ends lane new) l ≡ passed l ++ taken l) lane o
            (λ b. at_lane-set received ends lane new within ∙ given ∙ ap (λ (l : List Message). l ++ more) (sym (at_lane-get received ends lane other within)
            ∙ holding.parts.added lane b ∙ ap (λ (l : List Message). passed lane ++ l) (nothing_next (at_lane in_held held lane) none)
            ∙ append-nil (passed lane)) ∙ ap (λ (l : List Message). passed lane ++ l) (sym (more_here lane more (at_lane in_held held))))
            (λ differ b. at_lane-others received ends lane new o differ ∙ holding.parts.added o b
            ∙ ap (λ (l : List Message). passed o ++ l) (sym (more_there lane more (at_lane in_held held) o differ))) b;
        left = λ o b. by_lane (λ (l : ℕ). l < lanes → IsLeftBy (state_at (set states lane (state_by e)) l) (taken l)) lane o
            (λ b. subst (λ (s : LaneState). IsLeftBy s (taken lane)) (sym (get_or-set_same states lane (state_by e) Open within_states))
            (subst (IsLeftBy (state_by e)) (sym (more_here lane more (at_lane in_held held))) (left_by e more are is_end)))
            (λ differ b. subst (λ (s : LaneState). IsLeftBy s (taken o)) (sym (get_or-set_other states lane o (state_by e) Open differ))
            (subst (IsLeftBy (state_at states o)) (sym (more_there lane more (at_lane in_held held) o differ)) (holding.parts.left o b))) b;
      }

-- what is held then
pub held_more : (lane : ℕ) (held : List Held) (given : Held) (more : List Message) (other : ℕ) → lane < length held → in_held given ≡ more
    → more_of lane more (at_lane in_held held) other ≡ at_lane in_held (set held lane given) other
held_more lane held given more other below is =
    by_lane (λ (o : ℕ). more_of lane more (at_lane in_held held) o ≡ at_lane in_held (set held lane given) o) lane other
    (more_here lane more (at_lane in_held held) ∙ sym is ∙ sym (at_lane-set in_held held lane given below))
    (λ differ. more_there lane more (at_lane in_held held) other differ ∙ sym (at_lane-others in_held held lane given other differ))
