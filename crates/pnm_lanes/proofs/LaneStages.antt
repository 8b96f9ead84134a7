-- A dealer, lanes and a gatherer together are a stage: what is due, and how it ends.
use Rattle.pnm_lanes.proofs.Words.{◌≡◌, ◌≢◌, inl, inr, ℕ, ◌<◌, true, List, [], ◌∷◌, ◌++◌, refl, sym, ap, subst, ◌∙◌, append-nil, Message, Begin, Row, ImageEnd}
use Rattle.pnm_lanes.proofs.Words.{StreamEnd, Stop, Place, Between, Image, messages_of_stream, without_stop, ending_of, EndsBy, Accepts, IsLawful, IsLawfulFrom}
use Rattle.pnm_lanes.proofs.Words.{place_after, IsPrefixOf, Completes, Tool, More, Whole, BrokenOff, dealt, IsLawfulTool, is_row_wise, output_due, StopsLast}
use Rattle.pnm_lanes.proofs.Words.{lawful_stops, keeps_all, prefix_of_prefix, unbroken_keeps_all, StageEnd, Well, Broken, Fault, PeerGone, IsPrefixOfDue}
use Rattle.pnm_lanes.proofs.Words.{IsEnded, HasEndedWell, HasEndedSo, one_ending, nothing_follows, stream_ends_whole, prefix_without_stop, stop_is_cut, ends_as}
use Rattle.pnm_lanes.proofs.Words.{AreDealt, IsStopped, results_before, IsFine, HaveThreadsRun}
use Rattle.pnm_lanes.proofs.DealtLaws.{dealt_prefix}
use Rattle.pnm_lanes.proofs.LaneDue.{lane_gives_due, lane_gives_results, results_before_are_images, gathered_is_due}
use Rattle.pnm_lanes.proofs.LanePrefixes.{lane_gets, IsCommonPrefix, common_prefix}

-- ---- lists that have ended

-- a list that has ended goes no further
pub all_of_ended : (a b : List Message) → IsPrefixOf a b → IsEnded a → IsEnded b → b ≡ a
all_of_ended a b prefix first second =
    prefix.1 ∙ ap (λ (x : List Message). a ++ x) (nothing_follows a prefix.0 first (subst IsEnded prefix.1 second)) ∙ append-nil a

pub not_both : {A : Type 0} (l : List Message) → EndsBy Whole l → EndsBy BrokenOff l → A
not_both l whole broken = let same = one_ending Whole BrokenOff l whole broken in absurd cc

not_yet : {A : Type 0} (l : List Message) → EndsBy More l → EndsBy Whole l → A
not_yet l more whole = let same = one_ending More Whole l more whole in absurd cc

-- what stands before the last message of a lawful list goes on
one_goes_on : (m x : Message) (place : Place) → Accepts place m → Accepts (place_after place m) x → ending_of m ≡ More
one_goes_on (Begin head) x place may next = refl
one_goes_on (Row row) x place may next = refl
one_goes_on ImageEnd x place may next = refl
one_goes_on StreamEnd x place may next = absurd next
one_goes_on Stop x place may next = absurd next

before_last : (place : Place) (l : List Message) (m : Message) → IsLawfulFrom place (l ++ m ∷ []) → EndsBy More l
before_last place [] m lawful = refl
before_last place (x ∷ []) m lawful = one_goes_on x m place lawful.0 lawful.1.0
before_last place (x ∷ y ∷ l) m lawful = (one_goes_on x y place lawful.0 lawful.1.0, before_last (place_after place x) (y ∷ l) m lawful.1)

-- a lawful list that is whole without a last Stop has none
whole_by : (l : List Message) → IsLawful l → StopsLast l → EndsBy Whole (without_stop l) → EndsBy Whole l
whole_by l lawful (inl on) whole = subst (EndsBy Whole) (keeps_all l on) whole
whole_by l lawful (inr cut) whole =
    let prefix : without_stop l ≡ cut.0 = ap without_stop cut.1 ∙ stop_is_cut cut.0 in
    not_yet cut.0 (before_last Between cut.0 Stop (subst IsLawful cut.1 lawful)) (subst (EndsBy Whole) prefix whole)

pub stopped_is_broken : (l : List Message) → IsStopped l → EndsBy BrokenOff l
stopped_is_broken l is = subst (EndsBy BrokenOff) (sym is.1) (ends_as BrokenOff is.0 Stop is.2 refl)

-- images complete each prefix of what they complete
pub completes_prefix : (is : List Image) (l accepted rest : List Message) → l ≡ accepted ++ rest → Completes is l → Completes is accepted
completes_prefix is l accepted rest parts completes = record {
  images = completes.images;
  prefix = prefix_of_prefix (without_stop accepted) (without_stop l) (messages_of_stream is)
      (subst (λ (x : List Message). IsPrefixOf (without_stop accepted) (without_stop x)) (sym parts) (prefix_without_stop accepted rest)) completes.prefix;
}

pub cut_prefix : (a b : List Message) → IsPrefixOf a b → IsPrefixOf (without_stop a) (without_stop b)
cut_prefix a b prefix = subst (λ (x : List Message). IsPrefixOf (without_stop a) (without_stop x)) (sym prefix.1) (prefix_without_stop a prefix.0)

-- ---- one lane

-- what a lane sent was broken off, unless it ended well or saw the other end of a ring dropped
pub sent_broken : (tool : Tool) (end : StageEnd) (i o : List Message) → HasEndedSo tool end i o → end ≢ PeerGone → end ≢ Well → EndsBy BrokenOff o
sent_broken tool Well i o ended there other = absurd (other refl)
sent_broken tool Broken i o ended there other = ended.full.ends BrokenOff ended.ends
sent_broken tool (Fault fault) i o ended there other = subst (EndsBy BrokenOff) (sym ended.answer) (ends_as BrokenOff ended.given Stop ended.unbroken refl)
sent_broken tool PeerGone i o ended there other = absurd (there refl)

-- of which a whole stream was gathered
pub record IsWholeLane (tool : Tool) (end : StageEnd) (i o r : List Message) : Type 0 where
  pub is_well : end ≡ Well
  pub well : HasEndedWell tool i o
  pub all : o ≡ r

-- ended otherwise than well
not_whole : {A : Type 0} (tool : Tool) (end : StageEnd) (i o r : List Message) → HasEndedSo tool end i o → end ≢ PeerGone → end ≢ Well → IsPrefixOf r o
    → EndsBy Whole r → A
not_whole tool end i o r ended there other prefix whole =
    let broken = sent_broken tool end i o ended there other in
    not_both o (subst (EndsBy Whole) (sym (all_of_ended r o prefix (inl whole) (inr broken))) whole) broken

pub whole_lane : (tool : Tool) (end : StageEnd) (i o r : List Message) → HasEndedSo tool end i o → end ≢ PeerGone → IsPrefixOf r o → EndsBy Whole r
    → IsWholeLane tool end i o r
whole_lane tool Well i o r ended there prefix whole = record {
  is_well = refl;
  well = ended;
  all = all_of_ended r o prefix (inl whole) (inl (subst (EndsBy Whole) (sym ended.answer) (stream_ends_whole ended.results)));
}
whole_lane tool Broken i o r ended there prefix whole = not_whole tool Broken i o r ended there (λ same. absurd cc) prefix whole
whole_lane tool (Fault fault) i o r ended there prefix whole = not_whole tool (Fault fault) i o r ended there (λ same. absurd cc) prefix whole
whole_lane tool PeerGone i o r ended there prefix whole = absurd (there refl)

pub fine_is_there : (end : StageEnd) → IsFine end → end ≢ PeerGone
fine_is_there Well fine = λ same. absurd cc
fine_is_there Broken fine = λ same. absurd cc
fine_is_there (Fault fault) fine = absurd fine
fine_is_there PeerGone fine = absurd fine

-- ---- what is due

module _ {tool : Tool} {lanes : ℕ} {dealer : StageEnd} {e : ℕ → StageEnd} {gatherer : StageEnd} {l g : List Message} {d i o r : ℕ → List Message} where
  -- what all lanes were dealt
  pub together : HaveThreadsRun tool lanes dealer e gatherer l d i o r g → IsCommonPrefix lanes lanes l d
  together run = common_prefix lanes run.prefix

  -- what a lane receives of what images complete
  pub lane_receives : (run : HaveThreadsRun tool lanes dealer e gatherer l d i o r g) {is : List Image} → Completes is (together run).accepted → (lane : ℕ)
      → lane < lanes → IsPrefixOf (without_stop (i lane)) (dealt lane lanes (messages_of_stream is))
  lane_receives run {is} completes lane below =
      let common = together run in
      let gets = lane_gets lane lanes common.accepted (d lane) (i lane) common.lawful (run.stages lane below).once (run.received lane below)
      (common.sent lane below) in
      prefix_of_prefix (without_stop (i lane)) (dealt lane lanes (without_stop common.accepted)) (dealt lane lanes (messages_of_stream is)) gets
      (dealt_prefix lane lanes (without_stop common.accepted) (messages_of_stream is) completes.prefix)

  -- what is gathered from a lane
  lane_is_due : (run : HaveThreadsRun tool lanes dealer e gatherer l d i o r g) → IsLawfulTool tool → is_row_wise tool ≡ true → {is : List Image}
      → Completes is (together run).accepted → (lane : ℕ) → lane < lanes → IsPrefixOf (without_stop (r lane)) (dealt lane lanes (output_due tool is))
  lane_is_due run lawful row_wise {is} completes lane below =
      let gave = lane_gives_due tool lane lanes is lawful row_wise below completes.images (lane_receives run completes lane below)
      (run.stages lane below).due in
      prefix_of_prefix (without_stop (r lane)) (without_stop (o lane)) (dealt lane lanes (output_due tool is))
      (cut_prefix (r lane) (o lane) (run.taken lane below)) gave

pub results_dealt : {tool : Tool} {lanes : ℕ} {dealer : StageEnd} {e : ℕ → StageEnd} {gatherer : StageEnd} {l g : List Message} {d i o r : ℕ → List Message}
    (run : HaveThreadsRun tool lanes dealer e gatherer l d i o r g)
    → IsLawfulTool tool → is_row_wise tool ≡ true → (is : List Image) → Completes is (together run).accepted → AreDealt (results_before tool is) lanes r
results_dealt {tool = tool} {lanes = lanes} {r = r} run lawful row_wise is completes = record {
  images = results_before_are_images tool is lawful completes.images;
  prefixes = λ lane below. lane_gives_results tool lane lanes is (without_stop (r lane)) (lane_is_due run lawful row_wise completes lane below);
}

-- what was sent is a prefix of what is due for a lawful prefix of what was received
pub together_due : {tool : Tool} {lanes : ℕ} {dealer : StageEnd} {e : ℕ → StageEnd} {gatherer : StageEnd} {l g : List Message} {d i o r : ℕ → List Message}
    → HaveThreadsRun tool lanes dealer e gatherer l d i o r g
    → 0 < lanes → IsLawfulTool tool → is_row_wise tool ≡ true → IsPrefixOfDue (output_due tool) l g
together_due {tool = tool} {lanes = lanes} {g = g} {r = r} run some lawful row_wise =
    let common = together run in
    record {
      accepted = common.accepted;
      rest = common.rest;
      parts = common.parts;
      lawful = common.lawful;
      prefix = λ is completes.
          let images = run.gathered.images (results_before tool is) (results_dealt run lawful row_wise is completes) in
          gathered_is_due tool 0 lanes is (without_stop (r 0)) (without_stop g) (lane_is_due run lawful row_wise completes 0 some) images.prefix (λ whole.
          let first = run.gathered.whole (whole_by g run.gathered.lawful (lawful_stops Between g run.gathered.lawful) whole) 0 some in
          subst (EndsBy Whole) (sym (unbroken_keeps_all Whole (r 0) tt first)) first);
    }
