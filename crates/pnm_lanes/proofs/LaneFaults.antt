-- How a dealer, lanes and a gatherer end together by a fault.
use Rattle.pnm_lanes.proofs.Words.{◌≡◌, ◌≢◌, inl, inr, ℕ, ◌+◌, ◌<◌, true, List, [], ◌∷◌, ◌++◌, refl, sym, ap, subst, ◌∙◌, append_assoc, AllByRecursion, Message}
use Rattle.pnm_lanes.proofs.Words.{Begin, Row, ImageEnd, StreamEnd, Stop, Place, Between, Inside, After, Image, IsMessage, without_stop, EndsBy, Accepts}
use Rattle.pnm_lanes.proofs.Words.{IsLawful, place_of, IsPrefixOf, Completes, all_of_prefix, lawful_prefix, next_may_come, completion, stream_is_lawful}
use Rattle.pnm_lanes.proofs.Words.{ToolFault, CutOutside, ChannelOutside, TooLarge, OutOfOrder, Memory, Tool, Cut, More, Whole, BrokenOff, RefusesHead}
use Rattle.pnm_lanes.proofs.Words.{IsRefusedNext, dealt, IsLawfulTool, is_row_wise, AreTaken, prefix_of_prefix, head_is_refused_by_name, StageEnd, Well, Broken}
use Rattle.pnm_lanes.proofs.Words.{Fault, PeerGone, IsEnded, EndsAtMostOnce, HasFailed, HasEndedSo, prefix_goes_on, stream_ends_whole, ends_as, HasReceivedSo}
use Rattle.pnm_lanes.proofs.Words.{HasSentSo, HasGatheredSo, IsGathered, results_before, dealt_images, AreThere, IsFine, IsFirstOfThreads, IsFirstRefusedHead}
use Rattle.pnm_lanes.proofs.Words.{IsFaultOf, HasFailedInLanes, HaveThreadsRun}
use Rattle.pnm_lanes.proofs.LaneDue.{dealt_ends}
use Rattle.pnm_lanes.proofs.LaneHeads.{refused_head_is_dealt}
use Rattle.pnm_lanes.proofs.LaneLaws.{dealt_are_images, stream_is_dealt}
use Rattle.pnm_lanes.proofs.LaneStages.{all_of_ended, not_both, cut_prefix, whole_lane, together, lane_receives, results_dealt}

-- ---- a message of a list that ends at most once

-- without its last Stop a list is the same up to each message
stays : (m n : Message) (l : List Message) → without_stop (m ∷ n ∷ l) ≡ m ∷ without_stop (n ∷ l)
stays (Begin head) n l = refl
stays (Row row) n l = refl
stays ImageEnd n l = refl
stays StreamEnd n l = refl
stays Stop n l = refl

prefix_stays : (a : List Message) (m : Message) (b : List Message) → without_stop (a ++ m ∷ b) ≡ a ++ without_stop (m ∷ b)
prefix_stays [] m b = refl
prefix_stays (x ∷ []) m b = stays x m b
prefix_stays (x ∷ y ∷ a) m b = stays x y (a ++ m ∷ b) ∙ ap (λ (l : List Message). x ∷ l) (prefix_stays (y ∷ a) m b)

-- messages that go on don't lead behind the end of the stream
not_after : (place : Place) (l : List Message) → place ≢ After → EndsBy More l → place_of place l ≢ After
not_after place [] before more = before
not_after place (Begin head ∷ []) before more = λ same. absurd cc
not_after Between (Row row ∷ []) before more = λ same. absurd cc
not_after (Inside s y) (Row row ∷ []) before more = λ same. absurd cc
not_after After (Row row ∷ []) before more = before
not_after place (ImageEnd ∷ []) before more = λ same. absurd cc
not_after place (StreamEnd ∷ []) before more = absurd cc
not_after place (Stop ∷ []) before more = absurd cc
not_after place (Begin head ∷ n ∷ l) before more = not_after (Inside head.shape 0) (n ∷ l) (λ same. absurd cc) more.1
not_after Between (Row row ∷ n ∷ l) before more = not_after Between (n ∷ l) before more.1
not_after (Inside s y) (Row row ∷ n ∷ l) before more = not_after (Inside s (y + 1)) (n ∷ l) (λ same. absurd cc) more.1
not_after After (Row row ∷ n ∷ l) before more = absurd (before refl)
not_after place (ImageEnd ∷ n ∷ l) before more = not_after Between (n ∷ l) (λ same. absurd cc) more.1
not_after place (StreamEnd ∷ n ∷ l) before more = let none = more.0 in absurd cc
not_after place (Stop ∷ n ∷ l) before more = let none = more.0 in absurd cc

stop_may_come : (place : Place) → place ≢ After → Accepts place Stop
stop_may_come Between before = tt
stop_may_come (Inside s y) before = tt
stop_may_come After before = absurd (before refl)

-- each message of a list that is lawful without its last Stop is in order, where it ends at most once
in_order : (a : List Message) (m : Message) (b : List Message) → IsLawful (without_stop (a ++ m ∷ b)) → EndsAtMostOnce (a ++ m ∷ b)
    → Accepts (place_of Between a) m
in_order a Stop b lawful once = stop_may_come (place_of Between a) (not_after Between a (λ same. absurd cc) (prefix_goes_on once.0 a Stop b once.1))
in_order a (Begin head) b lawful once = next_may_come Between a (Begin head) (without_stop b) (subst IsLawful (prefix_stays a (Begin head) b) lawful)
in_order a (Row row) b lawful once = next_may_come Between a (Row row) (without_stop b) (subst IsLawful (prefix_stays a (Row row) b) lawful)
in_order a ImageEnd b lawful once = next_may_come Between a ImageEnd (without_stop b) (subst IsLawful (prefix_stays a ImageEnd b) lawful)
in_order a StreamEnd b lawful once = next_may_come Between a StreamEnd (without_stop b) (subst IsLawful (prefix_stays a StreamEnd b) lawful)

-- ---- what a lane refuses

-- never out of order, where the tool is row-wise
no_head_out_of_order : (tool : Tool) (m : Message) → is_row_wise tool ≡ true → RefusesHead tool m OutOfOrder → ⊥
no_head_out_of_order tool (Begin head) row_wise refused = let named = head_is_refused_by_name tool head OutOfOrder refused in let not = sym named.0
    ∙ row_wise in absurd cc
no_head_out_of_order tool (Row row) row_wise refused = refused
no_head_out_of_order tool ImageEnd row_wise refused = refused
no_head_out_of_order tool StreamEnd row_wise refused = refused
no_head_out_of_order tool Stop row_wise refused = refused

no_cut : (box : _) → is_row_wise (Cut box) ≡ true → ⊥
no_cut box row_wise = absurd cc

-- and never as cut outside
no_head_cut_outside : (tool : Tool) (m : Message) → is_row_wise tool ≡ true → RefusesHead tool m CutOutside → ⊥
no_head_cut_outside tool (Begin head) row_wise refused =
    let named = head_is_refused_by_name tool head CutOutside refused in
    no_cut named.0 (subst (λ (t : Tool). is_row_wise t ≡ true) named.1 row_wise)
no_head_cut_outside tool (Row row) row_wise refused = refused
no_head_cut_outside tool ImageEnd row_wise refused = refused
no_head_cut_outside tool StreamEnd row_wise refused = refused
no_head_cut_outside tool Stop row_wise refused = refused

module _ (lane lanes : ℕ) {l : List Message} (prefix rest : List Message) {i : List Message} where
  -- a head that a lane refuses is dealt from the first that the tool refuses
  head_of_all : {tool : Tool} (before after : List Message) (m : Message) {fault : ToolFault} → IsLawfulTool tool → is_row_wise tool ≡ true → lane < lanes
      → AllByRecursion IsMessage l → l ≡ prefix ++ rest → IsPrefixOf (without_stop i) (dealt lane lanes prefix) → i ≡ before ++ m ∷ after
      → AreTaken tool before → RefusesHead tool m fault → IsFirstRefusedHead tool fault l
  head_of_all before after (Row row) lawful row_wise below messages parts gets is taken refused = absurd refused
  head_of_all before after ImageEnd lawful row_wise below messages parts gets is taken refused = absurd refused
  head_of_all before after StreamEnd lawful row_wise below messages parts gets is taken refused = absurd refused
  head_of_all before after Stop lawful row_wise below messages parts gets is taken refused = absurd refused
  head_of_all {tool} before after (Begin part) {fault} lawful row_wise below messages parts gets is taken refused =
      let more : List Message = without_stop after ++ gets.0 in
      let whole : dealt lane lanes prefix ≡ before ++ Begin part ∷ more =
      gets.1 ∙ ap (λ (x : List Message). without_stop x ++ gets.0) is ∙ ap (λ (x : List Message). x ++ gets.0) (prefix_stays before (Begin part) after)
      ∙ append_assoc before (Begin part ∷ without_stop after) gets.0 in
      let found = refused_head_is_dealt tool lane lanes prefix before part more fault lawful row_wise below
      (all_of_prefix IsMessage prefix rest (subst (AllByRecursion IsMessage) parts messages)) whole taken refused in
      record {
        prefix = found.0;
        head = found.1;
        rest = found.2 ++ rest;
        parts = parts ∙ ap (λ (x : List Message). x ++ rest) found.3 ∙ append_assoc found.0 (Begin found.1 ∷ found.2) rest;
        taken = found.4;
        refused = found.5;
      }

  -- what a fault of a lane says of all messages, where they are lawful
  lane_refused : (tool : Tool) (fault : ToolFault) (before after : List Message) → IsLawfulTool tool → is_row_wise tool ≡ true → lane < lanes
      → AllByRecursion IsMessage l → IsLawful l → l ≡ prefix ++ rest → IsPrefixOf (without_stop i) (dealt lane lanes prefix) → IsLawful (without_stop i)
      → EndsAtMostOnce i → i ≡ before ++ after → AreTaken tool before → IsRefusedNext tool fault before after → IsFaultOf tool fault l
  lane_refused tool fault before [] lawful row_wise below messages whole parts gets ordered once is taken refused = absurd refused
  lane_refused tool CutOutside before (m ∷ after) lawful row_wise below messages whole parts gets ordered once is taken refused =
      absurd (no_head_cut_outside tool m row_wise refused.1)
  lane_refused tool ChannelOutside before (m ∷ after) lawful row_wise below messages whole parts gets ordered once is taken refused =
      (whole, head_of_all before after m lawful row_wise below messages parts gets is taken refused.1)
  lane_refused tool TooLarge before (m ∷ after) lawful row_wise below messages whole parts gets ordered once is taken refused =
      (whole, head_of_all before after m lawful row_wise below messages parts gets is taken refused.1)
  lane_refused tool Memory before (m ∷ after) lawful row_wise below messages whole parts gets ordered once is taken refused = tt
  lane_refused tool OutOfOrder before (m ∷ after) lawful row_wise below messages whole parts gets ordered once is taken (inl not) =
      absurd (not (refl, in_order before m after (subst (λ (x : List Message). IsLawful (without_stop x)) is ordered) (subst EndsAtMostOnce is once)))
  lane_refused tool OutOfOrder before (m ∷ after) lawful row_wise below messages whole parts gets ordered once is taken (inr refused) =
      absurd (no_head_out_of_order tool m row_wise refused)

  lane_failed : {tool : Tool} {fault : ToolFault} {o : List Message} → IsLawfulTool tool → is_row_wise tool ≡ true → lane < lanes
      → AllByRecursion IsMessage l → IsLawful l → l ≡ prefix ++ rest → IsPrefixOf (without_stop i) (dealt lane lanes prefix) → IsLawful (without_stop i)
      → EndsAtMostOnce i → HasFailed tool fault i o → IsFaultOf tool fault l
  lane_failed {tool} {fault} lawful row_wise below messages whole parts gets ordered once failed =
      elim failed.refused.refused [
        | inl memory ↦ subst (λ (f : ToolFault). IsFaultOf tool f l) (sym memory.0) tt
        | inr next ↦ lane_refused tool fault failed.refused.accepted failed.refused.rest lawful row_wise below messages whole parts
            gets ordered once failed.refused.parts failed.refused.taken next.1
      ]

-- ---- what the dealer and the gatherer refuse

dealer_failed : (tool : Tool) (fault : ToolFault) (l : List Message) → HasReceivedSo (Fault fault) l → IsFaultOf tool fault l
dealer_failed tool CutOutside l input = absurd input
dealer_failed tool ChannelOutside l input = absurd input
dealer_failed tool TooLarge l input = absurd input
dealer_failed tool OutOfOrder l input = input.1
dealer_failed tool Memory l input = tt

-- a dealer that is fine received a lawful list
dealer_fine : (dealer : StageEnd) (l : List Message) → IsFine dealer → HasReceivedSo dealer l → IsLawful l
dealer_fine Well l fine input = input.0
dealer_fine Broken l fine input = input.0
dealer_fine (Fault fault) l fine input = absurd fine
dealer_fine PeerGone l fine input = absurd fine

dealer_ended : (dealer : StageEnd) (l : List Message) → dealer ≢ PeerGone → HasReceivedSo dealer l → IsEnded l
dealer_ended Well l there input = inl input.1
dealer_ended Broken l there input = inr input.1
dealer_ended (Fault CutOutside) l there input = absurd input
dealer_ended (Fault ChannelOutside) l there input = absurd input
dealer_ended (Fault TooLarge) l there input = absurd input
dealer_ended (Fault OutOfOrder) l there input = input.0
dealer_ended (Fault Memory) l there input = input
dealer_ended PeerGone l there input = absurd (there refl)

gatherer_failed : (tool : Tool) (gatherer : StageEnd) (fault : ToolFault) (js : List Image) (lanes : ℕ) (r : ℕ → List Message) (g l : List Message)
    → gatherer ≡ Fault fault → HasGatheredSo gatherer js lanes r g → IsFaultOf tool fault l
gatherer_failed tool gatherer fault js lanes r g l is so =
    subst (λ (f : ToolFault). IsFaultOf tool f l) (sym (subst (λ (e : StageEnd). HasGatheredSo e js lanes r g) is so)) tt

-- ---- together

module _ {tool : Tool} {lanes : ℕ} {dealer : StageEnd} {e : ℕ → StageEnd} {gatherer : StageEnd} {l g : List Message} {d i o r : ℕ → List Message}
    (run : HaveThreadsRun tool lanes dealer e gatherer l d i o r g) where
  -- images that complete what all lanes were dealt
  completed : (is : List Image) × Completes is (together run).accepted
  completed =
      let common = together run in
      let found = completion common.accepted (all_of_prefix IsMessage common.accepted common.rest (subst (AllByRecursion IsMessage) common.parts run.messages))
      common.lawful in
      (found.0, record { images = found.1; prefix = found.2 })

  -- what a lane received is lawful without a last Stop
  lane_is_lawful : (lane : ℕ) → lane < lanes → IsLawful (without_stop (i lane))
  lane_is_lawful lane below =
      let found = completed in
      let seen = subst (IsPrefixOf (without_stop (i lane))) (stream_is_dealt lane lanes found.0 found.1.images) (lane_receives run found.1 lane below) in
      lawful_prefix Between (without_stop (i lane)) seen.0
      (subst IsLawful seen.1 (stream_is_lawful (dealt_images lane lanes found.0) (dealt_are_images lane lanes found.0 found.1.images)))

  lane_cause : {fault : ToolFault} (lane : ℕ) → IsLawfulTool tool → is_row_wise tool ≡ true → lane < lanes → IsLawful l → e lane ≡ Fault fault
      → IsFaultOf tool fault l
  lane_cause lane lawful row_wise below whole is =
      let common = together run in
      let gets = prefix_of_prefix (without_stop (i lane)) (without_stop (d lane)) (dealt lane lanes common.accepted)
      (cut_prefix (i lane) (d lane) (run.received lane below)) (common.sent lane below) in
      lane_failed lane lanes common.accepted common.rest lawful row_wise below run.messages whole common.parts gets
      (lane_is_lawful lane below) (run.stages lane below).once (subst (λ (x : StageEnd). HasEndedSo tool x (i lane) (o lane)) is (run.stages lane below).ended)

  -- the cause of a fault
  cause_tells : (fault : ToolFault) → IsLawfulTool tool → is_row_wise tool ≡ true → IsFirstOfThreads lanes dealer e gatherer fault → IsFaultOf tool fault l
  cause_tells fault lawful row_wise (inl dealer) = dealer_failed tool fault l (subst (λ (x : StageEnd). HasReceivedSo x l) dealer run.input)
  cause_tells fault lawful row_wise (inr (inl found)) = lane_cause found.1.0 lawful row_wise found.1.1 (dealer_fine dealer l found.0 run.input) found.1.2
  cause_tells fault lawful row_wise (inr (inr gathered)) =
      let found = completed in
      let js : List Image = results_before tool found.0 in
      gatherer_failed tool gatherer fault js lanes r g l gathered.2 (run.gathered.images js (results_dealt run lawful row_wise found.0 found.1)).so

-- where the gatherer ended well none has failed
whole_part : {lanes : ℕ} {g : List Message} {r : ℕ → List Message} → IsGathered Well lanes r g → (lane : ℕ) → lane < lanes → EndsBy Whole (r lane)
whole_part {lanes = lanes} {g = g} gathered lane below =
    subst (EndsBy Whole) (sym (gathered.ended.1 lane below)) (dealt_ends Whole lane lanes g gathered.ended.0)

no_fault_well : {tool : Tool} {lanes : ℕ} {dealer : StageEnd} {e : ℕ → StageEnd} {l g : List Message} {d i o r : ℕ → List Message}
    (run : HaveThreadsRun tool lanes dealer e Well l d i o r g) (fault : ToolFault)
    → 0 < lanes → ((lane : ℕ) → lane < lanes → e lane ≢ PeerGone) → IsFirstOfThreads lanes dealer e Well fault → ⊥
no_fault_well {tool = tool} {lanes = lanes} {e = e} {l = l} {d = d} {i = i} {o = o} {r = r} run fault some there (inl dealer) =
    let lane = whole_lane tool (e 0) (i 0) (o 0) (r 0) (run.stages 0 some).ended (there 0 some) (run.taken 0 some) (whole_part run.gathered 0 some) in
    let whole : EndsBy Whole (i 0) = subst (EndsBy Whole) (sym lane.well.stream.messages) (stream_ends_whole lane.well.images) in
    let sent = subst (λ (x : StageEnd). HasSentSo x 0 lanes l (d 0)) dealer (run.dealt 0 some) in
    let broken : EndsBy BrokenOff (d 0) = subst (EndsBy BrokenOff) (sym sent.1) (ends_as BrokenOff sent.0 Stop sent.2 refl) in
    not_both (d 0) (subst (EndsBy Whole) (sym (all_of_ended (i 0) (d 0) (run.received 0 some) (inl whole) (inr broken))) whole) broken
no_fault_well {tool = tool} {lanes = lanes} {e = e} {i = i} {o = o} {r = r} run fault some there (inr (inl failed)) =
    let n : ℕ = failed.1.0 in
    let below : n < lanes = failed.1.1 in
    let lane = whole_lane tool (e n) (i n) (o n) (r n) (run.stages n below).ended (there n below) (run.taken n below) (whole_part run.gathered n below) in
    let not = sym lane.is_well ∙ failed.1.2 in
    absurd cc
no_fault_well run fault some there (inr (inr gathered)) = let not = gathered.2 in absurd cc

pub together_failed : {tool : Tool} {lanes : ℕ} {dealer : StageEnd} {e : ℕ → StageEnd} {l g : List Message} {d i o r : ℕ → List Message} (gatherer : StageEnd)
    → HaveThreadsRun tool lanes dealer e gatherer l d i o r g → (fault : ToolFault)
    → 0 < lanes → IsLawfulTool tool → is_row_wise tool ≡ true → IsFirstOfThreads lanes dealer e gatherer fault → AreThere lanes dealer e gatherer
    → HasFailedInLanes tool fault l g
together_failed {dealer = dealer} {l = l} Well run fault some lawful row_wise cause there = absurd (no_fault_well run fault some there.1 cause)
together_failed {dealer = dealer} {l = l} Broken run fault some lawful row_wise cause there = record {
  of_input = cause_tells run fault lawful row_wise cause;
  answer = run.gathered.ended.2;
  ends = dealer_ended dealer l there.0 run.input;
}
together_failed {dealer = dealer} {l = l} (Fault other) run fault some lawful row_wise cause there = record {
  of_input = cause_tells run fault lawful row_wise cause;
  answer = run.gathered.ended.2;
  ends = dealer_ended dealer l there.0 run.input;
}
together_failed PeerGone run fault some lawful row_wise cause there = absurd (there.2 refl)
