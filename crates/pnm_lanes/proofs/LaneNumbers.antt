-- What is known of each lane by its number, once all threads of a tool over several lanes have ended; and that they are a stage.
use Rattle.pnm_lanes.proofs.Words.{◌≡◌, ◌≢◌, ◌⊎◌, inl, inr, ℕ, zero, suc, ◌+◌, ◌<◌, true, List, [], ◌∷◌, ◌++◌, length, refl, sym, ap, subst, ◌∙◌, arith, Sender}
use Rattle.pnm_lanes.proofs.Words.{Receiver, sent, received, known_items, Message, IsPrefixOf, ToolFault, Tool, IsLawfulTool, is_row_wise, StageEnd, Well}
use Rattle.pnm_lanes.proofs.Words.{Broken, Fault, PeerGone, IsStage, still_pair, StageDone, LanesDone, LaneRingEnds, OuterRingEnds, AtEachFrom, HasLane}
use Rattle.pnm_lanes.proofs.Words.{HasSentSo, IsPrefixOfDealt, at_lane, AreSameInputs, IsGathered, AreUnused, ArePairs, end_of_both, end_of_lanes, AreLanesRun}
use Rattle.pnm_lanes.proofs.Words.{HaveRun, HasRunLanes, IsFine, IsEndOfAll, HaveThreadsRun}
use Rattle.pnm_lanes.proofs.MergeSteps.{HavePassed}
use Rattle.pnm_lanes.proofs.LaneRuns.{lanes_are_a_stage}

-- ---- the rings

pub as_many_unused : (ss : List Sender) (es : List LaneRingEnds) (rs : List Receiver) → AreUnused ss es rs → (length ss ≡ length es) × (length rs ≡ length es)
as_many_unused [] [] [] unused = (refl, refl)
as_many_unused [] [] (r ∷ rs) unused = absurd unused
as_many_unused [] (e ∷ es) rs unused = absurd unused
as_many_unused (s ∷ ss) [] rs unused = absurd unused
as_many_unused (s ∷ ss) (e ∷ es) [] unused = absurd unused
as_many_unused (s ∷ ss) (e ∷ es) (r ∷ rs) unused =
    let rest = as_many_unused ss es rs unused.3 in
    (ap suc rest.0, ap suc rest.1)

-- they are still pairs once the threads have ended
pub pairs_after : (tool : Tool) (end : StageEnd) (lanes n : ℕ) (l : List Message) (ss ss' : List Sender) (es : List LaneRingEnds) (ds : List StageDone)
    (rs rs' : List Receiver)
    → AreUnused ss es rs → AtEachFrom (HasLane end lanes l) n ss ss' → AreLanesRun tool es ds → AreSameInputs rs rs' → ArePairs ss' ds rs'
pairs_after tool end lanes n l [] [] [] [] [] [] unused dealt run same = tt
pairs_after tool end lanes n l [] (s' ∷ ss') es ds rs rs' unused dealt run same = absurd dealt
pairs_after tool end lanes n l [] [] [] (d ∷ ds) rs rs' unused dealt run same = absurd run
pairs_after tool end lanes n l [] [] [] [] [] (r' ∷ rs') unused dealt run same = absurd same
pairs_after tool end lanes n l [] [] [] [] (r ∷ rs) rs' unused dealt run same = absurd unused
pairs_after tool end lanes n l [] [] (e ∷ es) ds rs rs' unused dealt run same = absurd unused
pairs_after tool end lanes n l (s ∷ ss) [] es ds rs rs' unused dealt run same = absurd dealt
pairs_after tool end lanes n l (s ∷ ss) (s' ∷ ss') [] ds rs rs' unused dealt run same = absurd unused
pairs_after tool end lanes n l (s ∷ ss) (s' ∷ ss') (e ∷ es) [] rs rs' unused dealt run same = absurd run
pairs_after tool end lanes n l (s ∷ ss) (s' ∷ ss') (e ∷ es) (d ∷ ds) [] rs' unused dealt run same = absurd unused
pairs_after tool end lanes n l (s ∷ ss) (s' ∷ ss') (e ∷ es) (d ∷ ds) (r ∷ rs) [] unused dealt run same = absurd same
pairs_after tool end lanes n l (s ∷ ss) (s' ∷ ss') (e ∷ es) (d ∷ ds) (r ∷ rs) (r' ∷ rs') unused dealt run same = (
  still_pair s s' e.input d.input unused.0 dealt.0.ring run.0.0,
  still_pair e.output d.output r r' unused.1 run.0.1 same.0,
  pairs_after tool end lanes (n + 1) l ss ss' es ds rs rs' unused.3 dealt.1 run.1 same.1,
)

-- nothing had passed over them
record NothingPassed (ss : List Sender) (es : List LaneRingEnds) (rs : List Receiver) : Type 0 where
  to_lanes : (lane : ℕ) → at_lane sent ss lane ≡ []
  by_lanes : (lane : ℕ) → at_lane (λ (e : LaneRingEnds). received e.input) es lane ≡ []
  of_lanes : (lane : ℕ) → at_lane (λ (e : LaneRingEnds). sent e.output) es lane ≡ []
  from_lanes : (lane : ℕ) → at_lane received rs lane ≡ []

first_or : {X : Type 0} (of : X → List Message) (x : X) (xs : List X) → of x ≡ [] → ((lane : ℕ) → at_lane of xs lane ≡ []) → (lane : ℕ)
    → at_lane of (x ∷ xs) lane ≡ []
first_or of x xs one rest zero = one
first_or of x xs one rest (suc lane) = rest lane

nothing_passed : (ss : List Sender) (es : List LaneRingEnds) (rs : List Receiver) → AreUnused ss es rs → NothingPassed ss es rs
nothing_passed [] [] [] unused = record { to_lanes = λ lane. refl; by_lanes = λ lane. refl; of_lanes = λ lane. refl; from_lanes = λ lane. refl }
nothing_passed [] [] (r ∷ rs) unused = absurd unused
nothing_passed [] (e ∷ es) rs unused = absurd unused
nothing_passed (s ∷ ss) [] rs unused = absurd unused
nothing_passed (s ∷ ss) (e ∷ es) [] unused = absurd unused
nothing_passed (s ∷ ss) (e ∷ es) (r ∷ rs) unused =
    let rest = nothing_passed ss es rs unused.3 in
    record {
      to_lanes = first_or sent s ss unused.2.0 rest.to_lanes;
      by_lanes = first_or (λ (x : LaneRingEnds). received x.input) e es unused.2.1 rest.by_lanes;
      of_lanes = first_or (λ (x : LaneRingEnds). sent x.output) e es unused.2.2 rest.of_lanes;
      from_lanes = first_or received r rs unused.2.3 rest.from_lanes;
    }

-- what was added is all
all_of_it : {old new : List Message} (more : List Message) → new ≡ old ++ more → old ≡ [] → more ≡ new
all_of_it more added none = sym (added ∙ ap (λ (x : List Message). x ++ more) none)

-- ---- the lane of a number

-- what was dealt to it
dealt_of : (end : StageEnd) (lanes n : ℕ) (l : List Message) (ss ss' : List Sender) → ((lane : ℕ) → at_lane sent ss lane ≡ [])
    → AtEachFrom (HasLane end lanes l) n ss ss'
    → (lane : ℕ) → lane < length ss → HasSentSo end (n + lane) lanes l (at_lane sent ss' lane) × IsPrefixOfDealt (n + lane) lanes l (at_lane sent ss' lane)
dealt_of end lanes n l [] ss' none dealt lane below = absurd (omega (arith, below))
dealt_of end lanes n l (s ∷ ss) [] none dealt lane below = absurd dealt
dealt_of end lanes n l (s ∷ ss) (s' ∷ ss') none dealt zero below =
    let one = dealt.0 in
    let all : one.gave ≡ sent s' = all_of_it one.gave one.output (none 0) in
    let here : n ≡ n + 0 = omega arith in
    subst (λ (k : ℕ). HasSentSo end k lanes l (sent s') × IsPrefixOfDealt k lanes l (sent s')) here
    (subst (λ (x : List Message). HasSentSo end n lanes l x × IsPrefixOfDealt n lanes l x) all (one.ended, one.prefix))
dealt_of end lanes n l (s ∷ ss) (s' ∷ ss') none dealt (suc lane) below =
    let there : n + 1 + lane ≡ n + suc lane = omega arith in
    subst (λ (k : ℕ). HasSentSo end k lanes l (at_lane sent ss' lane) × IsPrefixOfDealt k lanes l (at_lane sent ss' lane)) there
    (dealt_of end lanes (n + 1) l ss ss' (λ k. none (suc k)) dealt.1 lane (omega (arith, below)))

-- how it ended
abbrev end_at : List StageDone → ℕ → StageEnd
end_at [] lane = Well
end_at (d ∷ ds) zero = d.end
end_at (d ∷ ds) (suc lane) = end_at ds lane

-- what it received and sent
filter_of : {tool : Tool} (es : List LaneRingEnds) (ds : List StageDone) → ((lane : ℕ) → at_lane (λ (e : LaneRingEnds). received e.input) es lane ≡ [])
    → ((lane : ℕ) → at_lane (λ (e : LaneRingEnds). sent e.output) es lane ≡ []) → AreLanesRun tool es ds → (lane : ℕ) → lane < length es
    → IsStage tool (end_at ds lane) (at_lane (λ (d : StageDone). received d.input) ds lane) (at_lane (λ (d : StageDone). sent d.output) ds lane)
filter_of [] ds no_input no_output run lane below = absurd (omega (arith, below))
filter_of (e ∷ es) [] no_input no_output run lane below = absurd run
filter_of {tool} (e ∷ es) (d ∷ ds) no_input no_output run zero below =
    let one = run.0.2 in
    subst (λ (x : List Message). IsStage tool d.end x (sent d.output)) (all_of_it one.took one.input (no_input 0))
    (subst (IsStage tool d.end one.took) (all_of_it one.gave one.output (no_output 0)) one.stage)
filter_of (e ∷ es) (d ∷ ds) no_input no_output run (suc lane) below =
    filter_of es ds (λ k. no_input (suc k)) (λ k. no_output (suc k)) run.1 lane (omega (arith, below))

-- what passed over its rings
passed_of : (ss : List Sender) (ds : List StageDone) (rs : List Receiver) → HavePassed ss ds rs → (lane : ℕ) → lane < length ds
    → IsPrefixOf (at_lane (λ (d : StageDone). received d.input) ds lane) (at_lane sent ss lane)
    × IsPrefixOf (at_lane received rs lane) (at_lane (λ (d : StageDone). sent d.output) ds lane)
passed_of ss [] rs passed lane below = absurd (omega (arith, below))
passed_of [] (d ∷ ds) rs passed lane below = absurd passed
passed_of (s ∷ ss) (d ∷ ds) [] passed lane below = absurd passed
passed_of (s ∷ ss) (d ∷ ds) (r ∷ rs) passed zero below = (passed.0, passed.1)
passed_of (s ∷ ss) (d ∷ ds) (r ∷ rs) passed (suc lane) below = passed_of ss ds rs passed.2 lane (omega (arith, below))

-- ---- the end of all

-- none of the lanes saw an end dropped
abbrev LanesAreThere : List StageDone → Type 0
LanesAreThere ds = (lane : ℕ) → lane < length ds → end_at ds lane ≢ PeerGone

abbrev LanesAreFine : List StageDone → Type 0
LanesAreFine ds = (lane : ℕ) → lane < length ds → IsFine (end_at ds lane)

-- the lanes before this one are
abbrev AreFineBefore : List StageDone → ℕ → Type 0
AreFineBefore ds lane = (before : ℕ) → before < lane → IsFine (end_at ds before)

-- the first fault of lanes and of the thread behind them
abbrev IsFirstOfRest : List StageDone → StageEnd → ToolFault → Type 0
IsFirstOfRest ds gatherer fault =
    ((lane : ℕ) × (lane < length ds) × (end_at ds lane ≡ Fault fault) × AreFineBefore ds lane) ⊎ (LanesAreFine ds × (gatherer ≡ Fault fault))

-- the end of lanes and of the thread behind them
abbrev IsEndOfRest : List StageDone → StageEnd → StageEnd → Type 0
IsEndOfRest ds gatherer Well = (gatherer ≡ Well) × LanesAreFine ds
IsEndOfRest ds gatherer Broken = (gatherer ≡ Broken) × LanesAreFine ds
IsEndOfRest ds gatherer (Fault fault) = IsFirstOfRest ds gatherer fault × LanesAreThere ds × (gatherer ≢ PeerGone)
IsEndOfRest ds gatherer PeerGone = Unit {0}

fine_is_there : (end : StageEnd) → IsFine end → end ≢ PeerGone
fine_is_there Well fine = λ gone. absurd cc
fine_is_there Broken fine = λ gone. absurd cc
fine_is_there (Fault fault) fine = absurd fine
fine_is_there PeerGone fine = absurd fine

all_there : (ds : List StageDone) → LanesAreFine ds → LanesAreThere ds
all_there ds fine lane below = fine_is_there (end_at ds lane) (fine lane below)

there_more : (d : StageDone) (ds : List StageDone) → d.end ≢ PeerGone → LanesAreThere ds → LanesAreThere (d ∷ ds)
there_more d ds one rest zero below = one
there_more d ds one rest (suc lane) below = rest lane (omega (arith, below))

fine_more : (d : StageDone) (ds : List StageDone) → IsFine d.end → LanesAreFine ds → LanesAreFine (d ∷ ds)
fine_more d ds one rest zero below = one
fine_more d ds one rest (suc lane) below = rest lane (omega (arith, below))

before_more : (d : StageDone) (ds : List StageDone) (lane : ℕ) → IsFine d.end → AreFineBefore ds lane → AreFineBefore (d ∷ ds) (suc lane)
before_more d ds lane one rest zero below = one
before_more d ds lane one rest (suc before) below = rest before (omega (arith, below))

-- a lane before them that is fine
after_fine : (d : StageDone) (ds : List StageDone) (gatherer end : StageEnd) → IsFine d.end → IsEndOfRest ds gatherer end → IsEndOfRest (d ∷ ds) gatherer end
after_fine d ds gatherer Well fine rest = (rest.0, fine_more d ds fine rest.1)
after_fine d ds gatherer Broken fine rest = (rest.0, fine_more d ds fine rest.1)
after_fine d ds gatherer (Fault fault) fine rest = (
  elim rest.0 [
    | inl of_lane ↦ inl (suc of_lane.0, omega (arith, of_lane.1), of_lane.2, before_more d ds of_lane.0 fine of_lane.3)
    | inr of_gatherer ↦ inr (fine_more d ds fine of_gatherer.0, of_gatherer.1)
  ],
  there_more d ds (fine_is_there d.end fine) rest.1,
  rest.2,
)
after_fine d ds gatherer PeerGone fine rest = tt

-- and one that has a fault
after_fault : (d : StageDone) (ds : List StageDone) (gatherer : StageEnd) {fault : _} → d.end ≡ Fault fault → LanesAreThere ds → gatherer ≢ PeerGone
    → IsEndOfRest (d ∷ ds) gatherer (Fault fault)
after_fault d ds gatherer is there behind =
    (inl (0, omega arith, is, λ before below. absurd (omega (arith, below))), there_more d ds (λ gone. absurd cc) there, behind)

one_lane_before : (d : StageDone) (ds : List StageDone) (gatherer first end : StageEnd) → d.end ≡ first → IsEndOfRest ds gatherer end
    → IsEndOfRest (d ∷ ds) gatherer (end_of_both first end)
one_lane_before d ds gatherer Well end is rest = after_fine d ds gatherer end (subst IsFine (sym is) tt) rest
one_lane_before d ds gatherer Broken end is rest = after_fine d ds gatherer end (subst IsFine (sym is) tt) rest
one_lane_before d ds gatherer PeerGone end is rest = tt
one_lane_before d ds gatherer (Fault fault) Well is rest = after_fault d ds gatherer is (all_there ds rest.1) (λ gone. let well = rest.0 in absurd cc)
one_lane_before d ds gatherer (Fault fault) Broken is rest = after_fault d ds gatherer is (all_there ds rest.1) (λ gone. let broken = rest.0 in absurd cc)
one_lane_before d ds gatherer (Fault fault) (Fault later) is rest = after_fault d ds gatherer is rest.1 rest.2
one_lane_before d ds gatherer (Fault fault) PeerGone is rest = tt

nothing_before : (gatherer : StageEnd) → IsEndOfRest [] gatherer gatherer
nothing_before Well = (refl, λ lane below. absurd (omega (arith, below)))
nothing_before Broken = (refl, λ lane below. absurd (omega (arith, below)))
nothing_before (Fault fault) = (inr ((λ lane below. absurd (omega (arith, below))), refl), (λ lane below. absurd (omega (arith, below))), λ gone. absurd cc)
nothing_before PeerGone = tt

end_of_rest : (ds : List StageDone) (gatherer : StageEnd) → IsEndOfRest ds gatherer (end_of_lanes ds gatherer)
end_of_rest [] gatherer = nothing_before gatherer
end_of_rest (d ∷ ds) gatherer = one_lane_before d ds gatherer d.end (end_of_lanes ds gatherer) refl (end_of_rest ds gatherer)

-- the thread that dealt was fine
dealt_fine : (dealer : StageEnd) (ds : List StageDone) (gatherer end : StageEnd) → IsFine dealer → IsEndOfRest ds gatherer end
    → IsEndOfAll (length ds) dealer (end_at ds) gatherer end
dealt_fine dealer ds gatherer Well fine rest = (rest.0, fine, rest.1)
dealt_fine dealer ds gatherer Broken fine rest = (rest.0, fine, rest.1)
dealt_fine dealer ds gatherer (Fault fault) fine rest = (
  elim rest.0 [
    | inl of_lane ↦ inr (inl (fine, of_lane))
    | inr of_gatherer ↦ inr (inr (fine, of_gatherer.0, of_gatherer.1))
  ],
  (fine_is_there dealer fine, rest.1, rest.2),
)
dealt_fine dealer ds gatherer PeerGone fine rest = tt

end_of_all_threads : (dealer : StageEnd) (ds : List StageDone) (gatherer end : StageEnd) → IsEndOfRest ds gatherer end
    → IsEndOfAll (length ds) dealer (end_at ds) gatherer (end_of_both dealer end)
end_of_all_threads Well ds gatherer end rest = dealt_fine Well ds gatherer end tt rest
end_of_all_threads Broken ds gatherer end rest = dealt_fine Broken ds gatherer end tt rest
end_of_all_threads PeerGone ds gatherer end rest = tt
end_of_all_threads (Fault fault) ds gatherer Well rest = (inl refl, ((λ gone. absurd cc), all_there ds rest.1, λ gone. let well = rest.0 in absurd cc))
end_of_all_threads (Fault fault) ds gatherer Broken rest = (inl refl, ((λ gone. absurd cc), all_there ds rest.1, λ gone. let broken = rest.0 in absurd cc))
end_of_all_threads (Fault fault) ds gatherer (Fault later) rest = (inl refl, ((λ gone. absurd cc), rest.1, rest.2))
end_of_all_threads (Fault fault) ds gatherer PeerGone rest = tt

-- ---- all threads

-- together they are a stage
pub lanes_have_run : {tool : Tool} {es : List LaneRingEnds} {outer : OuterRingEnds} {reserved : ℕ} {done : LanesDone} {end : StageEnd}
    → AreUnused outer.outputs.items es outer.inputs.items → HaveRun tool es outer reserved done
    → HavePassed done.dealt.outputs.items done.lanes.items done.gathered.inputs.items
    → end ≡ end_of_both done.dealt.end (end_of_lanes done.lanes.items done.gathered.end) → 0 < length es → length done.lanes.items ≡ length es
    → IsLawfulTool tool → is_row_wise tool ≡ true → HasRunLanes tool end (received outer.input) (received done.dealt.input) (known_items done.dealt.input)
    (sent outer.output) (sent done.gathered.output)
lanes_have_run {tool} {es} {outer} {done} {end} unused run passed end_is some count lawful row_wise =
    let ds = done.lanes.items in
    let many = as_many_unused outer.outputs.items es outer.inputs.items unused in
    let none = nothing_passed outer.outputs.items es outer.inputs.items unused in
    let dealt = run.dealt in
    let gathered = run.gathered in
    let dealer = done.dealt.end in
    let gatherer = done.gathered.end in
    let senders : length outer.outputs.items ≡ length ds = many.0 ∙ sym count in
    let receivers : length outer.inputs.items ≡ length ds = many.1 ∙ sym count in
    let of_lane = subst (λ (n : ℕ). (lane : ℕ) → lane < length ds → HasSentSo dealer lane n dealt.took (at_lane sent done.dealt.outputs.items lane)
    × IsPrefixOfDealt lane n dealt.took (at_lane sent done.dealt.outputs.items lane)) senders
    (λ lane below. subst (λ (k : ℕ). HasSentSo dealer k (length outer.outputs.items) dealt.took (at_lane sent done.dealt.outputs.items lane)
    × IsPrefixOfDealt k (length outer.outputs.items) dealt.took (at_lane sent done.dealt.outputs.items lane)) (omega arith)
    (dealt_of dealer (length outer.outputs.items) 0 dealt.took outer.outputs.items done.dealt.outputs.items none.to_lanes dealt.lanes lane
    (omega (arith, below, senders)))) in
    let of_rings = passed_of done.dealt.outputs.items ds done.gathered.inputs.items passed in
    let together : HaveThreadsRun tool (length ds) dealer (end_at ds) gatherer dealt.took (at_lane sent done.dealt.outputs.items)
    (at_lane (λ (d : StageDone). received d.input) ds) (at_lane (λ (d : StageDone). sent d.output) ds) gathered.took gathered.gave = record {
      messages = dealt.messages;
      once = dealt.once;
      input = dealt.ended;
      dealt = λ lane below. (of_lane lane below).0;
      prefix = λ lane below. (of_lane lane below).1;
      received = λ lane below. (of_rings lane below).0;
      stages = λ lane below. filter_of es ds none.by_lanes none.of_lanes run.lanes_run lane (omega (arith, below, count));
      taken = λ lane below. subst (λ (x : List Message). IsPrefixOf x (at_lane (λ (d : StageDone). sent d.output) ds lane)) (sym (all_of_it (gathered.took lane)
          (gathered.inputs lane (omega (arith, below, receivers))) (none.from_lanes lane))) (of_rings lane below).1;
      gathered = subst (λ (n : ℕ). IsGathered gatherer n gathered.took gathered.gave) receivers gathered.gathered;
    } in
    let all = subst (IsEndOfAll (length ds) dealer (end_at ds) gatherer) (sym end_is)
    (end_of_all_threads dealer ds gatherer (end_of_lanes ds gatherer) (end_of_rest ds gatherer)) in
    record {
      took = dealt.took;
      gave = gathered.gave;
      input = dealt.input;
      output = gathered.output;
      seen_taken = dealt.seen_taken;
      stage = lanes_are_a_stage tool (length ds) dealer (end_at ds) gatherer end dealt.took gathered.gave (at_lane sent done.dealt.outputs.items)
          (at_lane (λ (d : StageDone). received d.input) ds) (at_lane (λ (d : StageDone). sent d.output) ds) gathered.took
          together (omega (arith, some, count)) lawful row_wise all;
      threads = record {
        lanes = length ds;
        some = omega (arith, some, count);
        dealer = dealer;
        lane_ends = end_at ds;
        gatherer = gatherer;
        dealt_to = at_lane sent done.dealt.outputs.items;
        received_by = at_lane (λ (d : StageDone). received d.input) ds;
        sent_by = at_lane (λ (d : StageDone). sent d.output) ds;
        gathered_from = gathered.took;
        together = together;
        end_of_all = all;
      };
    }
