-- How a dealer, lanes and a gatherer end together: well, broken off, or by a fault.
use Rattle.pnm_lanes.proofs.Words.{◌≡◌, inl, inr, ℕ, ◌<◌, true, List, [], ◌∷◌, ◌++◌, refl, sym, ap, subst, ◌∙◌, append-nil, Message, Stop, Between, Image}
use Rattle.pnm_lanes.proofs.Words.{messages_of_stream, without_stop, EndsBy, IsLawful, place_of, IsPrefixOf, Completes, IsStreamOf, is_stream_of, Tool, Ending}
use Rattle.pnm_lanes.proofs.Words.{Whole, BrokenOff, AnswersInFull, AreResults, images_ended, begun_of, begun_in, due_so_far, dealt, IsLawfulTool, is_row_wise}
use Rattle.pnm_lanes.proofs.Words.{unbroken_keeps_all, StageEnd, Well, Broken, Fault, PeerGone, IsEnded, HasEndedWell, HasBrokenOff, HasEndedSo, one_ending}
use Rattle.pnm_lanes.proofs.Words.{stream_ends_whole, ends_stream, stop_is_cut, HasReceivedSo, HasSentSo, HasSentAll, results_before, dealt_images, IsFine}
use Rattle.pnm_lanes.proofs.Words.{HaveThreadsRun}
use Rattle.pnm_lanes.proofs.DealtLaws.{dealt_from-append, dealt_prefix}
use Rattle.pnm_lanes.proofs.LaneDue.{dealt_ends}
use Rattle.pnm_lanes.proofs.LaneHeads.{whole_is_taken}
use Rattle.pnm_lanes.proofs.LaneLaws.{dealt_are_images, stream_is_dealt, results_are_dealt}
use Rattle.pnm_lanes.proofs.LaneSoFar.{dealt_ended, dealt_begun, due_so_far_is_dealt}
use Rattle.pnm_lanes.proofs.LanePrefixes.{before_stop}
use Rattle.pnm_lanes.proofs.LaneStream.{EndsAtImage, all_results, answered_in_full, due_of_results}
use Rattle.pnm_lanes.proofs.LaneStages.{all_of_ended, not_both, stopped_is_broken, completes_prefix, whole_lane, fine_is_there, together, results_dealt}
use Rattle.pnm_lanes.proofs.LaneStages.{together_due}

-- ---- the dealer

-- where a lane received a whole stream, so did the dealer
pub record IsWholeDeal (dealer : StageEnd) (lane lanes : ℕ) (l d i : List Message) : Type 0 where
  pub lawful : IsLawful l
  pub whole : EndsBy Whole l
  pub part : i ≡ dealt lane lanes l

whole_deal : (dealer : StageEnd) (lane lanes : ℕ) (l d i : List Message) → IsFine dealer → HasReceivedSo dealer l → HasSentSo dealer lane lanes l d
    → IsPrefixOf i d → EndsBy Whole i → IsWholeDeal dealer lane lanes l d i
whole_deal Well lane lanes l d i fine input sent prefix whole = record {
  lawful = input.0;
  whole = input.1;
  part = sym (all_of_ended i d prefix (inl whole) (inl (subst (EndsBy Whole) (sym sent) (dealt_ends Whole lane lanes l input.1)))) ∙ sent;
}
whole_deal Broken lane lanes l d i fine input sent prefix whole =
    let broken : EndsBy BrokenOff d = subst (EndsBy BrokenOff) (sym sent) (dealt_ends BrokenOff lane lanes l input.1) in
    not_both d (subst (EndsBy Whole) (sym (all_of_ended i d prefix (inl whole) (inr broken))) whole) broken
whole_deal (Fault fault) lane lanes l d i fine input sent prefix whole = absurd fine
whole_deal PeerGone lane lanes l d i fine input sent prefix whole = absurd fine

-- and where it received one that was broken off
pub record IsBrokenDeal (dealer : StageEnd) (l : List Message) : Type 0 where
  pub is_broken : dealer ≡ Broken
  pub lawful : IsLawful l
  pub broken : EndsBy BrokenOff l

broken_deal : (dealer : StageEnd) (lane lanes : ℕ) {l : List Message} (d i : List Message) → IsFine dealer → HasReceivedSo dealer l
    → HasSentSo dealer lane lanes l d → IsPrefixOf i d → EndsBy BrokenOff i → IsBrokenDeal dealer l
broken_deal Well lane lanes {l} d i fine input sent prefix broken =
    let whole : EndsBy Whole d = subst (EndsBy Whole) (sym sent) (dealt_ends Whole lane lanes l input.1) in
    not_both d whole (subst (EndsBy BrokenOff) (sym (all_of_ended i d prefix (inr broken) (inl whole))) broken)
broken_deal Broken lane lanes d i fine input sent prefix broken = record { is_broken = refl; lawful = input.0; broken = input.1 }
broken_deal (Fault fault) lane lanes d i fine input sent prefix broken = absurd fine
broken_deal PeerGone lane lanes d i fine input sent prefix broken = absurd fine

-- ---- well

pub together_well : {tool : Tool} {lanes : ℕ} {dealer : StageEnd} {e : ℕ → StageEnd} {l g : List Message} {d i o r : ℕ → List Message}
    → HaveThreadsRun tool lanes dealer e Well l d i o r g
    → 0 < lanes → IsLawfulTool tool → is_row_wise tool ≡ true → IsFine dealer → ((lane : ℕ) → lane < lanes → IsFine (e lane)) → HasEndedWell tool l g
together_well {tool = tool} {lanes = lanes} {dealer = dealer} {e = e} {l = l} {g = g} {d = d} {i = i} {o = o} {r = r} run some lawful row_wise fine fines =
    let whole : EndsBy Whole (r 0) = subst (EndsBy Whole) (sym (run.gathered.ended.1 0 some)) (dealt_ends Whole 0 lanes g run.gathered.ended.0) in
    let lane = whole_lane tool (e 0) (i 0) (o 0) (r 0) (run.stages 0 some).ended (fine_is_there (e 0) (fines 0 some)) (run.taken 0 some) whole in
    let taken : EndsBy Whole (i 0) = subst (EndsBy Whole) (sym lane.well.stream.messages) (stream_ends_whole lane.well.images) in
    let deal = whole_deal dealer 0 lanes l (d 0) (i 0) fine run.input (run.dealt 0 some) (run.received 0 some) taken in
    let found = is_stream_of l run.messages deal.lawful (ends_stream l deal.whole) in
    let is : List Image = found.0 in
    let stream : IsStreamOf l is = found.1 in
    let part : i 0 ≡ messages_of_stream (dealt_images 0 lanes is) = deal.part ∙ ap (dealt 0 lanes) stream.messages ∙ stream_is_dealt 0 lanes is stream.images in
    let seen : dealt_images 0 lanes is ≡ lane.well.images = lane.well.stream.only (dealt_images 0 lanes is) (dealt_are_images 0 lanes is stream.images) part in
    let made = results_are_dealt tool 0 lanes is lane.well.results lawful row_wise some stream.images
    (subst (λ (x : List Image). AreResults tool x lane.well.results) (sym seen) lane.well.made) in
    let completes : Completes is l = record {
      images = stream.images;
      prefix = ([], sym (unbroken_keeps_all Whole l tt deal.whole ∙ stream.messages) ∙ sym (append-nil (without_stop l)));
    } in
    let common = together run in
    let gathered =
    run.gathered.images (results_before tool is)
    (results_dealt run lawful row_wise is (completes_prefix is l common.accepted common.rest common.parts completes)) in
    let answer : g ≡ messages_of_stream made.0 = gathered.so ∙ ap messages_of_stream (all_results tool is made.0 made.1) in
    record {
      images = is;
      results = made.0;
      stream = stream;
      made = made.1;
      answer = answer;
      full = answered_in_full tool is made.0 l g lawful stream.images made.1 stream.messages answer;
    }

-- ---- broken off

-- a lane that was broken off, of which all was gathered
pub record IsBrokenLane (tool : Tool) (lane lanes : ℕ) (l i o r : List Message) : Type 0 where
  pub part : i ≡ dealt lane lanes l
  pub full : AnswersInFull tool i o
  pub all : r ≡ o

-- the one that was broken off tells that the dealer was
broken_tells : (tool : Tool) {dealer : StageEnd} (end : StageEnd) (lane lanes : ℕ) {l : List Message} (d i o r : List Message) → IsFine dealer
    → HasReceivedSo dealer l → HasSentSo dealer lane lanes l d → IsPrefixOf i d → HasEndedSo tool end i o → IsFine end → IsPrefixOf r o → EndsBy BrokenOff r
    → IsBrokenDeal dealer l
broken_tells tool Well lane lanes d i o r fine input sent received ended fine_lane taken broken =
    let whole : EndsBy Whole o = subst (EndsBy Whole) (sym ended.answer) (stream_ends_whole ended.results) in
    not_both o whole (subst (EndsBy BrokenOff) (sym (all_of_ended r o taken (inr broken) (inl whole))) broken)
broken_tells tool {dealer} Broken lane lanes d i o r fine input sent received ended fine_lane taken broken =
    broken_deal dealer lane lanes d i fine input sent received ended.ends
broken_tells tool (Fault fault) lane lanes d i o r fine input sent received ended fine_lane taken broken = absurd fine_lane
broken_tells tool PeerGone lane lanes d i o r fine input sent received ended fine_lane taken broken = absurd fine_lane

-- then each lane was
broken_lane : {tool : Tool} (end : StageEnd) {lane lanes : ℕ} {l d i o r : List Message} → EndsBy BrokenOff l → d ≡ dealt lane lanes l → IsPrefixOf i d
    → HasEndedSo tool end i o → IsFine end → IsPrefixOf r o → IsEnded r → IsBrokenLane tool lane lanes l i o r
broken_lane Well {lane} {lanes} {l} {d} {i} broken sent received ended fine taken gathered =
    let stopped : EndsBy BrokenOff d = subst (EndsBy BrokenOff) (sym sent) (dealt_ends BrokenOff lane lanes l broken) in
    let whole : EndsBy Whole i = subst (EndsBy Whole) (sym ended.stream.messages) (stream_ends_whole ended.images) in
    not_both i whole (subst (EndsBy BrokenOff) (all_of_ended i d received (inl whole) (inr stopped)) stopped)
broken_lane Broken {lane} {lanes} {l} {d} {i} {o} {r} broken sent received ended fine taken gathered =
    let stopped : EndsBy BrokenOff d = subst (EndsBy BrokenOff) (sym sent) (dealt_ends BrokenOff lane lanes l broken) in
    record {
      part = sym (all_of_ended i d received (inr ended.ends) (inr stopped)) ∙ sent;
      full = ended.full;
      all = sym (all_of_ended r o taken gathered (inr (ended.full.ends BrokenOff ended.ends)));
    }
broken_lane (Fault fault) broken sent received ended fine taken gathered = absurd fine
broken_lane PeerGone broken sent received ended fine taken gathered = absurd fine

-- what is due from a lane for images that complete what was broken off
lane_due : {tool : Tool} (lane lanes : ℕ) {l : List Message} (f : List Message) {o : List Message} {is : List Image} → IsLawfulTool tool
    → is_row_wise tool ≡ true → lane < lanes → l ≡ f ++ Stop ∷ [] → Completes is l → AnswersInFull tool (dealt lane lanes l) o
    → IsPrefixOf (dealt lane lanes (due_so_far tool (images_ended l) (begun_in l) is)) o
lane_due {tool} lane lanes {l} f {o} {is} lawful row_wise below parts completes full =
    let part : List Message = dealt lane lanes l in
    let cut : without_stop l ≡ f = ap without_stop parts ∙ stop_is_cut f in
    let split : part ≡ dealt lane lanes f ++ Stop ∷ [] = ap (dealt lane lanes) parts ∙ dealt_from-append lane lanes Between f (Stop ∷ []) in
    let cut_part : without_stop part ≡ dealt lane lanes f = ap without_stop split ∙ stop_is_cut (dealt lane lanes f) in
    let seen : IsPrefixOf (dealt lane lanes f) (messages_of_stream (dealt_images lane lanes is)) =
    subst (IsPrefixOf (dealt lane lanes f)) (stream_is_dealt lane lanes is completes.images)
    (dealt_prefix lane lanes f (messages_of_stream is) (subst (λ (x : List Message). IsPrefixOf x (messages_of_stream is)) cut completes.prefix)) in
    let also : Completes (dealt_images lane lanes is) part =
    record {
      images = dealt_are_images lane lanes is completes.images;
      prefix = subst (λ (x : List Message). IsPrefixOf x (messages_of_stream (dealt_images lane lanes is))) (sym cut_part) seen;
    } in
    let begun : begun_in part ≡ begun_in l = ap (λ (x : List Message). begun_of (place_of Between x)) cut_part ∙ dealt_begun lane lanes f
    ∙ ap (λ (x : List Message). begun_of (place_of Between x)) (sym cut) in
    let same : due_so_far tool (images_ended part) (begun_in part) (dealt_images lane lanes is)
    ≡ dealt lane lanes (due_so_far tool (images_ended l) (begun_in l) is) =
    ap (λ (n : ℕ). due_so_far tool n (begun_in part) (dealt_images lane lanes is)) (dealt_ended lane lanes l)
    ∙ ap (λ (b : _). due_so_far tool (images_ended l) b (dealt_images lane lanes is)) begun
    ∙ due_so_far_is_dealt tool lane lanes (images_ended l) (begun_in l) is lawful row_wise below completes.images in
    subst (λ (x : List Message). IsPrefixOf x o) same (full.all (dealt_images lane lanes is) also)

-- what ends with the beginning or the end of an image was sent
sent_all : (js : List Image) (lanes : ℕ) (r : ℕ → List Message) (x g : List Message) → EndsAtImage x → IsPrefixOf x (messages_of_stream js)
    → ((lane : ℕ) → lane < lanes → IsPrefixOf (dealt lane lanes x) (r lane)) → HasSentAll js lanes r g → IsPrefixOf x g
sent_all js lanes r x g (inl none) prefix gave all = (g, ap (λ (y : List Message). y ++ g) (sym none))
sent_all js lanes r x g (inr last) prefix gave all =
    subst (λ (y : List Message). IsPrefixOf y g) (sym last.3)
    (all last.0 last.1 last.2 (subst (λ (y : List Message). IsPrefixOf y (messages_of_stream js)) last.3 prefix)
    (λ lane below. subst (λ (y : List Message). IsPrefixOf (dealt lane lanes y) (r lane)) last.3 (gave lane below)))

pub together_broken : {tool : Tool} {lanes : ℕ} {dealer : StageEnd} {e : ℕ → StageEnd} {l g : List Message} {d i o r : ℕ → List Message}
    → HaveThreadsRun tool lanes dealer e Broken l d i o r g
    → 0 < lanes → IsLawfulTool tool → is_row_wise tool ≡ true → IsFine dealer → ((lane : ℕ) → lane < lanes → IsFine (e lane)) → HasBrokenOff tool l g
together_broken {tool = tool} {lanes = lanes} {dealer = dealer} {e = e} {l = l} {g = g} {d = d} {i = i} {o = o} {r = r} run some lawful row_wise fine fines =
    let stopped = run.gathered.ended.1 in
    let at : ℕ = stopped.0 in
    let deal = broken_tells tool (e at) at lanes (d at) (i at) (o at) (r at) fine run.input (run.dealt at stopped.1) (run.received at stopped.1)
    (run.stages at stopped.1).ended (fines at stopped.1) (run.taken at stopped.1) stopped.2 in
    let lane : (n : ℕ) → n < lanes → IsBrokenLane tool n lanes l (i n) (o n) (r n) = λ n below. broken_lane (e n) deal.broken
    (subst (λ (x : StageEnd). HasSentSo x n lanes l (d n)) deal.is_broken (run.dealt n below)) (run.received n below) (run.stages n below).ended
    (fines n below) (run.taken n below) (run.gathered.ended.0 n below) in
    let part : (n : ℕ) (below : n < lanes) → AnswersInFull tool (dealt n lanes l) (o n) = λ n below. subst (λ (x : List Message). AnswersInFull tool x (o n))
    (lane n below).part (lane n below).full in
    let common = together run in
    let ends : EndsBy BrokenOff g = stopped_is_broken g run.gathered.ended.2 in
    let split = before_stop l deal.broken in
    let due = together_due run some lawful row_wise in
    record {
      lawful = deal.lawful;
      ends = deal.broken;
      full = record {
        answers = record {
          lawful = deal.lawful;
          prefix = λ is completes. due.prefix is (completes_prefix is l due.accepted due.rest due.parts completes);
          stop = λ prefix is. deal.broken;
        };
        taken = whole_is_taken tool 0 lanes l lawful row_wise some run.messages (part 0 some).taken;
        all = λ is completes.
            let owes = due_of_results tool (images_ended l) (begun_in l) is in
            let gathered =
            run.gathered.images (results_before tool is)
            (results_dealt run lawful row_wise is (completes_prefix is l common.accepted common.rest common.parts completes)) in
            sent_all (results_before tool is) lanes r (due_so_far tool (images_ended l) (begun_in l) is) g owes.1 owes.0
            (λ n below. subst (IsPrefixOf (dealt n lanes (due_so_far tool (images_ended l) (begun_in l) is))) (sym (lane n below).all)
            (lane_due n lanes split.0 lawful row_wise below split.2 completes (part n below))) gathered.so;
        ends = λ end is. subst (λ (x : Ending). EndsBy x g) (one_ending BrokenOff end l deal.broken is) ends;
      };
    }
