-- What the tools of a chain have answered to a whole stream, by how their stages have ended.
use Rattle.pnm_flow.proofs.Words.{◌≡◌, ◌≢◌, ℕ, ◌+◌, List, [], ◌∷◌, ◌++◌, map, length, Option, Some, None, refl, sym, ap, subst, ◌∙◌, append-nil, arith, sent}
use Rattle.pnm_flow.proofs.Words.{received, Message, Stop, IsLawful, ToolFault, Memory, Tool, More, Whole, BrokenOff, EndsBy, HaveAnswered, AreWell}
use Rattle.pnm_flow.proofs.Words.{IsFirstFault, AreLawfulTools, OfTool, Link, StageEnd, Well, Broken, Fault, PeerGone, FirstIsThere, AreStages, HasEndedWell}
use Rattle.pnm_flow.proofs.Words.{first_fault_from, one_ending, stream_ends_whole, not_started, none_started}
use Rattle.pnm_flow.proofs.SentEnds.{IsAlone, alone_is_one}
use Rattle.pnm_flow.proofs.ToolOverLaws.{stage_ended, ended_well, ended_broken, ended_refused, sent_in_order}

-- ---- a stage that ended well

-- what it sent ends the stream
sent_whole : (tool : Tool) (took gave : List Message) → HasEndedWell tool took gave → EndsBy Whole gave
sent_whole tool took gave ended = subst (EndsBy Whole) (sym ended.answer) (stream_ends_whole ended.results)

-- the next one received it all
received_all : (lanes : ℕ) (end : StageEnd) (ends : List StageEnd) (tools : List Tool) (link : Link) (links : List Link) (tool : Tool)
    (took gave : List Message) → end ≡ Well → FirstIsThere ends → AreStages lanes (tool ∷ tools) (end ∷ ends) (link ∷ links) took gave
    → received link.consumer ≡ sent link.producer
received_all lanes end ends tools link links tool took gave well there are =
    let here : end ≢ PeerGone = λ gone. absurd cc in
    sym (append-nil (received link.consumer)) ∙ ap (λ (x : List Message). received link.consumer ++ x) (sym (are.2 here there)) ∙ sym are.1.in_order

-- the first stage behind saw no end dropped, where that isn't the first fault
pub next_is_there : (lanes : ℕ) (from number : ℕ) (fault : ToolFault) (tools : List Tool) (ends : List StageEnd) (links : List Link) (took gave : List Message)
    → AreStages lanes tools ends links took gave → first_fault_from from ends ≡ Some (OfTool number fault) → FirstIsThere ends
next_is_there lanes from number fault [] ends links took gave are first = absurd are
next_is_there lanes from number fault (t ∷ tools) [] links took gave are first = absurd are
next_is_there lanes from number fault (t ∷ tools) (Well ∷ ends) links took gave are first = λ gone. absurd cc
next_is_there lanes from number fault (t ∷ tools) (Broken ∷ ends) links took gave are first = λ gone. absurd cc
next_is_there lanes from number fault (t ∷ tools) (Fault other ∷ ends) links took gave are first = λ gone. absurd cc
next_is_there lanes from number fault (t ∷ tools) (PeerGone ∷ ends) links took gave are first = absurd cc

pub next_is_well : (lanes : ℕ) (from : ℕ) (tools : List Tool) (ends : List StageEnd) (links : List Link) (took gave : List Message)
    → AreStages lanes tools ends links took gave → first_fault_from from ends ≡ None → FirstIsThere ends
next_is_well lanes from [] ends links took gave are first = absurd are
next_is_well lanes from (t ∷ tools) [] links took gave are first = absurd are
next_is_well lanes from (t ∷ tools) (Well ∷ ends) links took gave are first = λ gone. absurd cc
next_is_well lanes from (t ∷ tools) (Broken ∷ ends) links took gave are first = λ gone. absurd cc
next_is_well lanes from (t ∷ tools) (Fault other ∷ ends) links took gave are first = absurd cc
next_is_well lanes from (t ∷ tools) (PeerGone ∷ ends) links took gave are first = absurd cc

-- ---- no fault

-- what stages have answered, none of which refused
pub record AllAnswered (tools : List Tool) (took gave : List Message) : Type 0 where
  pub faults : List (Option ToolFault)
  pub answered : HaveAnswered tools faults took gave
  pub well : AreWell faults
  pub ends : EndsBy Whole gave

pub all_answered : (lanes : ℕ) (from : ℕ) (tools : List Tool) (ends : List StageEnd) (links : List Link) (took gave : List Message)
    → AreStages lanes tools ends links took gave → EndsBy Whole took → first_fault_from from ends ≡ None → AllAnswered tools took gave
all_answered lanes from [] ends links took gave are whole first = absurd are
all_answered lanes from (t ∷ tools) [] links took gave are whole first = absurd are
all_answered lanes from (t ∷ tools) (Broken ∷ ends) [] took gave are whole first = let two =
    one_ending Whole BrokenOff took whole (ended_broken lanes t took gave (stage_ended lanes t Broken took gave are.2)).ends in absurd cc
all_answered lanes from (t ∷ tools) (Broken ∷ ends) (l ∷ links) took gave are whole first = let two =
    one_ending Whole BrokenOff took whole (ended_broken lanes t took (sent l.producer) (stage_ended lanes t Broken took (sent l.producer) are.0)).ends in
    absurd cc
all_answered lanes from (t ∷ tools) (Fault fault ∷ ends) links took gave are whole first = absurd cc
all_answered lanes from (t ∷ tools) (PeerGone ∷ ends) links took gave are whole first = absurd cc
all_answered lanes from (t ∷ []) (Well ∷ []) [] took gave are whole first =
    let ended : HasEndedWell t took gave = ended_well lanes t took gave (stage_ended lanes t Well took gave are.2) in
    record { faults = None ∷ []; answered = (gave, ended.full, refl); well = tt; ends = sent_whole t took gave ended }
all_answered lanes from (t ∷ []) (Well ∷ e2 ∷ ends) [] took gave are whole first = let none = are.1 in absurd cc
all_answered lanes from (t ∷ t2 ∷ tools) (Well ∷ ends) [] took gave are whole first = let none = are.0 in absurd cc
all_answered lanes from (t ∷ tools) (Well ∷ ends) (l ∷ links) took gave are whole first =
    let ended : HasEndedWell t took (sent l.producer) = ended_well lanes t took (sent l.producer) (stage_ended lanes t Well took (sent l.producer) are.0) in
    let there = next_is_well lanes (from + 1) tools ends links (received l.consumer) gave are.3 first in
    let all = received_all lanes Well ends tools l links t took gave refl there are in
    let next = subst (λ (x : List Message). AreStages lanes tools ends links x gave) all are.3 in
    let others = all_answered lanes (from + 1) tools ends links (sent l.producer) gave next (sent_whole t took (sent l.producer) ended) first in
    record { faults = None ∷ others.faults; answered = (sent l.producer, ended.full, others.answered); well = others.well; ends = others.ends }

-- ---- the first fault is a tool's

-- the last of these tools works in one lane
abbrev pub LastIsAlone : ℕ → List Tool → Type 0
LastIsAlone lanes tools = (before : List Tool) × (last : Tool) × (tools ≡ before ++ last ∷ []) × IsAlone lanes last

-- what the stages up to the first that refused have answered; what those behind it did isn't told
pub record AnsweredUntil (lanes : ℕ) (tools : List Tool) (took gave : List Message) (from number : ℕ) (fault : ToolFault) : Type 0 where
  pub faults : List (Option ToolFault)
  pub last : List Message
  pub answered : HaveAnswered tools faults took last
  pub first : IsFirstFault from faults number fault
  -- If that is the last, and it works in one lane, all that it has given was sent.
  pub sent : number + 1 ≡ from + length tools → LastIsAlone lanes tools → (gave ≡ last ++ Stop ∷ []) × EndsBy More last

only_is_alone : (lanes : ℕ) (tool : Tool) → LastIsAlone lanes (tool ∷ []) → IsAlone lanes tool
only_is_alone lanes tool ([], last, is, alone) = let same : tool ≡ last = cc in subst (IsAlone lanes) (sym same) alone
only_is_alone lanes tool (t ∷ [], last, is, alone) = absurd cc
only_is_alone lanes tool (t ∷ u ∷ before, last, is, alone) = absurd cc

later_is_alone : (lanes : ℕ) (tool : Tool) (tools : List Tool) → tools ≢ [] → LastIsAlone lanes (tool ∷ tools) → LastIsAlone lanes tools
later_is_alone lanes tool tools some ([], last, is, alone) = let none : tools ≡ [] = cc in absurd (some none)
later_is_alone lanes tool tools some (t ∷ before, last, is, alone) = (before, last, (let rest : tools ≡ before ++ last ∷ [] = cc in rest), alone)

some_stages : (lanes : ℕ) (tools : List Tool) (ends : List StageEnd) (links : List Link) (took gave : List Message)
    → AreStages lanes tools ends links took gave → tools ≢ []
some_stages lanes [] ends links took gave are = absurd are
some_stages lanes (t ∷ tools) ends links took gave are = λ none. absurd cc

-- tools whose answers aren't told
untold : (tools : List Tool) (received : List Message) (t : Tool) → HaveAnswered (t ∷ tools) (Some Memory ∷ map (λ tool. Some Memory) tools) received []
untold tools received t = ([], not_started t received, none_started tools)

pub answered_until : (lanes : ℕ) (from : ℕ) (tools : List Tool) (ends : List StageEnd) (links : List Link) (took gave : List Message) (number : ℕ)
    (fault : ToolFault) → AreLawfulTools tools → IsLawful took → AreStages lanes tools ends links took gave → EndsBy Whole took
    → first_fault_from from ends ≡ Some (OfTool number fault) → AnsweredUntil lanes tools took gave from number fault
answered_until lanes from [] ends links took gave number fault lawful in_order are whole first = absurd are
answered_until lanes from (t ∷ tools) [] links took gave number fault lawful in_order are whole first = absurd are
answered_until lanes from (t ∷ tools) (Broken ∷ ends) [] took gave number fault lawful in_order are whole first = let two =
    one_ending Whole BrokenOff took whole (ended_broken lanes t took gave (stage_ended lanes t Broken took gave are.2)).ends in absurd cc
answered_until lanes from (t ∷ tools) (Broken ∷ ends) (l ∷ links) took gave number fault lawful in_order are whole first = let two =
    one_ending Whole BrokenOff took whole (ended_broken lanes t took (sent l.producer) (stage_ended lanes t Broken took (sent l.producer) are.0)).ends in
    absurd cc
answered_until lanes from (t ∷ tools) (PeerGone ∷ ends) links took gave number fault lawful in_order are whole first = absurd cc
answered_until lanes from (t ∷ []) (Fault other ∷ ends) [] took gave number fault lawful in_order are whole first =
    let refused = ended_refused lanes t other took gave lawful.0 in_order (stage_ended lanes t (Fault other) took gave are.2) in
    record {
      faults = Some other ∷ [];
      last = refused.given;
      answered = (refused.given, refused.refused, refl);
      first = (cc, cc);
      sent = λ last alone. refused.sent (alone_is_one lanes t (only_is_alone lanes t alone));
    }
answered_until lanes from (t ∷ t2 ∷ tools) (Fault other ∷ ends) [] took gave number fault lawful in_order are whole first = let none = are.0 in absurd cc
answered_until lanes from (t ∷ []) (Fault other ∷ ends) (l ∷ links) took gave number fault lawful in_order are whole first = absurd are.3
answered_until lanes from (t ∷ t2 ∷ tools) (Fault other ∷ ends) (l ∷ links) took gave number fault lawful in_order are whole first =
    let refused = ended_refused lanes t other took (sent l.producer) lawful.0 in_order (stage_ended lanes t (Fault other) took (sent l.producer) are.0) in
    record {
      faults = Some other ∷ Some Memory ∷ map (λ tool. Some Memory) tools;
      last = [];
      answered = (refused.given, refused.refused, untold tools refused.given t2);
      first = (cc, cc);
      sent = λ last alone. let here : number ≡ from = cc in absurd (omega (arith, last, here));
    }
answered_until lanes from (t ∷ []) (Well ∷ []) [] took gave number fault lawful in_order are whole first = absurd cc
answered_until lanes from (t ∷ []) (Well ∷ e2 ∷ ends) [] took gave number fault lawful in_order are whole first = let none = are.1 in absurd cc
answered_until lanes from (t ∷ t2 ∷ tools) (Well ∷ ends) [] took gave number fault lawful in_order are whole first = let none = are.0 in absurd cc
answered_until lanes from (t ∷ tools) (Well ∷ ends) (l ∷ links) took gave number fault lawful in_order are whole first =
    let ended : HasEndedWell t took (sent l.producer) = ended_well lanes t took (sent l.producer) (stage_ended lanes t Well took (sent l.producer) are.0) in
    let there = next_is_there lanes (from + 1) number fault tools ends links (received l.consumer) gave are.3 first in
    let all = received_all lanes Well ends tools l links t took gave refl there are in
    let next = subst (λ (x : List Message). AreStages lanes tools ends links x gave) all are.3 in
    let others = answered_until lanes (from + 1) tools ends links (sent l.producer) gave number fault lawful.1
    (sent_in_order t took (sent l.producer) lawful.0 ended) next (sent_whole t took (sent l.producer) ended) first in
    record {
      faults = None ∷ others.faults;
      last = others.last;
      answered = (sent l.producer, ended.full, others.answered);
      first = others.first;
      sent = λ last alone.
          let some = some_stages lanes tools ends links (received l.consumer) gave are.3 in
          others.sent (omega (arith, last)) (later_is_alone lanes t tools some alone);
    }
