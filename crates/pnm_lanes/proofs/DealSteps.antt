-- What has been dealt so far, and how the dealing ends.
use Rattle.pnm_lanes.proofs.Words.{◌≡◌, inl, inr, ℕ, Bool, true, false, List, [], ◌∷◌, ◌++◌, length, Option, None, Some, refl, sym, ap, subst, ◌∙◌}
use Rattle.pnm_lanes.proofs.Words.{append_assoc, append-nil, AllByRecursion, Packet, Sender, messages_in, sent, SameSender, Message, Stop, Place, Between}
use Rattle.pnm_lanes.proofs.Words.{IsMessage, without_stop, EndsBy, IsLawful, place_of, IsPrefixOf, place_of-append, Ending, More, Whole, BrokenOff, dealt_from}
use Rattle.pnm_lanes.proofs.Words.{dealt, prefix_of_prefix, EndNothing, ends_after, both_all, StageEnd, Well, Broken, PeerGone, ends_nothing, same_output}
use Rattle.pnm_lanes.proofs.Words.{stop_is_cut, AtEach, HasSentSo, IsPrefixOfDealt, HasLane, HasDealt, part_at, IsSameEnd, IsSentPart, HasSentParts, IsSentAll}
use Rattle.pnm_lanes.proofs.Words.{HasDealtAll, HasDealtMessages}
use Rattle.pnm_lanes.proofs.EachLaws.{each-map, each-then, each-count}
use Rattle.pnm_lanes.proofs.DealtLaws.{dealt_more, dealt_goes_on, dealt_part_goes_on, itself_prefix, before_stop_prefix}
use Rattle.pnm_lanes.proofs.MessageSteps.{none_dealt, dealt_then}

-- ---- what has been dealt

-- a lane was sent all that is dealt to it of these messages
abbrev pub HasAll : ℕ → List Message → ℕ → Sender → Sender → Type 0
HasAll lanes took lane old now = IsSentAll Between lanes took lane old now

-- messages were received that end so, and all of them were dealt
pub record IsDealing (ending : Ending) (place : Place) (received_old received_now : List Message) (olds nows : List Sender) : Type 0 where
  pub took : List Message
  pub input : received_now ≡ received_old ++ took
  pub messages : AllByRecursion IsMessage took
  pub lawful : IsLawful took
  pub ends : EndsBy ending took
  pub here : place ≡ place_of Between took
  pub lanes : AtEach (HasAll (length olds) took) olds nows

-- nothing yet
pub deals_nothing : (l : List Message) (outputs : List Sender) → IsDealing More Between l l outputs outputs
deals_nothing l outputs = record {
  took = [];
  input = sym (append-nil l);
  messages = tt;
  lawful = tt;
  ends = refl;
  here = refl;
  lanes = (none_dealt Between outputs).1;
}

all_then_same : (lanes : ℕ) (took : List Message) (lane : ℕ) (old now new : Sender) → HasAll lanes took lane old now → IsSameEnd lane now new
    → HasAll lanes took lane old new
all_then_same lanes took lane old now new all same = (same_output old now new all.0 same.0, same.1 ∙ all.1)

-- nothing more was received or sent
pub wakes_dealing : (place : Place) (received_old received_now received_new : List Message) (olds nows news : List Sender)
    → IsDealing More place received_old received_now olds nows → received_new ≡ received_now → AtEach IsSameEnd nows news
    → IsDealing More place received_old received_new olds news
wakes_dealing place received_old received_now received_new olds nows news dealing same woken = record {
  took = dealing.took;
  input = same ∙ dealing.input;
  messages = dealing.messages;
  lawful = dealing.lawful;
  ends = dealing.ends;
  here = dealing.here;
  lanes = each-then (HasAll (length olds) dealing.took) IsSameEnd (HasAll (length olds) dealing.took) 0 olds nows news
      (all_then_same (length olds) dealing.took) dealing.lanes woken;
}

-- the parts of the lanes, by the number of lanes at the beginning
pub parts_of : (place : Place) (l : List Message) (olds : List Sender) {nows news : List Sender} (took : List Message) {unsent : Option StageEnd}
    → AtEach (HasAll (length olds) took) olds nows → HasSentParts (part_at (length nows) place l) unsent nows news
    → HasSentParts (part_at (length olds) place l) unsent nows news
parts_of place l olds {nows} {news} took {unsent} all parts =
    subst (λ (n : ℕ). HasSentParts (part_at n place l) unsent nows news) (each-count (HasAll (length olds) took) 0 olds nows all) parts

module _ {ending : Ending} {place : Place} {received_old received_now received_new : List Message} {olds nows news : List Sender} where
  -- messages were dealt
  deals_on : (l : List Message) → IsDealing More place received_old received_now olds nows → received_new ≡ received_now ++ l → AllByRecursion IsMessage l
      → EndsBy ending l → HasDealtAll place l nows news → IsDealing ending (place_of place l) received_old received_new olds news
  deals_on l dealing added are ends dealt_here =
      let took = dealing.took in
      let all : HasDealtAll Between (took ++ l) olds news =
      dealt_then Between took l olds nows news (dealing.lawful, dealing.lanes) (subst (λ (p : Place). HasDealtAll p l nows news) dealing.here dealt_here) in
      record {
        took = took ++ l;
        input = added ∙ ap (λ (x : List Message). x ++ l) dealing.input ∙ append_assoc received_old took l;
        messages = both_all IsMessage took l dealing.messages are;
        lawful = all.0;
        ends = ends_after ending took l (ends_nothing took dealing.ends) ends;
        here = ap (λ (p : Place). place_of p l) dealing.here ∙ sym (place_of-append Between took l);
        lanes = all.1;
      }

  -- a packet was dealt
  pub deals_packet : {here : Place} (packet : Packet) (unsent : Option StageEnd) → IsDealing More place received_old received_now olds nows
      → received_new ≡ received_now ++ messages_in packet → AllByRecursion IsMessage (messages_in packet) → EndsBy ending (messages_in packet)
      → HasDealtMessages place here (messages_in packet) unsent nows news → unsent ≡ None → IsDealing ending here received_old received_new olds news
  deals_packet packet None dealing added are ends parts none =
      subst (λ (p : Place). IsDealing ending p received_old received_new olds news) (sym parts.0) (deals_on (messages_in packet) dealing added are ends parts.1)
  deals_packet packet (Some end) dealing added are ends parts none = absurd cc

-- ---- the end of the stream

-- what was accepted of what was received
pub record IsAccepted (accepted l : List Message) : Type 0 where
  pub rest : List Message
  pub parts : l ≡ accepted ++ rest
  pub lawful : IsLawful accepted

pub all_accepted : {l : List Message} → IsLawful l → IsAccepted l l
all_accepted {l} lawful = record { rest = []; parts = sym (append-nil l); lawful = lawful }

-- all of what was accepted was dealt to the lane
pub whole_lane : (end : StageEnd) (lanes : ℕ) (accepted l : List Message) → IsAccepted accepted l
    → ((lane : ℕ) → HasSentSo end lane lanes l (dealt lane lanes accepted)) → (lane : ℕ) (old new : Sender)
    → HasAll lanes accepted lane old new → HasLane end lanes l lane old new
whole_lane end lanes accepted l is so lane old new all = record {
  ring = all.0;
  gave = dealt lane lanes accepted;
  output = all.1;
  ended = so lane;
  prefix = record { accepted = accepted; rest = is.rest; parts = is.parts; lawful = is.lawful; prefix = before_stop_prefix (dealt lane lanes accepted) };
}

pub ends_whole : (place : Place) (received_old received_new left : List Message) (olds news : List Sender)
    → IsDealing Whole place received_old received_new olds news → HasDealt Well received_old received_new left olds news
ends_whole place received_old received_new left olds news dealing = record {
  took = dealing.took;
  input = dealing.input;
  seen_taken = inl (inl dealing.ends);
  messages = dealing.messages;
  once = (Whole, dealing.ends);
  ended = (dealing.lawful, dealing.ends);
  lanes = each-map (HasAll (length olds) dealing.took) (HasLane Well (length olds) dealing.took) 0 olds news
      (whole_lane Well (length olds) dealing.took dealing.took (all_accepted dealing.lawful) (λ lane. refl)) dealing.lanes;
}

pub ends_broken : (place : Place) (received_old received_new left : List Message) (olds news : List Sender)
    → IsDealing BrokenOff place received_old received_new olds news → HasDealt Broken received_old received_new left olds news
ends_broken place received_old received_new left olds news dealing = record {
  took = dealing.took;
  input = dealing.input;
  seen_taken = inl (inr dealing.ends);
  messages = dealing.messages;
  once = (BrokenOff, dealing.ends);
  ended = (dealing.lawful, dealing.ends);
  lanes = each-map (HasAll (length olds) dealing.took) (HasLane Broken (length olds) dealing.took) 0 olds news
      (whole_lane Broken (length olds) dealing.took dealing.took (all_accepted dealing.lawful) (λ lane. refl)) dealing.lanes;
}

-- ---- a lane that is sent Stop

-- a lane was sent a prefix, which goes on, of what is dealt to it of these messages, and all of it where that is said
abbrev pub HasPrefix : Bool → ℕ → List Message → ℕ → Sender → Sender → Type 0
HasPrefix all lanes accepted lane old now = SameSender old now
    × ((g : List Message) × (sent now ≡ sent old ++ g) × EndsBy More g × IsPrefixOf g (dealt lane lanes accepted)
    × (all ≡ true → g ≡ dealt lane lanes accepted))

-- all that is dealt is a prefix of itself
pub all_is_prefix : (lanes : ℕ) (took : List Message) → EndsBy More took → (lane : ℕ) (old now : Sender) → HasAll lanes took lane old now
    → HasPrefix true lanes took lane old now
all_is_prefix lanes took more lane old now all =
    (all.0, (dealt lane lanes took, all.1, dealt_goes_on lane lanes took more, itself_prefix (dealt lane lanes took), λ e. refl))

-- with its part of more, or without it
pub part_is_prefix : (place : Place) (lanes : ℕ) (took l : List Message) (unsent : Option StageEnd) → EndsBy More took → EndNothing l
    → place ≡ place_of Between took → (lane : ℕ) (old now new : Sender)
    → HasAll lanes took lane old now → IsSentPart (part_at lanes place l) unsent lane now new → HasPrefix false lanes (took ++ l) lane old new
part_is_prefix place lanes took l unsent more nothing here lane old now new all (same, inl is) =
    let part : List Message = dealt_from lane lanes place l in (
      same_output old now new all.0 same,
      (
        dealt lane lanes took ++ part,
        is ∙ ap (λ (x : List Message). x ++ part) all.1 ∙ append_assoc (sent old) (dealt lane lanes took) part,
        dealt_part_goes_on lane lanes place took l more nothing,
        ([], dealt_more lane lanes took l here ∙ sym (append-nil (dealt lane lanes took ++ part))),
        λ e. absurd cc,
      ),
    )
part_is_prefix place lanes took l unsent more nothing here lane old now new all (same, inr lost) = (
  same_output old now new all.0 same,
  (
    dealt lane lanes took,
    lost.0 ∙ all.1,
    dealt_goes_on lane lanes took more,
    (dealt_from lane lanes place l, dealt_more lane lanes took l here),
    λ e. absurd cc,
  ),
)

pub accepted_more : (accepted took more : List Message) → IsAccepted accepted took → IsAccepted accepted (took ++ more)
accepted_more accepted took more is = record {
  rest = is.rest ++ more;
  parts = ap (λ (x : List Message). x ++ more) is.parts ∙ append_assoc accepted is.rest more;
  lawful = is.lawful;
}

pub prefix_of_dealt : {lane lanes : ℕ} {accepted l g : List Message} → IsAccepted accepted l → IsPrefixOf (without_stop g) (dealt lane lanes accepted)
    → IsPrefixOfDealt lane lanes l g
prefix_of_dealt {accepted} is prefix = record { accepted = accepted; rest = is.rest; parts = is.parts; lawful = is.lawful; prefix = prefix }

-- the lane was sent Stop
stopped_lane : (end : StageEnd) (all : Bool) (lanes : ℕ) (accepted l : List Message) → IsAccepted accepted l
    → ((lane : ℕ) (g : List Message) → EndsBy More g → (all ≡ true → g ≡ dealt lane lanes accepted) → HasSentSo end lane lanes l (g ++ Stop ∷ []))
    → (lane : ℕ) (old now new : Sender)
    → HasPrefix all lanes accepted lane old now → SameSender now new → sent new ≡ sent now ++ Stop ∷ [] → HasLane end lanes l lane old new
stopped_lane end all lanes accepted l is so lane old now new (same_now, (g, output, more, prefix, full)) same added = record {
  ring = same_output old now new same_now same;
  gave = g ++ Stop ∷ [];
  output = added ∙ ap (λ (x : List Message). x ++ Stop ∷ []) output ∙ append_assoc (sent old) g (Stop ∷ []);
  ended = so lane g more full;
  prefix = prefix_of_dealt is
      (subst (λ (x : List Message). IsPrefixOf x (dealt lane lanes accepted)) (sym (stop_is_cut g)) prefix);
}

pub sent_lane : {end : StageEnd} (all : Bool) {lanes : ℕ} {accepted l : List Message} (unstopped : Option StageEnd) → unstopped ≡ None
    → IsAccepted accepted l
    → ((lane : ℕ) (g : List Message) → EndsBy More g → (all ≡ true → g ≡ dealt lane lanes accepted) → HasSentSo end lane lanes l (g ++ Stop ∷ []))
    → (lane : ℕ) (old now new : Sender) → HasPrefix all lanes accepted lane old now → IsSentPart (λ n. Stop ∷ []) unstopped lane now new
    → HasLane end lanes l lane old new
sent_lane {end} all {lanes} {accepted} {l} unstopped none is so lane old now new prefix (same, inl added) =
    stopped_lane end all lanes accepted l is so lane old now new prefix same added
sent_lane all None none is so lane old now new prefix (same, inr lost) = let lost_one = lost.1 in absurd cc
sent_lane all (Some e) none is so lane old now new prefix (same, inr lost) = absurd cc

-- or wasn't, where the other end of a ring was seen dropped
pub lost_lane : (all : Bool) (lanes : ℕ) (accepted l : List Message) (unstopped : Option StageEnd) → IsAccepted accepted l → (lane : ℕ) (old now new : Sender)
    → HasPrefix all lanes accepted lane old now → IsSentPart (λ n. Stop ∷ []) unstopped lane now new → HasLane PeerGone lanes l lane old new
lost_lane all lanes accepted l unstopped is lane old now new prefix (same, inl added) =
    stopped_lane PeerGone all lanes accepted l is (λ n g more full. tt) lane old now new prefix same added
lost_lane all lanes accepted l unstopped is lane old now new (same_now, (g, output, more, prefix, full)) (same, inr lost) = record {
  ring = same_output old now new same_now same;
  gave = g;
  output = lost.0 ∙ output;
  ended = tt;
  prefix = prefix_of_dealt is (prefix_of_prefix (without_stop g) g (dealt lane lanes accepted) (before_stop_prefix g) prefix);
}
