-- Messages that are dealt to a lane: one after another, how they end, and their prefixes.
use Rattle.pnm_lanes.proofs.Words.{◌≡◌, ℕ, Bool, true, false, ◌%◌, List, [], ◌∷◌, ◌++◌, map, refl, sym, ap, subst, ◌∙◌, append_assoc, append-nil, ◌==◌}
use Rattle.pnm_lanes.proofs.Words.{if◌then◌else◌, Message, Begin, Row, ImageEnd, StreamEnd, Stop, Place, Between, Inside, After, without_stop, ending_of}
use Rattle.pnm_lanes.proofs.Words.{EndsBy, place_after, place_of, IsPrefixOf, More, dealt_message, dealt_from, dealt, prefix_of_prefix, EndNothing, ends_after}
use Rattle.pnm_lanes.proofs.Words.{IsLongestLawfulPrefix, ends_nothing, stop_is_cut, prefix_without_stop, lawful_prefix_of_longest, IsPrefixOfDealt}

-- ---- one after another

pub dealt_from-append : (lane lanes : ℕ) (place : Place) (a b : List Message) → dealt_from lane lanes place (a ++ b) ≡ dealt_from lane lanes place a
    ++ dealt_from lane lanes (place_of place a) b
dealt_from-append lane lanes place [] b = refl
dealt_from-append lane lanes place (m ∷ a) b =
    ap (λ (l : List Message). dealt_message lane lanes place m ++ l) (dealt_from-append lane lanes (place_after place m) a b)
    ∙ sym (append_assoc (dealt_message lane lanes place m) (dealt_from lane lanes (place_after place m) a) (dealt_from lane lanes (place_of place (m ∷ a)) b))

-- and so from a place on
pub dealt_more : (lane lanes : ℕ) {place : Place} (took l : List Message) → place ≡ place_of Between took
    → dealt lane lanes (took ++ l) ≡ dealt lane lanes took ++ dealt_from lane lanes place l
dealt_more lane lanes took l here =
    dealt_from-append lane lanes Between took l ∙ ap (λ (p : Place). dealt lane lanes took ++ dealt_from lane lanes p l) (sym here)

-- ---- ends

row_ends_nothing : (b : Bool) (row : List ℕ) → EndNothing (map Row (if b then row ∷ [] else []))
row_ends_nothing true row = (refl, tt)
row_ends_nothing false row = tt

-- a lane's part of a message that ends nothing ends nothing
pub part_ends_nothing : (lane lanes : ℕ) (place : Place) (m : Message) → ending_of m ≡ More → EndNothing (dealt_message lane lanes place m)
part_ends_nothing lane lanes place (Begin head) more = (refl, tt)
part_ends_nothing lane lanes Between (Row row) more = tt
part_ends_nothing lane lanes (Inside s y) (Row row) more = row_ends_nothing ((y % lanes) == lane) row
part_ends_nothing lane lanes After (Row row) more = tt
part_ends_nothing lane lanes place ImageEnd more = (refl, tt)
part_ends_nothing lane lanes place StreamEnd more = absurd cc
part_ends_nothing lane lanes place Stop more = absurd cc

both_end_nothing : (a b : List Message) → EndNothing a → EndNothing b → EndNothing (a ++ b)
both_end_nothing [] b first second = second
both_end_nothing (m ∷ a) b first second = (first.0, both_end_nothing a b first.1 second)

dealt_ends_nothing : (lane lanes : ℕ) (place : Place) (l : List Message) → EndNothing l → EndNothing (dealt_from lane lanes place l)
dealt_ends_nothing lane lanes place [] ends = tt
dealt_ends_nothing lane lanes place (m ∷ l) ends =
    both_end_nothing (dealt_message lane lanes place m) (dealt_from lane lanes (place_after place m) l) (part_ends_nothing lane lanes place m ends.0)
    (dealt_ends_nothing lane lanes (place_after place m) l ends.1)

pub nothing_goes_on : (l : List Message) → EndNothing l → EndsBy More l
nothing_goes_on l ends = subst (EndsBy More) (append-nil l) (ends_after More l [] ends refl)

-- what is dealt of messages that go on goes on
pub dealt_goes_on : (lane lanes : ℕ) (l : List Message) → EndsBy More l → EndsBy More (dealt lane lanes l)
dealt_goes_on lane lanes l more = nothing_goes_on (dealt lane lanes l) (dealt_ends_nothing lane lanes Between l (ends_nothing l more))

-- and with what is dealt of more, if that ends nothing
pub dealt_part_goes_on : (lane lanes : ℕ) (place : Place) (took l : List Message) → EndsBy More took → EndNothing l
    → EndsBy More (dealt lane lanes took ++ dealt_from lane lanes place l)
dealt_part_goes_on lane lanes place took l more nothing =
    nothing_goes_on (dealt lane lanes took ++ dealt_from lane lanes place l)
    (both_end_nothing (dealt lane lanes took) (dealt_from lane lanes place l) (dealt_ends_nothing lane lanes Between took (ends_nothing took more))
    (dealt_ends_nothing lane lanes place l nothing))

-- ---- prefixes

pub itself_prefix : (l : List Message) → IsPrefixOf l l
itself_prefix l = ([], sym (append-nil l))

-- what is before a last Stop
pub before_stop_prefix : (l : List Message) → IsPrefixOf (without_stop l) l
before_stop_prefix l = subst (IsPrefixOf (without_stop l)) (stop_is_cut l) (prefix_without_stop l (Stop ∷ []))

-- what is dealt of a prefix is a prefix
pub dealt_prefix : (lane lanes : ℕ) (a b : List Message) → IsPrefixOf a b → IsPrefixOf (dealt lane lanes a) (dealt lane lanes b)
dealt_prefix lane lanes a b prefix = (
  dealt_from lane lanes (place_of Between a) prefix.0,
  ap (dealt lane lanes) prefix.1 ∙ dealt_from-append lane lanes Between a prefix.0,
)

-- what is dealt of a lawful prefix is a prefix of what is dealt of the longest
pub longest_prefix_is_dealt : (lane lanes : ℕ) (l g prefix : List Message) → IsPrefixOfDealt lane lanes l g → IsLongestLawfulPrefix prefix l
    → IsPrefixOf (without_stop g) (dealt lane lanes prefix)
longest_prefix_is_dealt lane lanes l g prefix of_dealt longest =
    prefix_of_prefix (without_stop g) (dealt lane lanes of_dealt.accepted) (dealt lane lanes prefix) of_dealt.prefix
    (dealt_prefix lane lanes of_dealt.accepted prefix
    (lawful_prefix_of_longest of_dealt.accepted of_dealt.rest prefix l of_dealt.parts of_dealt.lawful longest))
