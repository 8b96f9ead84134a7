-- The messages of packets.
use Rattle.pnm_stages.proofs.Words.{IsFalse, ◌≡◌, ◌⊎◌, inl, inr, subst, ℕ, nat_lt, length, arith, Option, Some, None, List, [], ◌∷◌}
use Rattle.pnm_stages.proofs.Words.{◌++◌, refl, sym, ap, ◌∙◌, append-nil, append_assoc, AllByRecursion, flat_map-append, flat_map-cons}
use Rattle.pnm_stages.proofs.Words.{Message, Begin, More, Whole, BrokenOff, Ending, IsMessage, EndsBy, HeadValue, row_messages}
use Rattle.pnm_stages.proofs.Words.{rows_list, end_messages, rest_messages, part_messages, ends_after, Packet, both_all, Extends, IsEnded, messages_in}
use Rattle.pnm_stages.proofs.Words.{ending_of_packet}
use Rattle.std.specs.Prelude.{Bool, true, false}
use Rattle.pnm_stages.specs.RingPackets.{messages_of}
use Rattle.pnm_stages.proofs.RingSteps.{ends_nothing}

-- no packets
pub none_of : messages_of [] ≡ []
unfolding messages_of
none_of = refl

-- none are known where a look shows none
pub none_known : (packets : List Packet) {count : ℕ} → count ≡ length packets → IsFalse (nat_lt 0 count) → messages_of packets ≡ []
none_known [] same none = none_of
none_known (packet ∷ packets) same none = let no : ⊥ = grind (arith, same, none) in absurd no

-- one packet more
pub one_more : (packets : List Packet) (packet : Packet) → messages_of (packets ++ packet ∷ []) ≡ messages_of packets ++ messages_in packet
unfolding messages_of
one_more packets packet = flat_map-append messages_in packets (packet ∷ [])
    ∙ ap (λ (l : List Message). messages_of packets ++ l) (append-nil (messages_in packet))

-- those of two lists
pub of_both : (a b : List Packet) → messages_of (a ++ b) ≡ messages_of a ++ messages_of b
unfolding messages_of
of_both a b = flat_map-append messages_in a b

-- rows are messages of a program, and end nothing
pub rows_are_messages : (rows : List (List ℕ)) → AllByRecursion IsMessage (row_messages rows)
rows_are_messages [] = tt
rows_are_messages (row ∷ rows) = (tt, rows_are_messages rows)

pub rows_end_nothing : (rows : List (List ℕ)) → EndsBy More (row_messages rows)
rows_end_nothing [] = refl
rows_end_nothing (row ∷ []) = refl
rows_end_nothing (row ∷ next ∷ rows) = (refl, rows_end_nothing (next ∷ rows))

-- so are the rows and the end of a part, and with its head the whole part
end_is_messages : (ends : Bool) → AllByRecursion IsMessage (end_messages ends)
end_is_messages false = tt
end_is_messages true = (tt, tt)

pub rest_is_messages : (rows : Option (List (List ℕ))) (ends : Bool) → AllByRecursion IsMessage (rest_messages rows ends)
rest_is_messages rows ends =
    both_all IsMessage (row_messages (rows_list rows)) (end_messages ends) (rows_are_messages (rows_list rows)) (end_is_messages ends)

pub part_is_messages : (head : HeadValue) (rows : Option (List (List ℕ))) (ends : Bool) → IsMessage (Begin head)
    → AllByRecursion IsMessage (part_messages (Some head) rows ends)
part_is_messages head rows ends is = (is, rest_is_messages rows ends)

end_ends_nothing : (ends : Bool) → EndsBy More (end_messages ends)
end_ends_nothing false = refl
end_ends_nothing true = refl

rest_ends_nothing : (rows : Option (List (List ℕ))) (ends : Bool) → EndsBy More (rest_messages rows ends)
rest_ends_nothing rows ends = ends_after More (row_messages (rows_list rows)) (end_messages ends)
    (ends_nothing (row_messages (rows_list rows)) (rows_end_nothing (rows_list rows))) (end_ends_nothing ends)

pub part_ends_nothing : (head : Option HeadValue) (rows : Option (List (List ℕ))) (ends : Bool) → EndsBy More (part_messages head rows ends)
part_ends_nothing None rows ends = rest_ends_nothing rows ends
part_ends_nothing (Some head) rows ends = ends_after More (Begin head ∷ []) (rest_messages rows ends) (refl, tt) (rest_ends_nothing rows ends)

-- a packet that ends so ends a list so
pub ends_with_packet : (l : List Message) (packet : Packet) → EndsBy (ending_of_packet packet) (messages_in packet) → EndsBy More l
    → EndsBy (ending_of_packet packet) (l ++ messages_in packet)
ends_with_packet l packet ends more = ends_after (ending_of_packet packet) l (messages_in packet) (ends_nothing l more) ends

-- a list was extended by a packet
extends_by_packet : (P : List Message → Type 0) (l now new : List Message) (packet : Packet) (extends : Extends l now (EndsBy More))
    → new ≡ now ++ messages_in packet → AllByRecursion IsMessage (messages_in packet) → P (extends.more ++ messages_in packet) → Extends l new P
extends_by_packet P l now new packet extends added are holds = record {
  more = extends.more ++ messages_in packet;
  added = added ∙ ap (λ (x : List Message). x ++ messages_in packet) extends.added ∙ append_assoc l extends.more (messages_in packet);
  messages = both_all IsMessage extends.more (messages_in packet) extends.messages are;
  holds = holds;
}

pub ends_as_packet : (e : Ending) (l : List Message) (packet : Packet) → EndsBy (ending_of_packet packet) (messages_in packet) → EndsBy More l
    → ending_of_packet packet ≡ e → EndsBy e (l ++ messages_in packet)
ends_as_packet e l packet ends more same = subst (λ (x : Ending). EndsBy x (l ++ messages_in packet)) same (ends_with_packet l packet ends more)

pub packet_goes_on : {l now new : List Message} (packet : Packet) → Extends l now (EndsBy More) → new ≡ now ++ messages_in packet
    → AllByRecursion IsMessage (messages_in packet) → EndsBy (ending_of_packet packet) (messages_in packet) → ending_of_packet packet ≡ More
    → Extends l new (EndsBy More)
packet_goes_on {l} {now} {new} packet extends added are ends same =
    extends_by_packet (EndsBy More) l now new packet extends added are (ends_as_packet More extends.more packet ends extends.holds same)

pub packet_ends : {l now new : List Message} (packet : Packet) → Extends l now (EndsBy More) → new ≡ now ++ messages_in packet
    → AllByRecursion IsMessage (messages_in packet) → EndsBy (ending_of_packet packet) (messages_in packet)
    → (ending_of_packet packet ≡ Whole) ⊎ (ending_of_packet packet ≡ BrokenOff) → Extends l new IsEnded
packet_ends {l} {now} {new} packet extends added are ends (inl whole) =
    extends_by_packet IsEnded l now new packet extends added are (inl (ends_as_packet Whole extends.more packet ends extends.holds whole))
packet_ends {l} {now} {new} packet extends added are ends (inr broken) =
    extends_by_packet IsEnded l now new packet extends added are (inr (ends_as_packet BrokenOff extends.more packet ends extends.holds broken))

-- by how a packet ends the stream, as a function answers it
pub packet_says_end : {a : Ending} (packet : Packet) → a ≡ ending_of_packet packet → (a ≡ Whole) ⊎ (a ≡ BrokenOff)
    → (ending_of_packet packet ≡ Whole) ⊎ (ending_of_packet packet ≡ BrokenOff)
packet_says_end packet says (inl whole) = inl (sym says ∙ whole)
packet_says_end packet says (inr broken) = inr (sym says ∙ broken)

-- the first of several packets, and the others
pub known_by : {packet : Packet} {packets others : List Packet} → packets ≡ packet ∷ others → messages_of packets ≡ messages_in packet ++ messages_of others
unfolding messages_of
known_by {packet = packet} {others = others} same = ap messages_of same ∙ flat_map-cons messages_in packet others
