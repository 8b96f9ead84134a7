-- A packet that is taken from the ring behind the last tool of a run, and put.
use Rattle.pnm_io_loop.proofs.Words.{◌≡◌, ℕ, Bool, true, false, List, [], ◌∷◌, ◌++◌, Option, length, refl, sym, ap, ◌∙◌, append_assoc, received, Form, Message}
use Rattle.pnm_io_loop.proofs.Words.{Part, EndsStream, Stops, messages_in, ending_of_packet, without_stop, EndsBy, Ending, More, BrokenOff, IsUnbroken}
use Rattle.pnm_io_loop.proofs.Words.{unbroken_keeps_all, Packet, Egress, images_in, images_in-append, EndedBy, HasReceived, IsEgress, receiving_is_over}
use Rattle.pnm_io_loop.proofs.Words.{ends_as_packet, stop_is_cut}

-- ---- a packet behind messages

-- whether they have ended then
pub ends_by : {e : Ending} (b : Bool) (l : List Message) (p : Packet) → EndsBy (ending_of_packet p) (messages_in p) → b ≡ false → EndedBy b l
    → ending_of_packet p ≡ e → EndsBy e (l ++ messages_in p)
ends_by true l p ends going ended same = absurd cc
ends_by {e} false l p ends going ended same = ends_as_packet e l p ends ended same

-- every message but Stop is written
pub keeps_packet : {e : Ending} (b : Bool) (l : List Message) (p : Packet) → EndsBy (ending_of_packet p) (messages_in p) → IsUnbroken e → b ≡ false
    → EndedBy b l → ending_of_packet p ≡ e → without_stop l ++ messages_in p ≡ without_stop (l ++ messages_in p)
keeps_packet true l p ends unbroken going ended same = absurd cc
keeps_packet {e} false l p ends unbroken going ended same =
    ap (λ (x : List Message). x ++ messages_in p) (unbroken_keeps_all More l tt ended)
    ∙ sym (unbroken_keeps_all e (l ++ messages_in p) unbroken (ends_as_packet e l p ends ended same))

pub cuts_stop : (b : Bool) (l : List Message) (p : Packet) → b ≡ false → EndedBy b l → ending_of_packet p ≡ BrokenOff
    → without_stop l ≡ without_stop (l ++ messages_in p)
cuts_stop true l p going ended same = absurd cc
cuts_stop false l (Part part) going ended same = absurd cc
cuts_stop false l EndsStream going ended same = absurd cc
cuts_stop false l Stops going ended same = unbroken_keeps_all More l tt ended ∙ sym (stop_is_cut l)

-- ---- what came from the ring

pub collects_some : {W : Type 0} (held : W → Option (List ℕ)) (failures : W → ℕ) (form : Form) (start : W) (before some : List Message)
    (old new : Egress W)
    → received new.input ≡ received old.input ++ some
    → ((l : List Message) → HasReceived held failures form start l old.has_ended old.fused_sink
    → HasReceived held failures form start (l ++ some) new.has_ended new.fused_sink)
    → new.images ≡ images_in old.images some
    → IsEgress held failures form start before old → IsEgress held failures form start before new
collects_some held failures form start before some old new added puts count was = record {
  took = was.took ++ some;
  came = added ∙ ap (λ (x : List Message). x ++ some) was.came ∙ append_assoc before was.took some;
  put = puts was.took was.put;
  counted = count ∙ ap (λ (n : ℕ). images_in n some) was.counted ∙ sym (images_in-append 0 was.took some);
}

-- what was left came in part
pub still_all : (old : List Message) {new left : List Message} (now : List Message) {sent : List Message} (some : List Message) → old ++ left ≡ sent
    → new ≡ old ++ some → left ≡ some ++ now → new ++ now ≡ sent
still_all old now some all added first =
    ap (λ (x : List Message). x ++ now) added ∙ append_assoc old some now ∙ ap (λ (x : List Message). old ++ x) (sym first) ∙ all

-- what is seen first comes first
abbrev first_or : Packet → List Packet → Packet
first_or m [] = m
first_or m (n ∷ l) = n

pub first_is : {m n : Packet} {k l : List Packet} → m ∷ k ≡ n ∷ l → m ≡ n
first_is {m} same = ap (first_or m) same

-- none are left
pub none_left : (left : List Message) → length left ≡ 0 → left ≡ []
none_left [] none = refl
none_left (m ∷ left) none = absurd cc

-- ---- whether it is over

-- what is going on hasn't ended
pub not_ended : (has_ended is_gone : Bool) → receiving_is_over has_ended is_gone ≡ false → has_ended ≡ false
not_ended true is_gone going = going
not_ended false is_gone going = refl

-- it is over once the other end is gone
pub over_if_gone : (has_ended : Bool) → receiving_is_over has_ended true ≡ true
over_if_gone true = refl
over_if_gone false = refl

-- and goes on if it isn't
pub still_going : (has_ended is_gone : Bool) {now : Bool} → receiving_is_over has_ended is_gone ≡ false → now ≡ false
    → receiving_is_over has_ended now ≡ receiving_is_over has_ended is_gone
still_going true is_gone going same = refl
still_going false is_gone going same = same ∙ sym going
