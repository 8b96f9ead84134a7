-- What is left of a packet behind its first message, and what drops it.
use Rattle.pnm_tools.proofs.Words.{◌≡◌, Bool, true, false, List, ◌++◌, Option, None, is_some, refl, sym, ap, subst, ◌∙◌, inl, append_assoc, Message, More}
use Rattle.pnm_tools.proofs.Words.{EndsBy, packet_list, Packet, ToolFault, Memory, FusedFilter, AtWork, Refused, Tool, refusal_in, FilterAt, Unfed, unfed_in}
use Rattle.pnm_tools.proofs.FusedSteps.{drops}

-- a tool that has refused drops what comes
pub drops_unfed : {F : Type 0} (at : F → Tool → List Message → List Message → Type 0) (all_given : F → Bool) (stopped : F → Option ToolFault)
    (old : FusedFilter F) (tool : Tool) (l g rest : List Message) → is_some (refusal_in old) ≡ true
    → FilterAt at all_given stopped old tool l g → FilterAt at all_given stopped old tool (l ++ rest) g
drops_unfed at all_given stopped (AtWork filter) tool l g rest is stage = absurd cc
drops_unfed at all_given stopped (Refused fault) tool l g rest is stage = drops tool fault rest l g stage

-- there is no memory for what comes
pub lacks_memory : {F : Type 0} (at : F → Tool → List Message → List Message → Type 0) (all_given : F → Bool) (stopped : F → Option ToolFault)
    (old new : FusedFilter F) (tool : Tool) (l g rest : List Message) → is_some (refusal_in old) ≡ false → new ≡ Refused Memory
    → FilterAt at all_given stopped old tool l g → EndsBy More l → FilterAt at all_given stopped new tool (l ++ rest) g
lacks_memory at all_given stopped (Refused fault) new tool l g rest going is idle more = absurd cc
lacks_memory at all_given stopped (AtWork filter) new tool l g rest going is idle more =
    subst (λ (f : FusedFilter _). FilterAt at all_given stopped f tool (l ++ rest) g) (sym is)
    record {
      accepted = l;
      rest = rest;
      parts = refl;
      taken = idle.full.taken;
      answers = idle.full.answers;
      refused = inl (refl, idle.full.ends More more);
    }

-- behind the first message of a packet that was taken apart
pub behind_message : (u : Unfed) (messages first : List Message) (more : Option Packet) → u.apart ≡ None → messages ≡ first ++ packet_list more
    → messages ++ unfed_in u ≡ first ++ unfed_in record { apart = more; rest = u.rest }
behind_message u messages first more none parts =
    let rest = packet_list u.rest in
    rw none (ap (λ (ms : List Message). ms ++ rest) parts ∙ append_assoc first (packet_list more) rest)
