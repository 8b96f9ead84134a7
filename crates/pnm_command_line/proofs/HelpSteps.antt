-- Writing the help text.
use Rattle.std.proofs.Common.{◌≡◌, ℕ, List, Option, Some, [], take, sym, subst}
use Rattle.std.specs.Prelude.{option_and_then}
use Rattle.std.proofs.lemmas.List.{append-nil}
use Rattle.std.proofs.KnownBytes.{Appends-trans}
use Rattle.std.specs.Io.KnownBytes.{Appends, Keeps}
use Rattle.pnm_image.specs.Devices.{AppendsPrefix}
use Rattle.pnm_image.proofs.Written.{Appends-nothing, then_prefix}
use Rattle.pnm_command_line.specs.Streams.{held_at_end}
use Rattle.pnm_command_line.specs.declared.streams.Ended.{Ended}

-- what was written whole and then kept is the text
pub flushed_whole : (old written new : Option (List ℕ)) (text : List ℕ) → Appends old written text → Keeps written new → Appends old new text
flushed_whole old written new text appended kept =
    subst (Appends old new) (append-nil text) (Appends-trans old written new text [] appended (Appends-nothing written new kept))

-- and so a prefix of it
pub flushed_prefix : (old written new : Option (List ℕ)) (text : List ℕ) → Appends old written text → Keeps written new → AppendsPrefix old new text
flushed_prefix old written new text appended kept =
    subst (AppendsPrefix old new) (append-nil text) (then_prefix old written new text [] appended (0, Appends-nothing written new kept))

-- at the end the output holds what of the text was written to it
pub told_at_end : {R W : Type 0} (contents : W → Option (List ℕ)) (ended : Ended R W) (old : Option (List ℕ)) (output : W) (text : List ℕ)
    → AppendsPrefix old (contents output) text → ended.output ≡ Some output → (told : List ℕ) × Appends old (held_at_end contents ended) told
told_at_end {W = W} contents ended old output text (n, appended) is =
    (take n text, subst (λ (o : Option W). Appends old (option_and_then contents o) (take n text)) (sym is) appended)
