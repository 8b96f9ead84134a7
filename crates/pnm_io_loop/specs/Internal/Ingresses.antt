-- Between functions: what the source of a run has given, and what was sent of it into the ring before the first tool.
use Rattle.std.specs.Prelude.{◌≡◌, ◌<◌, ◌⊎◌, length, None}
use Rattle.pnm_stages.specs.Rings.{sent}
use Rattle.pnm_io_loop.specs.declared.ingress.Ingress.{Ingress}

-- a message more was sent, or how the source has ended is noted
abbrev pub HasGoneOn : {R : Type 0} → Ingress R → Ingress R → Type 0
HasGoneOn old new = (length (sent old.output) < length (sent new.output)) ⊎ (new.input ≡ None → ⊥)
