-- Before threads have started.
use Rattle.std.specs.Prelude.{◌≡◌}
use Rattle.pnm_stages.specs.declared.sender.Sender.{Sender}
use Rattle.pnm_stages.specs.declared.receiver.Receiver.{Receiver}
use Rattle.pnm_stages.specs.Rings.{sent, received, SameSender, SameReceiver}

-- these are the two ring ends, over which nothing has passed since
abbrev pub IsUntouched : Receiver → Sender → (Receiver × Sender) → Type 0
IsUntouched input output ends =
    SameReceiver input ends.0 × (received ends.0 ≡ received input) × SameSender output ends.1
    × (sent ends.1 ≡ sent output)
