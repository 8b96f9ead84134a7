-- What a device says of its calls: how many of them failed, and which bytes it gave or took.
use Rattle.std.specs.Prelude.{◌≡◌, ℕ, ◌+◌, ◌-◌, ◌^◌, ◌<◌, ◌≤◌, min, ◌⊎◌, List, take, Option, Result, MatchResult}
use Rattle.std.specs.Io.KnownBytes.{Appends}
use Rattle.pnm_image.specs.declared.device.Device.{Device}

-- the count of failures after a call: a failed call adds one, up to the greatest u64
abbrev pub CountsFailure : {T E : Type 0} → ℕ → ℕ → Result T E → Type 0
CountsFailure old new r = MatchResult r (λ _. new ≡ old) (λ _. new ≡ min (old + 1) (2 ^ 64 - 1))

-- the device failed in what took its count from old to new: no count goes beyond the greatest u64
abbrev pub Failed : ℕ → ℕ → Type 0
Failed old new = ((old < new) ⊎ (new ≡ 2 ^ 64 - 1)) × (new ≤ 2 ^ 64 - 1)

-- the reader or writer of a device
abbrev pub device_inner : {D : Type 0} → Device D → D
device_inner d = d.inner

-- the failures that a device has counted
abbrev pub device_failures : {D : Type 0} → Device D → ℕ
device_failures d = d.failures

-- known bytes grow by a prefix of these
abbrev pub AppendsPrefix : Option (List ℕ) → Option (List ℕ) → List ℕ → Type 0
AppendsPrefix old new bytes = (n : ℕ) × Appends old new (take n bytes)

-- the writer failed, and a prefix of the bytes was written
abbrev pub FailsIn : List ℕ → Option (List ℕ) → Option (List ℕ) → ℕ → ℕ → Type 0
FailsIn bytes old new failures_old failures_new = AppendsPrefix old new bytes × Failed failures_old failures_new
