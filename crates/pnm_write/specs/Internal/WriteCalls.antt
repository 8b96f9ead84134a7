-- What one call of a writer's functions writes.
use Rattle.std.specs.Prelude.{◌≡◌, ℕ, List, Option, Result, OnOk, OnErr}
use Rattle.std.specs.Io.KnownBytes.{Appends}
use Rattle.pnm_image.specs.Devices.{FailsIn}
use Rattle.pnm_image.specs.declared.device.DeviceFailed.{DeviceFailed}

-- the bytes were written, and the writer didn't fail; or it failed in them
pub record WriteCall {W : Type 0} (held : W → Option (List ℕ)) (failures : W → ℕ) (same : W → W → Type 0) (old new : W)
    (result : Result (Unit {0}) DeviceFailed) (bytes : List ℕ) : Type 0 where
  pub written : OnOk result (Appends (held old) (held new) bytes)
  pub failed : OnErr result (FailsIn bytes (held old) (held new) (failures old) (failures new))
  pub count : OnOk result (failures new ≡ failures old)
  pub same_device : same old new
