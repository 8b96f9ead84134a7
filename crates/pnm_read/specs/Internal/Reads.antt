-- What one read of a device gives.
use Rattle.std.specs.Prelude.{◌≡◌, ℕ, ◌≤◌, List, [], take, length, Option, Result, Ok, Err}
use Rattle.std.specs.Io.KnownBytes.{Consumes, IsAtEnd}
use Rattle.pnm_image.specs.Devices.{Failed}
use Rattle.pnm_read.specs.declared.fault.InputFault.{InputFault}
use Rattle.pnm_read.specs.declared.fault.InputFault.TheVariants.{ReadFailed}

-- so many bytes came into the front of the target, none only at the end; or the reader failed, and no byte came
abbrev pub HasRead : {R : Type 0} → (R → Option (List ℕ)) → (R → ℕ) → (R → R → Type 0) → R → R → List ℕ
    → Result ℕ InputFault → Type 0
HasRead left failures same old new target (Ok count) =
    Consumes (left old) (left new) (take count target) × (count ≤ length target) × (count ≡ 0 → IsAtEnd (left new))
    × (failures new ≡ failures old) × same old new
HasRead left failures same old new target (Err fault) = Consumes (left old) (left new) [] × (fault ≡ ReadFailed)
    × Failed (failures old) (failures new) × same old new
