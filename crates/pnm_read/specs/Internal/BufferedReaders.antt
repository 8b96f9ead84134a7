-- Between functions: what a call reads, and what its answer says of the text, of which only a part is held.
use Rattle.std.specs.Prelude.{◌≡◌, ℕ, ◌≤◌, ◌⊎◌, true, false, List, [], ◌∷◌, ◌++◌, take, length, Option, Some, None}
use Rattle.std.specs.Prelude.{Result, Ok, Err}
use Rattle.std.specs.Global.{Vec}
use Rattle.std.specs.Io.KnownBytes.{Consumes}
use Rattle.pnm_image.specs.Devices.{Failed}
use Rattle.pnm_read.specs.declared.fault.InputFault.{InputFault}
use Rattle.pnm_read.specs.declared.fault.InputFault.TheVariants.{ReadFailed}
use Rattle.pnm_read.specs.declared.buffered_reader.BufferedReader.{BufferedReader}
use Rattle.pnm_read.specs.BufferedReaders.{held_of, CanCome, EndsRightly}
use Rattle.pnm_read.specs.Said.{IsOutsideFault}

-- so many bytes are held, or the end was seen
abbrev pub HoldsEnough : {R : Type 0} → ℕ → BufferedReader R → Type 0
HoldsEnough wanted input = (wanted ≤ length (held_of input)) ⊎ (input.ended ≡ true)

-- A call read these bytes; and whatever comes after them, its outcome is that of what was left of the text
-- before the call and what is left of it after the call.
pub record ReadCall {R A : Type 0} (left : R → Option (List ℕ)) (failures : R → ℕ) (same : R → R → Type 0)
    (old new : BufferedReader R) (result : Result A InputFault) (outcome : List ℕ → List ℕ → Type 0) : Type 0 where
  pub read : List ℕ
  pub consumed : Consumes (left old.reader) (left new.reader) read
  pub comes : (rest : List ℕ) → CanCome new rest → CanCome old (read ++ rest)
  pub told : (rest : List ℕ) → CanCome new rest → outcome (held_of old ++ (read ++ rest)) (held_of new ++ rest)
  pub end : EndsRightly left old → EndsRightly left new
  pub same_device : same old.reader new.reader
  pub count : (result ≡ Err ReadFailed → ⊥) → failures new.reader ≡ failures old.reader
  pub read_failed : result ≡ Err ReadFailed → Failed (failures old.reader) (failures new.reader) × (new.ended ≡ false)

-- nothing was taken of the text
abbrev pub Fills : Result (Unit {0}) InputFault → List ℕ → List ℕ → Type 0
Fills (Ok _) before after = before ≡ after
Fills (Err fault) before after = IsOutsideFault fault

-- so many bytes were taken into the front of a target; none only where the text has none left
abbrev pub Reads : List ℕ → Result ℕ InputFault → List ℕ → List ℕ → Type 0
Reads target (Ok count) before after = (before ≡ take count target ++ after) × (count ≤ length target)
    × (count ≡ 0 → after ≡ [])
Reads target (Err fault) before after = IsOutsideFault fault

-- the byte that the text begins with, if it has one
abbrev pub IsByte : Result (Option ℕ) InputFault → List ℕ → List ℕ → Type 0
IsByte (Ok (Some byte)) before after = before ≡ byte ∷ after
IsByte (Ok None) before after = (before ≡ []) × (after ≡ [])
IsByte (Err fault) before after = IsOutsideFault fault

-- what a call found is what a reading of the text gives; a fault is the text's, or comes from outside
abbrev pub Finds : {X : Type 0} → (List ℕ → Result (X × List ℕ) InputFault) → Result X InputFault → List ℕ → List ℕ
    → Type 0
Finds reading (Ok x) before after = reading before ≡ Ok (x, after)
Finds reading (Err fault) before after = (reading before ≡ Err fault) ⊎ IsOutsideFault fault

-- the same of words
abbrev pub FindsWords : (List ℕ → Result (List ℕ × List ℕ) InputFault) → Result (Vec ℕ) InputFault → List ℕ → List ℕ
    → Type 0
FindsWords reading (Ok words) before after = reading before ≡ Ok (words.items, after)
FindsWords reading (Err fault) before after = (reading before ≡ Err fault) ⊎ IsOutsideFault fault

-- the text goes on as it may, and so much of it was taken; or it is at fault
abbrev pub Passes : (List ℕ → Result (List ℕ) InputFault) → Result (Unit {0}) InputFault → List ℕ → List ℕ → Type 0
Passes reading (Ok _) before after = reading before ≡ Ok after
Passes reading (Err fault) before after = (reading before ≡ Err fault) ⊎ IsOutsideFault fault
