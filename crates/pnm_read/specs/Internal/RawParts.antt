-- What reading the units of a raw row gives, part by part.
use Rattle.std.specs.Prelude.{◌≡◌, ℕ, ◌≤◌, ◌⊎◌, List, ◌++◌, All, Result, Ok, Err}
use Rattle.std.specs.List.{concat}
use Rattle.pnm_image.specs.declared.shape.Shape.{Shape}
use Rattle.pnm_read.specs.declared.fault.InputFault.{InputFault}
use Rattle.pnm_read.specs.declared.fault.InputFault.TheVariants.{SampleAboveMaxval, Memory}
use Rattle.pnm_image.specs.declared.sample_width.SampleWidth.{SampleWidth}
use Rattle.pnm_read.specs.Rasters.{wide_samples}
use Rattle.pnm_read.specs.Items.{raw_item}
use Rattle.pnm_read.specs.Said.{in_turn, units_at}
use Rattle.pnm_read.specs.Said.{IsOutsideFault}

-- samples were appended, none of them above the maxval; or one of them is
abbrev pub AppendsSamples : ℕ → List ℕ → List ℕ → List ℕ → Result (Unit {0}) InputFault → Type 0
AppendsSamples maxval samples old new (Ok _) = (new ≡ old ++ samples) × All (λ sample. sample ≤ maxval) samples
AppendsSamples maxval samples old new (Err fault) = (fault ≡ Memory)
    ⊎ ((fault ≡ SampleAboveMaxval) × (All (λ sample. sample ≤ maxval) samples → ⊥))

abbrev pub AppendsWide : ℕ → List ℕ → List ℕ → List ℕ → Result (Unit {0}) InputFault → Type 0
AppendsWide maxval bytes old new result = AppendsSamples maxval (wide_samples bytes) old new result

-- At most so many units came next in the text, and their samples after the old ones; or one of so many is at fault.
abbrev pub FindsPart : SampleWidth → ℕ → ℕ → List ℕ → (ℕ → List ℕ) → Result ℕ InputFault → List ℕ → List ℕ → Type 0
FindsPart sample_width maxval most old new (Ok count) before after =
    (units : List (List ℕ)) × (new count ≡ old ++ concat units) × (count ≤ most)
    × (in_turn (raw_item sample_width maxval) count before ≡ Ok (units, after))
FindsPart sample_width maxval most old new (Err fault) before after =
    ((n : ℕ) × (n ≤ most) × (in_turn (raw_item sample_width maxval) n before ≡ Err fault)) ⊎ IsOutsideFault fault

-- the units of the row that the text begins with, and their samples, with those of spare bits
abbrev pub FindsUnits : {R : Type 0} → (R → List ℕ) → Shape → Result R InputFault → List ℕ → List ℕ → Type 0
FindsUnits items s (Ok row) before after = (units : List (List ℕ)) × (units_at s before ≡ Ok (units, after))
    × (items row ≡ concat units)
FindsUnits items s (Err fault) before after = (units_at s before ≡ Err fault) ⊎ IsOutsideFault fault
