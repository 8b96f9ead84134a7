-- Numbers of a header or a plain raster as they are held: as a u32, which stops at its greatest value. Every
-- such number is beyond the limits.
use Rattle.std.specs.Prelude.{◌≡◌, ℕ, ◌+◌, ◌*◌, ◌-◌, ◌^◌, ◌≤◌, ◌⊎◌, min, List, length, map, drop, Result, Ok, Err}
use Rattle.pnm_read.specs.declared.fault.InputFault.{InputFault}
use Rattle.pnm_read.specs.declared.fault.InputFault.TheVariants.{Memory}

-- a number as a u32
abbrev pub saturate_u32 : ℕ → ℕ
saturate_u32 n = min n (2 ^ 32 - 1)

-- the number with one digit more, as a u32
abbrev pub with_digit : ℕ → ℕ → ℕ
with_digit n digit = saturate_u32 (saturate_u32 (n * 10) + digit)

-- the last three numbers, as the scanner of a header holds them, of those that were found
pub record IsNumbers (wanted : ℕ) (found : List ℕ) (held : List ℕ) : Type 0 where
  pub count : length found ≡ wanted
  pub most : wanted ≤ 3
  pub last : drop (3 - length found) held ≡ map saturate_u32 found

-- what a call found, or a fault of the text, unless memory ran out
abbrev pub GivesInMemory : {A : Type 0} → Result A InputFault → Result A InputFault → Type 0
GivesInMemory (Ok x) read = read ≡ Ok x
GivesInMemory (Err fault) read = (fault ≡ Memory) ⊎ (read ≡ Err fault)
