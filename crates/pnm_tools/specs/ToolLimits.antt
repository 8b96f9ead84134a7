-- The limits of options and of results.
use Rattle.std.specs.Prelude.{ℕ, ◌≤◌, Result, Ok, Err, if◌then◌else◌}
use Rattle.pnm_tools.specs.declared.limits.TheConstants.{MAX_EXTENT}
use Rattle.pnm_image.specs.Heads.{HeadValue, is_too_large}
use Rattle.pnm_tools.specs.declared.fault.ToolFault.{ToolFault}
use Rattle.pnm_tools.specs.declared.fault.ToolFault.TheVariants.{TooLarge}

-- a factor, or a number of columns or rows
abbrev pub IsExtent : ℕ → Type 0
IsExtent count = (1 ≤ count) × (count ≤ MAX_EXTENT)

-- a result beyond the limits is refused
abbrev pub within_limits : HeadValue → Result HeadValue ToolFault
within_limits head = if is_too_large head.shape then Err TooLarge else Ok head
