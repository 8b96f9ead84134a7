-- The tools of a run in one thread, before the first message.
use Rattle.std.specs.Prelude.{List, [], ◌∷◌}
use Rattle.pnm_image.specs.declared.message.Message.{Message}
use Rattle.pnm_tools.specs.declared.tool.Tool.{Tool}
use Rattle.pnm_tools.specs.declared.fused_filter.FusedFilter.{FusedFilter}
use Rattle.pnm_filters.specs.declared.any_tool.AnyTool.{AnyTool}
use Rattle.pnm_filters.specs.AnyTools.{IsToolAt, ToolAt}
use Rattle.pnm_filters.specs.Pendings.{is_all_given}
use Rattle.pnm_filters.specs.States.{StateValue}
use Rattle.pnm_serial.specs.SerialChains.{FiltersAt}

abbrev pub ToolsAt : List (FusedFilter (StateValue AnyTool)) → List Tool → List Message → List Message → Type 0
ToolsAt stages tools received given =
    FiltersAt IsToolAt (λ s. is_all_given s.pending) (λ s. s.fault) stages tools received given

-- each stage is its tool before the first message
abbrev pub AreFresh : List (FusedFilter (StateValue AnyTool)) → List Tool → Type 0
AreFresh [] [] = Unit {0}
AreFresh [] (tool ∷ tools) = ⊥
AreFresh (stage ∷ stages) [] = ⊥
AreFresh (stage ∷ stages) (tool ∷ tools) = ToolAt stage tool [] [] × AreFresh stages tools
