-- What is still to be fed of a packet, and what was fed of it.
use Rattle.std.specs.Prelude.{◌≡◌, Bool, List, ◌++◌, Option}
use Rattle.pnm_image.specs.declared.message.Message.{Message}
use Rattle.pnm_image.specs.Packets.{packet_list}
use Rattle.pnm_tools.specs.declared.fault.ToolFault.{ToolFault}
use Rattle.pnm_tools.specs.declared.tool.Tool.{Tool}
use Rattle.pnm_tools.specs.declared.fused_filter.FusedFilter.{FusedFilter}
use Rattle.pnm_tools.specs.declared.unfed.Unfed.{Unfed}
use Rattle.pnm_tools.specs.FusedFilters.{FilterAt, FilterBusy}

-- the messages that are still to be fed
abbrev pub unfed_in : Unfed → List Message
unfed_in u = packet_list u.apart ++ packet_list u.rest

-- a tool that had given all for what it received, or had refused, was fed the next of these messages, and the others
-- are left
pub record HasFedNext {F : Type 0} (at : F → Tool → List Message → List Message → Type 0) (all_given : F → Bool)
    (stopped : F → Option ToolFault) (old new : FusedFilter F) (before after : List Message) : Type 0 where
  pub fed : List Message
  pub parts : before ≡ fed ++ after
  pub busy : (tool : Tool) (l g : List Message) → FilterAt at all_given stopped old tool l g
      → FilterBusy at stopped new tool (l ++ fed) g
