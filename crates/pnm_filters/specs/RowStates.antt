-- The state of a row-wise tool at work on what a lane sees.
use Rattle.std.specs.Prelude.{◌≡◌, true, List, [], None}
use Rattle.pnm_image.specs.declared.message.Message.{Message}
use Rattle.pnm_filters.specs.declared.row_state.RowState.{RowState}
use Rattle.pnm_tools.specs.declared.tool.Tool.{Tool}
use Rattle.pnm_tools.specs.Dealing.{IsRowWise}
use Rattle.pnm_tools.specs.FusedFilters.{FilterAt}
use Rattle.pnm_tools.specs.declared.fused_filter.FusedFilter.{FusedFilter}
use Rattle.pnm_filters.specs.AnyTools.{IsToolAt}
use Rattle.pnm_filters.specs.Pendings.{is_all_given}

-- the state of this tool, which is row-wise, has accepted these messages and given those
pub record IsRowWiseAt (s : RowState) (t : Tool) (l g : List Message) : Type 0 where
  pub state : IsToolAt s.state t l g
  pub row_wise : IsRowWise t

-- the state of this tool before the first message
pub record IsFreshLane (s : RowState) (t : Tool) : Type 0 where
  pub state : IsRowWiseAt s t [] []
  pub none_due : is_all_given s.state.pending ≡ true
  pub going : s.state.fault ≡ None

-- the state of a row-wise tool in a lane, which takes nothing more once it has refused
abbrev pub RowWiseAt : FusedFilter RowState → Tool → List Message → List Message → Type 0
RowWiseAt stage tool received given =
    FilterAt IsRowWiseAt (λ s. is_all_given s.state.pending) (λ s. s.state.fault) stage
    tool received given
