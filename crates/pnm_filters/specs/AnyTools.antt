-- Whichever tool is at work, and its state.
use Rattle.std.specs.Prelude.{◌≡◌, ℕ, true, List, [], ◌++◌, None}
use Rattle.pnm_image.specs.declared.shape.Shape.{Shape}
use Rattle.pnm_image.specs.declared.message.Message.{Message}
use Rattle.pnm_tools.specs.declared.tool.Tool.{Tool}
use Rattle.pnm_tools.specs.declared.tool.Tool.TheVariants.{Invert, Cut, Depth, Channel, Enlarge, Flip, Tile}
use Rattle.pnm_filters.specs.declared.any_tool.AnyTool.{AnyTool}
use Rattle.pnm_filters.specs.declared.any_tool.AnyTool.TheVariants.{Inverting, Cutting, Rescaling, Picking, Enlarging}
use Rattle.pnm_filters.specs.declared.any_tool.AnyTool.TheVariants.{FlippingRows, ReversingRows, Transposing, Tiling}
use Rattle.pnm_tools.specs.FusedFilters.{FilterAt}
use Rattle.pnm_tools.specs.declared.fused_filter.FusedFilter.{FusedFilter}
use Rattle.pnm_image.specs.Rows.{rows_list}
use Rattle.pnm_row_tools.specs.RowKeeping.{IsReadyForRows, HasTable, cut_of, HasSpans, FlipsInRows, IsReversingRows}
use Rattle.pnm_repeat_tools.specs.Enlarging.{IsEnlarging}
use Rattle.pnm_repeat_tools.specs.Keeping.{IsTiling, across_of, down_of, enlarged_due, kept_rows, tiled_due}
use Rattle.pnm_row_tools.specs.RowKeeping.{reversed_due}
use Rattle.pnm_transpose.specs.Keeping.{IsTransposing, transposed_due}
use Rattle.pnm_tools.specs.Channel.{HasPlanes}
use Rattle.pnm_tools.specs.Depth.{rescaled_by}
use Rattle.pnm_tools.specs.Invert.{inverting}
use Rattle.pnm_row_tools.specs.declared.by_row.ByRow.{ByRow}
use Rattle.pnm_filters.specs.Pendings.{is_all_given}
use Rattle.pnm_filters.specs.States.{StateValue, IsAt}

-- which tool it is, the rows of the result that it still gives for what has come, the rows that it keeps, and that it
-- is ready for the next row of an image of this shape, of which these have come
pub record Worker : Type 1 where
  pub tool : Tool
  pub due : List (List ℕ)
  pub kept : List (List ℕ)
  pub ready : Shape → List (List ℕ) → Type 0

-- a tool that makes rows of rows, and still gives those that it has made
abbrev pub by_row : {W : Type 0} → Tool → ByRow W → (W → Shape → Type 0) → Worker
by_row tool w ready =
    record {
      tool = tool;
      due = rows_list w.made;
      kept = rows_list w.made;
      ready = λ s rows. IsReadyForRows ready w.tool s rows;
    }

abbrev pub worker : AnyTool → Worker
worker (Inverting w) = by_row Invert w (HasTable (λ inverter. inverting))
worker (Cutting w) = by_row (Cut (cut_of w.tool)) w HasSpans
worker (Rescaling w) = by_row (Depth w.tool.tool.maxval) w (HasTable (λ rescaler. rescaled_by rescaler.maxval))
worker (Picking w) = by_row (Channel w.tool) w HasPlanes
worker (Enlarging w) =
    record {
      tool = Enlarge (across_of w) (down_of w);
      due = enlarged_due w;
      kept = kept_rows w;
      ready = λ s rows. IsEnlarging (across_of w) s;
    }
worker (FlippingRows w) = by_row (Flip w.tool) w FlipsInRows
worker (ReversingRows w) =
    record { tool = Flip w.way; due = reversed_due w; kept = w.rows; ready = λ s rows. IsReversingRows w s rows }
worker (Transposing w) =
    record {
      tool = Flip w.way;
      due = transposed_due w;
      kept = w.strips ++ w.rows ++ w.batch;
      ready = λ s rows. IsTransposing w s rows;
    }
worker (Tiling w) =
    record { tool = Tile w.width w.height; due = tiled_due w; kept = w.rows; ready = λ s rows. IsTiling w s rows }

abbrev pub tool_of : AnyTool → Tool
tool_of work = (worker work).tool

abbrev pub IsReady : AnyTool → Shape → List (List ℕ) → Type 0
IsReady work s rows = (worker work).ready s rows

abbrev pub due_of : AnyTool → List (List ℕ)
due_of work = (worker work).due

abbrev pub kept_of : AnyTool → List (List ℕ)
kept_of work = (worker work).kept

-- the state of a chain's tool, which has accepted these messages and given those
abbrev pub IsToolAt : StateValue AnyTool → Tool → List Message → List Message → Type 0
IsToolAt s t l g = IsAt tool_of IsReady due_of kept_of s t l g

-- the state of this tool before the first message
pub record IsFreshTool (s : StateValue AnyTool) (t : Tool) : Type 0 where
  pub state : IsToolAt s t [] []
  pub none_due : is_all_given s.pending ≡ true
  pub going : s.fault ≡ None

-- the state of a tool of a chain, which takes nothing more once it has refused
abbrev pub ToolAt : FusedFilter (StateValue AnyTool) → Tool → List Message → List Message → Type 0
ToolAt stage tool received given = FilterAt IsToolAt (λ s. is_all_given s.pending) (λ s. s.fault) stage tool received
    given
