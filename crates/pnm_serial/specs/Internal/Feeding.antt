-- Between functions: what has passed from the source through the stages to the sink of a run.
use Rattle.std.specs.Prelude.{◌≡◌, ◌⊎◌, ℕ, Bool, List, [], ◌++◌, Option, Result, Err}
use Rattle.std.specs.Io.KnownBytes.{Consumes}
use Rattle.pnm_image.specs.Devices.{Failed}
use Rattle.pnm_image.specs.declared.format.Form.{Form}
use Rattle.pnm_image.specs.declared.message.Message.{Message}
use Rattle.pnm_read.specs.declared.fault.InputFault.{InputFault}
use Rattle.pnm_read.specs.declared.fault.InputFault.TheVariants.{ReadFailed}
use Rattle.pnm_read.specs.declared.source.Source.{Source}
use Rattle.pnm_read.specs.Sources.{reader_of}
use Rattle.pnm_tools.specs.Chains.{AreLawfulTools}
use Rattle.pnm_tools.specs.ChainAnswers.{AreSound}
use Rattle.pnm_tools.specs.declared.fault.ToolFault.{ToolFault}
use Rattle.pnm_tools.specs.declared.tool.Tool.{Tool}
use Rattle.pnm_serial.specs.declared.fused_sink.FusedSink.{FusedSink}
use Rattle.pnm_tools.specs.declared.fused_filter.FusedFilter.{FusedFilter}
use Rattle.pnm_serial.specs.FusedSinks.{HasTaken}
use Rattle.pnm_serial.specs.Runs.{change}
use Rattle.pnm_serial.specs.SerialRuns.{HasMostMessages}
use Rattle.pnm_serial.specs.SerialChains.{FiltersAt}
use Rattle.pnm_serial.specs.Feeding.{MayFollowRead, IsSaidOf}

-- what the source gave has passed through the stages, and the sink has taken what came of it
pub record HaveTaken {F W : Type 0} (at : F → Tool → List Message → List Message → Type 0) (all_given : F → Bool)
    (stopped : F → Option ToolFault) (held : W → Option (List ℕ)) (failures : W → ℕ)
    (given : List Message) (old new : List (FusedFilter F)) (before after : FusedSink W) : Type 0 where
  pub out : List Message
  pub stages : (tools : List Tool) → AreLawfulTools tools → FiltersAt at all_given stopped old tools [] []
      → FiltersAt at all_given stopped new tools given out
  pub taken : (form : Form) (start : W) → HasTaken held failures form start [] before
      → HasTaken held failures form start out after

-- the source has read these bytes and given these messages, which are told of each text that may go on after them
pub record HasFed {R F W : Type 0} (left : R → Option (List ℕ)) (reader_failures : R → ℕ)
    (at : F → Tool → List Message → List Message → Type 0) (all_given : F → Bool) (stopped : F → Option ToolFault)
    (held : W → Option (List ℕ)) (writer_failures : W → ℕ)
    (source source_new : Source R) (result : Result (Unit {0}) InputFault) (old new : List (FusedFilter F))
    (before after : FusedSink W) : Type 0 where
  pub read : List ℕ
  pub consumed : Consumes (left (reader_of source)) (left (reader_of source_new)) read
  pub given : List Message
  pub sound : AreSound given
  pub told : (rest : List ℕ)
      → MayFollowRead result (change left reader_failures (reader_of source) (reader_of source_new)) rest
      → IsSaidOf (read ++ rest) given result
  pub count : (result ≡ Err ReadFailed → ⊥)
      → reader_failures (reader_of source_new) ≡ reader_failures (reader_of source)
  pub read_failed : result ≡ Err ReadFailed
      → Failed (reader_failures (reader_of source)) (reader_failures (reader_of source_new))
      ⊎ HasMostMessages (left (reader_of source)) (left (reader_of source_new))
  pub output : HaveTaken at all_given stopped held writer_failures given old new before after
