-- The state of a tool at work: what it has accepted and given, W being what the tool keeps.
use Rattle.std.specs.Prelude.{◌≡◌, ℕ, List, [], length, Option}
use Rattle.pnm_image.specs.declared.shape.Shape.{Shape}
use Rattle.pnm_image.specs.declared.message.Message.{Message}
use Rattle.pnm_image.specs.declared.place.Place.{Place}
use Rattle.pnm_image.specs.declared.place.Place.TheVariants.{Between, Inside, After}
use Rattle.pnm_image.specs.Places.{place_of}
use Rattle.pnm_tools.specs.declared.fault.ToolFault.{ToolFault}
use Rattle.pnm_tools.specs.declared.tool.Tool.{Tool}
use Rattle.pnm_tools.specs.Answers.{Answers}
use Rattle.pnm_tools.specs.Answering.{IsAnswering, rows_come}
use Rattle.pnm_tools.specs.Tools.{IsLawfulTool}
use Rattle.pnm_filters.specs.declared.pending.Pending.{Pending}
use Rattle.pnm_filters.specs.declared.pending.Phase.{Phase}
use Rattle.pnm_filters.specs.declared.pending.Phase.TheVariants.{Idle, Rows, RowsAndEnd, StreamEnd, Stop, Done}
use Rattle.pnm_filters.specs.Pendings.{waiting_in}

-- the value of a state: the tool at work, the place in what it accepts, what is still to be given, and the fault that
-- there was
pub record StateValue (W : Type 0) : Type 0 where
  pub work : W
  pub place : Place
  pub pending : Pending
  pub fault : Option ToolFault

-- inside an image it is ready for the next row, where these have come
abbrev pub IsReadyFor : {W : Type 0} → (W → Shape → List (List ℕ) → Type 0) → W → Place → List (List ℕ) → Type 0
IsReadyFor ready work Between rows = Unit {0}
IsReadyFor ready work (Inside s y) rows = (length rows ≡ y) × ready work s rows
IsReadyFor ready work After rows = Unit {0}

-- each phase comes where it can: outside images the tool keeps no rows, once it has given the end of the last one, and
-- inside one no row is due, once the caller knows that all was given
abbrev pub SuitsPlace : {W : Type 0} → (W → List (List ℕ)) → (W → List (List ℕ)) → W → Place → Phase → Type 0
SuitsPlace due kept work Between Idle = kept work ≡ []
SuitsPlace due kept work Between Rows = ⊥
SuitsPlace due kept work Between RowsAndEnd = Unit {0}
SuitsPlace due kept work Between StreamEnd = ⊥
SuitsPlace due kept work Between Stop = ⊥
SuitsPlace due kept work Between Done = kept work ≡ []
SuitsPlace due kept work (Inside s y) Idle = due work ≡ []
SuitsPlace due kept work (Inside s y) Rows = Unit {0}
SuitsPlace due kept work (Inside s y) RowsAndEnd = ⊥
SuitsPlace due kept work (Inside s y) StreamEnd = ⊥
SuitsPlace due kept work (Inside s y) Stop = ⊥
SuitsPlace due kept work (Inside s y) Done = ⊥
SuitsPlace due kept work After Idle = kept work ≡ []
SuitsPlace due kept work After Rows = ⊥
SuitsPlace due kept work After RowsAndEnd = ⊥
SuitsPlace due kept work After StreamEnd = kept work ≡ []
SuitsPlace due kept work After Stop = kept work ≡ []
SuitsPlace due kept work After Done = kept work ≡ []

-- the state of this tool, which has accepted these messages and given those
pub record IsAt {W : Type 0} (tool_at : W → Tool) (ready_for : W → Shape → List (List ℕ) → Type 0)
    (due kept : W → List (List ℕ)) (s : StateValue W) (t : Tool) (l g : List Message) : Type 0 where
  pub tool : tool_at s.work ≡ t
  pub options : IsLawfulTool t
  pub answering : IsAnswering t l g (waiting_in s.pending (due s.work))
  pub place : s.place ≡ place_of Between l
  pub ready : IsReadyFor ready_for s.work s.place (rows_come [] l)
  pub suits : SuitsPlace due kept s.work s.place s.pending.phase
  pub answers : Answers t l g
