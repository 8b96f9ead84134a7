-- How a tool at work takes messages, and how it gives some.
use Rattle.std.specs.Prelude.{◌≡◌, ◌≤◌, ◌+◌, ◌⊎◌, ℕ, length, true, false, Bool, List, [], ◌∷◌, ◌++◌, Option, Some, None}
use Rattle.std.specs.Prelude.{Result, Ok, Err}
use Rattle.pnm_image.specs.declared.shape.Shape.{Shape}
use Rattle.pnm_image.specs.declared.message.Message.{Message}
use Rattle.pnm_image.specs.declared.place.Place.{Place}
use Rattle.pnm_image.specs.declared.place.Place.TheVariants.{Inside}
use Rattle.pnm_image.specs.Heads.{HeadValue}
use Rattle.pnm_image.specs.Places.{place_of}
use Rattle.pnm_image.specs.Parts.{head_messages}
use Rattle.pnm_image.specs.Packets.{messages_in, packet_list}
use Rattle.pnm_image.specs.declared.packet.Packet.{Packet}
use Rattle.pnm_tools.specs.declared.fault.ToolFault.{ToolFault}
use Rattle.pnm_tools.specs.declared.fault.ToolFault.TheVariants.{Memory}
use Rattle.pnm_tools.specs.declared.tool.Tool.{Tool}
use Rattle.pnm_tools.specs.Answers.{Begins, RefusesHead}
use Rattle.pnm_tools.specs.Answering.{answers_from, rows_answer, rows_come}
use Rattle.pnm_tools.specs.Tools.{AreTaken, end_answer}
use Rattle.pnm_filters.specs.declared.pending.Pending.{Pending}
use Rattle.pnm_filters.specs.declared.pending.Phase.{Phase}
use Rattle.pnm_filters.specs.declared.pending.Phase.TheVariants.{Idle, Rows, RowsAndEnd, StreamEnd, Stop, Done}
use Rattle.pnm_filters.specs.Pendings.{is_all_given, waiting_in}
use Rattle.pnm_filters.specs.States.{IsReadyFor, SuitsPlace}

-- ---- messages are taken, at a place where they may come

-- they are taken, whatever rows of the image have come before them, and the answers to them wait
pub record AreAccepted {W : Type 0} (tool_at : W → Tool) (ready_for : W → Shape → List (List ℕ) → Type 0)
    (due kept : W → List (List ℕ)) (old : W) (from : Place) (ms : List Message) (new : W) (pending : Pending)
    : Type 0 where
  pub taken : AreTaken (tool_at old) ms
  pub tool : tool_at new ≡ tool_at old
  pub ready : (rows : List (List ℕ)) → IsReadyFor ready_for old from rows
      → IsReadyFor ready_for new (place_of from ms) (rows_come rows ms)
  pub some_due : is_all_given pending ≡ false
  pub answer : (rows : List (List ℕ)) → IsReadyFor ready_for old from rows
      → waiting_in pending (due new) ≡ answers_from (tool_at old) from rows ms
  pub suits : SuitsPlace due kept old from Idle → SuitsPlace due kept new (place_of from ms) pending.phase

-- the first of them is refused, or there is no memory for them
abbrev pub IsFirstRefused : Tool → List Message → ToolFault → Type 0
IsFirstRefused tool [] fault = ⊥
IsFirstRefused tool (m ∷ ms) fault = RefusesHead tool m fault ⊎ ((fault ≡ Memory) × Begins tool m)

abbrev pub Answered : {W : Type 0} → (W → Tool) → (W → Shape → List (List ℕ) → Type 0) → (W → List (List ℕ))
    → (W → List (List ℕ)) → W → Place → List Message → W → Result Pending ToolFault → Type 0
Answered tool_at ready_for due kept old from ms new (Ok pending) =
    AreAccepted tool_at ready_for due kept old from ms new pending
Answered tool_at ready_for due kept old from ms new (Err fault) =
    IsFirstRefused (tool_at old) ms fault × (tool_at new ≡ tool_at old)

-- ---- the three steps of a part of an image

-- a place inside an image
abbrev pub LiesInside : Place → Type 0
LiesInside place = (shape : Shape) × (y : ℕ) × (place ≡ Inside shape y)

-- an image has begun, if a head comes, and no row is due
pub record HasBegun {W : Type 0} (tool_at : W → Tool) (ready_for : W → Shape → List (List ℕ) → Type 0)
    (due : W → List (List ℕ)) (old : W) (from : Place) (head : Option HeadValue) (new : W) (shape : Shape) (y : ℕ)
    (made : Option HeadValue) : Type 0 where
  pub taken : AreTaken (tool_at old) (head_messages head)
  pub tool : tool_at new ≡ tool_at old
  pub inside : place_of from (head_messages head) ≡ Inside shape y
  pub ready : (rows : List (List ℕ)) → IsReadyFor ready_for old from rows
      → IsReadyFor ready_for new (Inside shape y) (rows_come rows (head_messages head))
  pub answer : (rows : List (List ℕ)) → head_messages made ≡ answers_from (tool_at old) from rows (head_messages head)
  pub none_due : due new ≡ []

-- rows were taken, if some come, and the rows that answer them are due
pub record HasTaken {W : Type 0} (tool_at : W → Tool) (ready_for : W → Shape → List (List ℕ) → Type 0)
    (due : W → List (List ℕ)) (old : W) (shape : Shape) (y : ℕ) (rows : List (List ℕ)) (new : W) : Type 0 where
  pub tool : tool_at new ≡ tool_at old
  pub ready : (come : List (List ℕ)) → IsReadyFor ready_for old (Inside shape y) come
      → IsReadyFor ready_for new (Inside shape (y + length rows)) (come ++ rows)
  pub answer : due new ≡ rows_answer (tool_at old) shape y rows

-- what is left of the result, where the image ends
abbrev pub end_answer_if : Bool → Tool → Shape → List (List ℕ) → List (List ℕ)
end_answer_if false tool shape rows = []
end_answer_if true tool shape rows = end_answer tool shape rows

-- the phase after a part
abbrev pub phase_of : Bool → Phase
phase_of false = Rows
phase_of true = RowsAndEnd

-- ready for more, unless the image ends
abbrev pub IsReadyUnless : {W : Type 0} → Bool → (W → Shape → List (List ℕ) → Type 0) → W → Place → List (List ℕ)
    → Type 0
IsReadyUnless false ready_for work place rows = IsReadyFor ready_for work place rows
IsReadyUnless true ready_for work place rows = Unit {0}

-- the image has ended, if it ends
pub record HasEnded {W : Type 0} (tool_at : W → Tool) (ready_for : W → Shape → List (List ℕ) → Type 0)
    (due : W → List (List ℕ)) (ends : Bool) (old : W) (shape : Shape) (y : ℕ) (new : W) : Type 0 where
  pub tool : tool_at new ≡ tool_at old
  pub ready : (come : List (List ℕ)) → IsReadyFor ready_for old (Inside shape y) come
      → IsReadyUnless ends ready_for new (Inside shape y) come
  pub answer : (come : List (List ℕ)) → IsReadyFor ready_for old (Inside shape y) come
      → due new ≡ due old ++ end_answer_if ends (tool_at old) shape come

-- ---- messages are given

-- where none is given, the caller knows; else some messages are
abbrev pub IsNoneDue : Option Packet → Pending → Pending → Type 0
IsNoneDue None old new = new.phase ≡ Idle
IsNoneDue (Some p) old new = (is_all_given old ≡ false) × (is_all_given new ≡ false) × (1 ≤ length (messages_in p))

-- the first of the messages that wait are given, if some do, and the others wait
pub record IsGiven {W : Type 0} (tool_at : W → Tool) (ready_for : W → Shape → List (List ℕ) → Type 0)
    (due kept : W → List (List ℕ)) (old : W) (before : Pending) (new : W) (after : Pending)
    (given : Option Packet) : Type 0 where
  pub waits : waiting_in before (due old) ≡ packet_list given ++ waiting_in after (due new)
  pub none_due : IsNoneDue given before after
  pub tool : tool_at new ≡ tool_at old
  pub ready : (place : Place) (rows : List (List ℕ)) → SuitsPlace due kept old place before.phase
      → IsReadyFor ready_for old place rows → IsReadyFor ready_for new place rows
  pub suits : (place : Place) → SuitsPlace due kept old place before.phase
      → SuitsPlace due kept new place after.phase

-- where rows are due, or could be
abbrev pub GivesRows : Phase → Type 0
GivesRows Idle = ⊥
GivesRows Rows = Unit {0}
GivesRows RowsAndEnd = Unit {0}
GivesRows StreamEnd = ⊥
GivesRows Stop = ⊥
GivesRows Done = ⊥

abbrev pub Gave : {W : Type 0} → (W → Tool) → (W → Shape → List (List ℕ) → Type 0) → (W → List (List ℕ))
    → (W → List (List ℕ)) → W → Pending → W → Pending → Result (Option Packet) ToolFault → Type 0
Gave tool_at ready_for due kept old before new after (Ok given) =
    IsGiven tool_at ready_for due kept old before new after given
Gave tool_at ready_for due kept old before new after (Err fault) = (fault ≡ Memory) × GivesRows before.phase
    × (tool_at new ≡ tool_at old)
