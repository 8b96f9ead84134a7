-- What a tool at work has still to give for what it accepted last.
use Rattle.std.specs.Prelude.{ℕ, Bool, true, false, List, [], ◌∷◌, ◌++◌, Option}
use Rattle.pnm_image.specs.declared.message.Message.{Message}
use Rattle.pnm_image.specs.declared.message.Message.TheVariants.{ImageEnd, StreamEnd, Stop}
use Rattle.pnm_image.specs.Heads.{HeadValue}
use Rattle.pnm_image.specs.Parts.{head_messages}
use Rattle.pnm_image.specs.Rows.{row_messages, rows_list}
use Rattle.pnm_filters.specs.declared.pending.Pending.{Pending}
use Rattle.pnm_filters.specs.declared.pending.Phase.{Phase}
use Rattle.pnm_filters.specs.declared.pending.Phase.TheVariants.{Idle, Rows, RowsAndEnd, Done}
use Rattle.pnm_filters.specs.declared.pending.Phase.TheVariants.{StreamEnd as GivesEnd, Stop as GivesStop}

-- nothing is still to be given, and the caller knows
abbrev pub is_idle : Phase → Bool
is_idle Idle = true
is_idle Rows = false
is_idle RowsAndEnd = false
is_idle GivesEnd = false
is_idle GivesStop = false
is_idle Done = false

abbrev pub is_all_given : Pending → Bool
is_all_given pending = is_idle pending.phase

-- the messages that are still to be given in a phase, of a tool that still gives these rows
abbrev pub waiting_by : Phase → Option HeadValue → Option (List (List ℕ)) → List (List ℕ) → List Message
waiting_by Idle head ahead due = []
waiting_by Rows head ahead due = head_messages head ++ row_messages due
waiting_by RowsAndEnd head ahead due = head_messages head ++ (row_messages (rows_list ahead ++ due) ++ ImageEnd ∷ [])
waiting_by GivesEnd head ahead due = StreamEnd ∷ []
waiting_by GivesStop head ahead due = Stop ∷ []
waiting_by Done head ahead due = []

abbrev pub waiting_in : Pending → List (List ℕ) → List Message
waiting_in pending due = waiting_by pending.phase pending.head pending.ahead due
