-- How a piece is taken byte by byte.
use Rattle.std.specs.Prelude.{◌≡◌, ℕ, ◌⊎◌, List, [], ◌∷◌, ◌++◌, drop, Option, Some, None, Result, Ok, Err}
use Rattle.pnm_read.specs.declared.fault.InputFault.{InputFault}
use Rattle.pnm_read.specs.declared.fault.InputFault.TheVariants.{Memory}
use Rattle.pnm_read.specs.declared.scan_status.ScanStatus.{ScanStatus}
use Rattle.pnm_read.specs.declared.scan_status.ScanStatus.TheVariants.{GoesOn, EndsWith, EndsBefore, Fails}
use Rattle.pnm_read.specs.Items.{piece_from}
use Rattle.pnm_read.specs.Said.{IsOutsideFault}

-- what was taken after a byte was judged
abbrev pub TakesJudged : (List ℕ → Type 0) → (List ℕ → Type 0) → ScanStatus → List ℕ → ℕ → Type 0
TakesJudged is_after is_whole GoesOn before byte = is_after (before ++ byte ∷ [])
TakesJudged is_after is_whole EndsWith before byte = is_whole (before ++ byte ∷ [])
TakesJudged is_after is_whole EndsBefore before byte = is_whole before
TakesJudged is_after is_whole (Fails fault) before byte = Unit {0}

-- a byte was judged by those before it, and taken, unless memory ran out
abbrev pub JudgesByte : (List ℕ → ℕ → ScanStatus) → (List ℕ → Type 0) → (List ℕ → Type 0) → (List ℕ → Type 0) → ℕ
    → ScanStatus → Type 0
JudgesByte item was_after is_after is_whole byte scan_status =
    (before : List ℕ) → was_after before
    → ((scan_status ≡ item before byte) × TakesJudged is_after is_whole scan_status before byte)
    ⊎ (scan_status ≡ Fails Memory)

-- the end of the text was judged by the bytes before it
abbrev pub IfEnds : (List ℕ → Type 0) → List ℕ → Option InputFault → Type 0
IfEnds is_whole before (Some fault) = Unit {0}
IfEnds is_whole before None = is_whole before

abbrev pub JudgesEnd : (List ℕ → Option InputFault) → (List ℕ → Type 0) → (List ℕ → Type 0) → Option InputFault → Type 0
JudgesEnd at_end is_after is_whole fault = (before : List ℕ) → is_after before → (fault ≡ at_end before)
    × IfEnds is_whole before fault

-- bytes were taken after those before them; whatever follows them, the piece goes on, has ended or is at fault,
-- unless memory ran out
abbrev pub FeedsAfter : (List ℕ → ℕ → ScanStatus) → (List ℕ → Option InputFault) → (List ℕ → Type 0) → (List ℕ → Type 0)
    → List ℕ → Result (Option ℕ) InputFault → List ℕ → Type 0
FeedsAfter item at_end is_after is_whole bytes (Ok None) before =
    is_after (before ++ bytes)
    × ((rest : List ℕ) → piece_from item at_end before (bytes ++ rest) ≡ piece_from item at_end (before ++ bytes)
    rest)
FeedsAfter item at_end is_after is_whole bytes (Ok (Some taken)) before =
    (piece : List ℕ) × is_whole piece
    × ((rest : List ℕ) → piece_from item at_end before (bytes ++ rest) ≡ Ok (piece, drop taken bytes ++ rest))
FeedsAfter item at_end is_after is_whole bytes (Err fault) before =
    ((rest : List ℕ) → piece_from item at_end before (bytes ++ rest) ≡ Err fault) ⊎ (fault ≡ Memory)

abbrev pub Feeds : (List ℕ → ℕ → ScanStatus) → (List ℕ → Option InputFault) → (List ℕ → Type 0) → (List ℕ → Type 0)
    → (List ℕ → Type 0) → List ℕ → Result (Option ℕ) InputFault → Type 0
Feeds item at_end was_after is_after is_whole bytes result = (before : List ℕ) → was_after before
    → FeedsAfter item at_end is_after is_whole bytes result before

-- the piece of a text was found, or its fault
abbrev pub ScansAfter : (List ℕ → ℕ → ScanStatus) → (List ℕ → Option InputFault) → (List ℕ → Type 0)
    → Result (Unit {0}) InputFault → List ℕ → List ℕ → List ℕ → Type 0
ScansAfter item at_end is_whole (Ok _) before text after = (piece : List ℕ) × is_whole piece
    × (piece_from item at_end before text ≡ Ok (piece, after))
ScansAfter item at_end is_whole (Err fault) before text after = (piece_from item at_end before text ≡ Err fault)
    ⊎ IsOutsideFault fault

abbrev pub Scans : (List ℕ → ℕ → ScanStatus) → (List ℕ → Option InputFault) → (List ℕ → Type 0) → (List ℕ → Type 0)
    → Result (Unit {0}) InputFault → List ℕ → List ℕ → Type 0
Scans item at_end was_after is_whole result text after = (before : List ℕ) → was_after before
    → ScansAfter item at_end is_whole result before text after
