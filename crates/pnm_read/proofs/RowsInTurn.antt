-- Rows that are read in turn: what is said of them, and where no more are read.
use Rattle.pnm_read.proofs.Words.{is_plain_form, ◌≡◌, ℕ, zero, suc, ◌+◌, List, [], ◌∷◌, ◌++◌, length, map, Some, None, Result, Ok, Err, refl, sym, ap, ap₂, ◌∙◌}
use Rattle.pnm_read.proofs.Words.{append-nil, arith, Shape, Row, InputFault, Format, Said, then_said, says_fault, row_at, after_messages}
use Rattle.pnm_read.specs.Said.{rows_said}
use Rattle.pnm_read.proofs.EndSaid.{end_said}
use Rattle.pnm_read.proofs.GivenLaws.{messages_after, fault_after}

-- these rows are read in turn of a text, where n are to come; after them some more are, and a rest is left
abbrev pub RowsRead : Format → Shape → List (List ℕ) → ℕ → List ℕ → ℕ → List ℕ → Type 0
RowsRead format s [] n text more rest = (n ≡ more) × (text ≡ rest)
RowsRead format s (row ∷ rows) zero text more rest = ⊥
RowsRead format s (row ∷ rows) (suc n) text more rest = (left : List ℕ) × (row_at format s n text ≡ Ok (row, left)) × RowsRead format s rows n left more rest

-- the rows that were read, and those that are still to come, are all
pub rows_count : (format : Format) (s : Shape) (rows : List (List ℕ)) (n : ℕ) (text : List ℕ) (more : ℕ) (rest : List ℕ)
    → RowsRead format s rows n text more rest → n ≡ length rows + more
rows_count format s [] n text more rest read = let none : n ≡ more = read.0 in omega arith
rows_count format s (row ∷ rows) zero text more rest read = absurd read
rows_count format s (row ∷ rows) (suc n) text more rest read = omega (arith, rows_count format s rows n read.0 more rest read.2)

-- ---- what is said

-- what is said from a row on
abbrev pub said_from : (List ℕ → Said) → Format → Shape → ℕ → Result (List ℕ × List ℕ) InputFault → Said
said_from later format s more r = elim r [ Err fault ↦ says_fault fault | Ok row ↦ then_said (Row row.0) (rows_said later format s more row.1) ]

-- ---- where no more are read

-- no more rows are to come, or the next one is at fault
abbrev pub Stops : Format → Shape → ℕ → List ℕ → Type 0
Stops format s zero rest = Unit {0}
Stops format s (suc more) rest = (fault : InputFault) × (row_at format s more rest ≡ Err fault)

-- the rows of a text that are read
pub record AllRead (format : Format) (s : Shape) (n : ℕ) (text : List ℕ) : Type 0 where
  pub rows : List (List ℕ)
  pub more : ℕ
  pub rest : List ℕ
  pub read : RowsRead format s rows n text more rest
  pub stop : Stops format s more rest

one_more : {format : Format} {s : Shape} {n : ℕ} {text : List ℕ} (r : Result (List ℕ × List ℕ) InputFault) → row_at format s n text ≡ r
    → ((left : List ℕ) → AllRead format s n left) → AllRead format s (suc n) text
one_more {n} {text} (Err fault) e others = record { rows = []; more = suc n; rest = text; read = (refl, refl); stop = (fault, e) }
one_more {format} {s} {n} (Ok found) e others =
    let next : AllRead format s n found.1 = others found.1 in
    record { rows = found.0 ∷ next.rows; more = next.more; rest = next.rest; read = (found.1, e, next.read); stop = next.stop }

-- of every text some rows are read
pub all_read : (format : Format) {s : Shape} (n : ℕ) (text : List ℕ) → AllRead format s n text
all_read format zero text = record { rows = []; more = zero; rest = text; read = (refl, refl); stop = tt }
all_read format {s} (suc n) text = one_more (row_at format s n text) refl (λ left. all_read format n left)

module _ (later : List ℕ → Said) (format : Format) (s : Shape) where
  -- rows that are read are said, and then what is said of the rest
  pub read_rows_are_said : (rows : List (List ℕ)) (n : ℕ) (text : List ℕ) (more : ℕ) (rest : List ℕ) → RowsRead format s rows n text more rest
      → rows_said later format s n text ≡ after_messages (map Row rows) (rows_said later format s more rest)
  unfolding rows_said
  read_rows_are_said [] n text more rest read = ap₂ (λ (k : ℕ) (t : List ℕ). rows_said later format s k t) read.0 read.1
  read_rows_are_said (row ∷ rows) zero text more rest read = absurd read
  read_rows_are_said (row ∷ rows) (suc n) text more rest read =
      ap (said_from later format s n) read.1 ∙ ap (then_said (Row row)) (read_rows_are_said rows n read.0 more rest read.2)

  -- the messages of rows that are read come first
  pub read_rows_come_first : (rows : List (List ℕ)) (n : ℕ) (text : List ℕ) (more : ℕ) (rest : List ℕ) → RowsRead format s rows n text more rest
      → (rows_said later format s n text).messages ≡ map Row rows ++ (rows_said later format s more rest).messages
  read_rows_come_first rows n text more rest read =
      ap (λ (x : Said). x.messages) (read_rows_are_said rows n text more rest read)
      ∙ messages_after (map Row rows) (rows_said later format s more rest)

  -- a row at fault is said
  pub fault_is_said : (n more : ℕ) (text : List ℕ) {fault : InputFault} → n ≡ suc more → row_at format s more text ≡ Err fault
      → rows_said later format s n text ≡ says_fault fault
  unfolding rows_said
  fault_is_said n more text all e = ap (λ (n : ℕ). rows_said later format s n text) all ∙ ap (said_from later format s more) e

  -- where the next row is at fault, the messages are those of the rows that were read
  pub stopped_messages : (rows : List (List ℕ)) (n : ℕ) (text : List ℕ) (more : ℕ) (rest : List ℕ) {fault : InputFault}
      → RowsRead format s rows n text (suc more) rest → row_at format s more rest ≡ Err fault → (rows_said later format s n text).messages ≡ map Row rows
  unfolding rows_said
  stopped_messages rows n text more rest read e =
      read_rows_come_first rows n text (suc more) rest read
      ∙ ap (λ (r : Result (List ℕ × List ℕ) InputFault). map Row rows ++ (said_from later format s more r).messages) e ∙ append-nil (map Row rows)

  -- where all rows were read, the fault is that of what follows the image
  pub ended_fault : (rows : List (List ℕ)) (n : ℕ) (text rest : List ℕ) → RowsRead format s rows n text zero rest
      → (rows_said later format s n text).fault ≡ (end_said later (is_plain_form format.form) rest).fault
  unfolding rows_said
  ended_fault rows n text rest read =
      ap (λ (x : Said). x.fault) (read_rows_are_said rows n text zero rest read) ∙ fault_after (map Row rows) (rows_said later format s zero rest)

  -- where there is no fault, no more rows are to come
  pub no_more_to_come : (rows : List (List ℕ)) (n : ℕ) (text : List ℕ) (more : ℕ) (rest : List ℕ) → RowsRead format s rows n text more rest
      → Stops format s more rest → (rows_said later format s n text).fault ≡ None → more ≡ zero
  unfolding rows_said
  no_more_to_come rows n text zero rest read stop e = refl
  no_more_to_come rows n text (suc more) rest read stop e =
      let found : None ≡ Some stop.0 =
      sym e ∙ ap (λ (x : Said). x.fault) (read_rows_are_said rows n text (suc more) rest read)
      ∙ fault_after (map Row rows) (rows_said later format s (suc more) rest)
      ∙ ap (λ (r : Result (List ℕ × List ℕ) InputFault). (said_from later format s more r).fault) stop.1 in
      absurd cc
